-- `encoder::balance::summed` meets its contract. The invariant: the sums passed are written, and `sum` is the last.
-- Assumes nothing.
use native.Mathlib.Omega.{arith}
use Rattle.encoder.proofs.Integrating.{prefix_more}
use Rattle.encoder.proofs.balance.summed.Goals as goal

pub loop-i-preserved : goal.loop-i-preserved
loop-i-preserved c = prefix_more c.loop-i.invariant (omega arith) c.from-sum.ensures (omega arith)
