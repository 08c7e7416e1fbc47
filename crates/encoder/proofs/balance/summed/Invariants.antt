-- `encoder::balance::summed` meets its contract. The invariant: the sums passed are written, and `sum` is the last.
-- Assumes nothing.
use Rattle.encoder.proofs.Integrating.{PrefixSumming}
use Rattle.encoder.proofs.balance.summed.Given as goal

abbrev pub invariant-loop-i : goal.invariant-loop-i
invariant-loop-i l = PrefixSumming l.x l.sums l.sum l.i
