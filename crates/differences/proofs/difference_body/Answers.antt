-- `differences::difference_body` meets its contract. The invariant: the symbols passed have their differences in the array.
-- Assumes nothing.
use native.Mathlib.Omega.{arith}
use Rattle.differences.proofs.OneByOne.{differenced_none, differenced_more, differenced_all}
use Rattle.differences.proofs.difference_body.Goals as goal

pub loop-i-init : goal.loop-i-init
loop-i-init c = (differenced_none, omega arith)

pub loop-i-preserved : goal.loop-i-preserved
loop-i-preserved c = (differenced_more c.loop-i.invariant.0 (omega arith) c.neighbour_difference.ensures, omega arith)

pub returns : goal.returns
returns c = differenced_all _ c.loop-i.invariant.0 c.available-i-end.ensures (omega arith) (omega arith)
