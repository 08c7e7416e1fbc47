-- `differences::difference_body` meets its contract. The invariant: the symbols passed have their differences in the array.
-- Assumes nothing.
use Prim.Native.Nat.{◌-◌, ◌≤◌}
use Rattle.differences.proofs.OneByOne.{DifferencedTo}
use Rattle.differences.proofs.difference_body.Given as goal

abbrev pub invariant-loop-i : goal.invariant-loop-i
invariant-loop-i l = DifferencedTo l.backward l.q l.word l.initial.x l.i l.x × (l.i - 1 ≤ l.i-end - 1)
