-- `differences::correct_differences` meets its contract: the symbol's own difference, where it has one, and then the one after it.
-- Assumes nothing.
use mathlib.Core.Path.{sym, subst}
use Prim.Native.Nat.{◌<◌}
use native.Mathlib.Omega.{arith}
use lib.ListN.{length}
use Rattle.differences.proofs.Correcting.{OwnCorrected, own_none, own_corrected, none_corrected, next_none, next_corrected}
use Rattle.differences.proofs.correct_differences.Goals as goal
use Rattle.differences.proofs.correct_differences.Goals.{Joined-i-gt0, then-i-gt0, else-i-gt0}

-- once the symbol's own difference is in the array
own : (c : Joined-i-gt0) → OwnCorrected c.args.backward c.args.q c.args.word.now c.args.x.now c.args.i c.args.y c.if-i-gt0.x
own c =
    let inside : c.args.i < length c.args.word.now = omega arith in
    elim c.if-i-gt0.branch [
      | then-i-gt0 w ↦
          subst (OwnCorrected _ _ _ _ _ _) (sym w.x-is)
          (own_corrected _ _ _ _ _ _ w.if-i-gt0.true inside w.neighbour_difference.ensures)
      | else-i-gt0 w ↦ subst (OwnCorrected _ _ _ _ _ _) (sym w.x-is) (own_none _ _ _ _ _ _ w.if-i-gt0.false)
    ]

pub returns-then-end-i : goal.returns-then-end-i
returns-then-end-i c = none_corrected _ _ c.args.word.now _ _ c.args.y _ c.available-end.ensures c.if-end-i.true

pub returns-then-next-end : goal.returns-then-next-end
returns-then-next-end c =
    next_corrected _ _ _ _ _ _ _ c.available-end.ensures c.if-end-i.false c.if-next-end.true
    (own (goal.at.returns-then-next-end c).Joined-i-gt0) c.neighbour_difference-then-next-end.ensures

pub returns-else-next-end : goal.returns-else-next-end
returns-else-next-end c =
    next_none _ _ _ _ _ _ _ c.available-end.ensures c.if-end-i.false c.if-next-end.false
    (own (goal.at.returns-else-next-end c).Joined-i-gt0)
