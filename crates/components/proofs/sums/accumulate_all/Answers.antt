-- `components::sums::accumulate_all` meets its contract. The invariant: a step is made in the lanes passed.
-- Assumes nothing.
use native.Mathlib.Nat.{le_refl}
use native.Mathlib.Omega.{arith}
use Rattle.components.proofs.Carrying.{made_more}
use Rattle.components.proofs.sums.accumulate_all.Goals as goal

pub loop-j-preserved : goal.loop-j-preserved
loop-j-preserved c =
    let inv = c.loop-j.invariant in
    made_more inv (omega arith) (rw (inv.kept c.loop-j.j (le_refl c.loop-j.j)) at c.accumulated.ensures)
