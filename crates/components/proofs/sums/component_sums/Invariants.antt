-- `components::sums::component_sums` meets its contract. The invariant: what is carried, in each row of each component, is below q and
-- equal mod q to the sum of the symbols passed.
-- Assumes nothing.
use Rattle.components.proofs.Carrying.{Carrying}
use Rattle.components.proofs.sums.component_sums.Given as goal

abbrev pub invariant-loop-i : goal.invariant-loop-i
invariant-loop-i l = Carrying l.q l.n l.x l.s l.i
