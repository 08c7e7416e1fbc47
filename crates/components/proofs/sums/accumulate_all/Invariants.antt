-- `components::sums::accumulate_all` meets its contract. The invariant: a step is made in the lanes passed.
-- Assumes nothing.
use Rattle.components.proofs.Carrying.{Made}
use Rattle.components.proofs.sums.accumulate_all.Given as goal

abbrev pub invariant-loop-j : goal.invariant-loop-j
invariant-loop-j l = Made l.q l.initial.s l.column l.x l.s l.j
