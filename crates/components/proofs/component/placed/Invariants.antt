-- `components::component::placed` meets its contract. The invariant: the symbols passed are those of the merged words, and `power` is the
-- next power of q.
-- Assumes nothing.
use Rattle.profiles.specs.Row.{parameters}
use Rattle.components.proofs.Placing.{Pair}
use Rattle.components.proofs.component.placed.Given as goal

abbrev pub invariant-loop-position : goal.invariant-loop-position
invariant-loop-position l = Pair (parameters l.fn.row) l.first l.second l.x l.power l.next l.position
