-- `walk` meets its contract. The invariant: what is left to walk gives the test, the counts and the cell of the whole list.
-- Assumes nothing.
use mathlib.Core.Path.{◌≡◌}
use Prim.Native.Nat.{◌-◌}
use Rattle.soundness.specs.Walked.{is_used}
use Rattle.soundness.proofs.Walks.{Walk}
use Rattle.soundness.proofs.lists.walk.Given as goal

abbrev pub invariant-loop-met : goal.invariant-loop-met
invariant-loop-met l =
    Walk l.queue (is_used l.kind) l.first l.number l.initial.seen l.seen (l.met-end - l.met) l.cell l.found.cell l.met × (l.found.records ≡ l.met)
