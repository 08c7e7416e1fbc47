-- `link` meets its contract. The invariant: what is left to link makes of the queue what all links make of it at the start.
-- Assumes nothing.
use mathlib.Core.Path.{◌≡◌}
use Prim.Native.Nat.{◌-◌}
use lib.ListN.{length}
use Rattle.queue_theory.specs.Operations.{linked}
use Rattle.cells.proofs.link.Given as goal

abbrev pub invariant-loop-i : goal.invariant-loop-i
invariant-loop-i l = (linked l.initial.queue 1 (l.i-end - 1) ≡ linked l.queue l.i (l.i-end - l.i)) × (length l.queue ≡ length l.initial.queue)
