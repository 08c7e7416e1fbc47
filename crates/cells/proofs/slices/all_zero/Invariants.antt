-- `all_zero` meets its contract. The invariant: the highest of the bytes passed is 0 exactly where they all are.
-- Assumes nothing.
use mathlib.Core.Path.{◌≡◌}
use lib.Dec.{eqb}
use lib.ListN.{take}
use Rattle.queue_theory.specs.Lists.{all_zero}
use Rattle.cells.proofs.slices.all_zero.Given as goal

abbrev pub invariant-loop-x : goal.invariant-loop-x
invariant-loop-x l = eqb l.highest 0 ≡ all_zero (take l.x-index l.s)
