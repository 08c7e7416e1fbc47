-- `each_once` meets its contract. The invariant: `once` says it of the cells passed.
-- Assumes nothing.
use mathlib.Core.Path.{◌≡◌}
use Prim.Native.Nat.{suc}
use lib.Dec.{eqb}
use lib.ListN.{get_or}
use Rattle.modular_theory.specs.Search.{all_below}
use Rattle.soundness.proofs.lists.each_once.Given as goal

abbrev pub invariant-loop-met : goal.invariant-loop-met
invariant-loop-met l = l.once ≡ all_below (λ j. eqb (get_or l.seen (suc j) 0) 1) l.met-index
