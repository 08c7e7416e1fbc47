-- `components::sums::residues` meets its contract: levels are their own residues. The invariant: the symbols passed are reduced, and the
-- others are as they were.
-- Assumes nothing.
use mathlib.Core.Path.{◌≡◌}
use Prim.Native.Nat.{ℕ, ◌%◌, ◌≤◌, ◌<◌}
use lib.ListN.{get_or}
use Rattle.components.proofs.sums.residues.Given as goal

abbrev pub invariant-loop-symbol : goal.invariant-loop-symbol
invariant-loop-symbol l = ((k : ℕ) → k < l.symbol-index → get_or l.symbol-items k 0 ≡ get_or l.fn.x k 0 % l.q)
    × ((k : ℕ) → l.symbol-index ≤ k → get_or l.symbol-items k 0 ≡ get_or l.fn.x k 0)
