-- The table of cells seen: how often each cell has been met.
-- Assumes nothing.
use Rattle.std.specs.Prelude.{List, [], ◌∷◌, ℕ, ◌+◌, ◌≤◌, get_or, set}

-- the table after the cells of a list have been met
abbrev pub tallied : List ℕ → List ℕ → List ℕ
tallied t [] = t
tallied t (c ∷ l) = tallied (set t c (get_or t c 0 + 1)) l

-- no cell has been met more than n times
abbrev pub AtMost : ℕ → List ℕ → Type 0
AtMost n t = (i : ℕ) → get_or t i 0 ≤ n
