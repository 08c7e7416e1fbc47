-- The table of columns that a profile's components share.
-- Assumes nothing.
use Rattle.std.specs.Prelude.{◌≡◌, true, false, List, [], ◌∷◌, ◌++◌, ℕ, zero, suc, min, ◌-◌, ◌<◌, eqb, get_or, replicate}
use Rattle.modular_theory.specs.Digits.{digits}

-- row i, of n, holds three digits of position i + 1: 01's column without its last 1, and zeros where r - 1 is below three
pub record Columns (q n : ℕ) (columns : List (List ℕ)) : Type 0 where
  pub at : (i : ℕ) → i < n → get_or columns i [] ≡ digits q 3 (suc i)

-- three digits below q
pub record AllBelow (q : ℕ) (d : List ℕ) : Type 0 where
  pub first : get_or d 0 0 < q
  pub second : get_or d 1 0 < q
  pub third : get_or d 2 0 < q

-- three digits of each of k positions, from position i on
abbrev pub digit_rows : ℕ → ℕ → ℕ → List (List ℕ)
digit_rows q i zero = []
digit_rows q i (suc k) = digits q 3 i ∷ digit_rows q (suc i) k

-- k rows of zeros
abbrev pub rows_of_zeros : ℕ → List (List ℕ)
rows_of_zeros k = replicate k (replicate 3 0)

-- how many positions have a column: up to n, 48 at most, and none where there are no levels
unfoldable pub positions : ℕ → ℕ → ℕ
positions q n = elim (eqb q 0) [ true ↦ 0 | false ↦ min n 48 ]

-- the table of 48 rows: those positions, and rows of zeros after them
unfoldable pub columns_of : ℕ → ℕ → List (List ℕ)
columns_of q n = digit_rows q 1 (positions q n) ++ rows_of_zeros (48 - positions q n)
