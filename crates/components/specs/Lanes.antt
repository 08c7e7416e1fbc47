-- The row sums of both components side by side, as the code has them: in sixteen bytes, the lanes.
-- Assumes nothing.
use Rattle.std.specs.Prelude.{◌≡◌, List, [], ◌∷◌, ◌++◌, ℕ, ◌+◌, ◌*◌, ◌<◌, length, get_or, replicate}
use Rattle.components.specs.PartialSums.{PartialSum}

-- the four rows of the first component, those of the second, and zeros
abbrev pub lanes : List ℕ → List ℕ → List ℕ
lanes a b = a ++ (b ++ replicate 8 0)

-- 01: a column, three digits and a 1 last
abbrev pub full_column : List ℕ → List ℕ
full_column d = get_or d 0 0 ∷ get_or d 1 0 ∷ get_or d 2 0 ∷ 1 ∷ []

-- for both components
abbrev pub column_lanes : List ℕ → List ℕ
column_lanes d = lanes (full_column d) (full_column d)

-- a symbol of each, for all its rows
abbrev pub symbol_lanes : ℕ → ℕ → List ℕ
symbol_lanes a b = lanes (replicate 4 a) (replicate 4 b)

-- four lanes, from one on
abbrev pub four_lanes : List ℕ → ℕ → List ℕ
four_lanes s k = get_or s k 0 ∷ get_or s (k + 1) 0 ∷ get_or s (k + 2) 0 ∷ get_or s (k + 3) 0 ∷ []

-- each lane is below q
abbrev pub LanesBelow : ℕ → List ℕ → Type 0
LanesBelow q l = (j : ℕ) → j < 16 → get_or l j 0 < q

-- in each lane a step is made, from s to r
pub record LanesAccumulated (q : ℕ) (s column x r : List ℕ) : Type 0 where
  pub size : length r ≡ 16
  pub at : (j : ℕ) → j < 16 → PartialSum q (get_or s j 0 + get_or column j 0 * get_or x j 0) (get_or r j 0)
