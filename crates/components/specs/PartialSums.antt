-- The sums that form the check symbols of a component: what is carried from symbol to symbol (02, T-05: No wide multiply).
-- Assumes nothing.
use Rattle.std.specs.Prelude.{List, ℕ, ◌<◌, length, get_or}
use Rattle.modular_theory.specs.Sum.{dot}
use Rattle.modular_theory.specs.Residue.{Congruent}
use Rattle.code_theory.specs.Component.{check_row}
use Rattle.code_theory.specs.Profiles.{row}

-- 02: what is carried, s, is below q and equal mod q to the sum so far
pub record PartialSum (q sum s : ℕ) : Type 0 where
  pub below : s < q
  pub same : Congruent q s sum

-- what is carried in each row once the symbols c of a component were passed: three digit rows, whatever r is (where 01 has two, the third
-- is zeros), and the row of ones
pub record PartialSums (q : ℕ) (c s : List ℕ) : Type 0 where
  pub at : (j : ℕ) → j < 4 → PartialSum q (dot (check_row (row q 4 (length c)) j) c) (get_or s j 0)
