-- Syndromes as the code has them, four rows whatever r is, against the r rows of crate decoding_theory.
-- Assumes nothing.
use Rattle.std.specs.Prelude.{◌≡◌, true, false, List, ℕ, suc, ◌-◌, ◌≤◌, ◌<◌, eqb, get_or}
use Rattle.decoding_theory.specs.Syndromes.{tabulate, moved}
use Rattle.profiles.specs.declared.row.Row.{Row}
use Rattle.profiles.specs.Row.{parameters}

-- where row j of r stands among the four: the digit rows first, and the row of ones last
abbrev pub row_index : ℕ → ℕ → ℕ
row_index r j = elim (eqb (suc j) r) [ true ↦ 3 | false ↦ j ]

-- the r rows among them
unfoldable pub rows_of : Row → List ℕ → List ℕ
rows_of t s = tabulate (λ j. get_or s (row_index t.r j) 0) t.r

-- the same, by r alone
unfoldable pub rows_among : ℕ → List ℕ → List ℕ
rows_among r s = tabulate (λ j. get_or s (row_index r j) 0) r

-- each of the four is below q, and the digit rows that r does not have are 0
pub record FourRows (t : Row) (s : List ℕ) : Type 0 where
  pub below : (j : ℕ) → j < 4 → get_or s j 0 < t.q
  pub unused : (j : ℕ) → t.r - 1 ≤ j → j < 3 → get_or s j 0 ≡ 0

-- s' are four rows again, and their r rows are those of s with f times column a added
pub record Moved (t : Row) (f a : ℕ) (s s' : List ℕ) : Type 0 where
  pub levels : FourRows t s'
  pub are : rows_of t s' ≡ moved (parameters t) f a (rows_of t s)
