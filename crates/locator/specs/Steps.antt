-- What the steps to the position of an error promise each other.
-- Assumes nothing.
use Rattle.std.specs.Prelude.{◌≡◌, Bool, true, false, List, ℕ, ◌+◌, ◌%◌, ◌≤◌, ◌<◌, eqb, ltb, get_or, ℤ, Option, Some, None}
use Rattle.modular_theory.specs.Search.{all_below}
use Rattle.code_theory.specs.Parameters.{Parameters}
use Rattle.decoding_theory.specs.Syndromes.{times}
use Rattle.decoding_theory.specs.Decoded.{position_count}
use Rattle.locating_theory.specs.ErrorPosition.{gain_without, error_index}
use Rattle.locating_theory.specs.Candidates.{inverse_of}
use Rattle.modular.specs.Remainder.{residue}
use Rattle.profiles.specs.declared.row.Row.{Row}
use Rattle.profiles.specs.Row.{parameters}
use Rattle.syndromes.specs.Rows.{FourRows, rows_of}

-- g is what the components gain where the error e is taken out
pub record Gain (t : Row) (e : ℤ) (g : ℕ) : Type 0 where
  pub is : g ≡ gain_without (parameters t) e
  pub upto : g ≤ t.q

-- i is the inverse of g mod q, if there is one
abbrev pub Inverse : ℕ → ℕ → Option ℕ → Type 0
Inverse q g (Some i) = (i ≡ inverse_of q g) × (i < q)
Inverse q g None = q ≤ inverse_of q g

-- a digit row that only a profile of `fewest` rows or more has
abbrev pub digit_row : ℕ → ℕ → ℕ → ℕ
digit_row r fewest x = elim (ltb r fewest) [ true ↦ 0 | false ↦ x ]

-- each of four rows is a level
unfoldable pub level_rows : ℕ → List ℕ → Bool
level_rows q s = all_below (λ j. ltb (get_or s j 0) q) 4

-- s' are four rows, and their r rows are those of s mod q
pub record ReducedRows (t : Row) (s s' : List ℕ) : Type 0 where
  pub levels : FourRows t s'
  pub row : (j : ℕ) → j < t.r → get_or (rows_of t s') j 0 ≡ get_or (rows_of t s) j 0 % t.q

-- the row of ones of the first component, s, is 0 once the components gain g at an index of the parity b that meets one of its columns
abbrev pub ones_vanish : Row → Bool → ℕ → ℕ → Bool
ones_vanish t b g s = eqb (residue t.q (s + times (parameters t) true b g)) 0

-- k is the index of the error, if it has one of the parity
abbrev pub LocatedIndex : Parameters → Bool → ℤ → List ℕ → List ℕ → Option ℕ → Type 0
LocatedIndex p b e S S' (Some k) = (k ≡ error_index p b e S S') × (k < position_count p b)
LocatedIndex p b e S S' None = position_count p b ≤ error_index p b e S S'
