-- What moves the four rows of a syndrome by a column.
-- Assumes nothing.
use Rattle.std.specs.Prelude.{◌≡◌, ◌≢◌, ◌⊎◌, List, [], ◌∷◌, ℕ, ◌+◌, ◌-◌, ◌*◌, ◌%◌, ◌≤◌, ◌<◌, T, get_or, Option, Some, None}
use Rattle.decoding_theory.specs.Syndromes.{near_syndromes}
use Rattle.profiles.specs.declared.row.Row.{Row}
use Rattle.profiles.specs.Row.{parameters}
use Rattle.symbols.specs.declared.sums.Syndrome.{Syndrome}
use Rattle.syndromes.specs.Rows.{FourRows, rows_of}
use Rattle.decoder.specs.Multiples.{Multiples}

-- r is the index of column a of n columns, if there is one
abbrev pub ColumnIndex : ℕ → ℕ → Option ℕ → Type 0
ColumnIndex n a (Some r) = (a ≢ 0) × (a ≤ n) × (r ≡ a - 1)
ColumnIndex n a None = (a ≡ 0) ⊎ (n < a)

-- the four rows with f times a column of three digits and a 1 added
abbrev pub moved_rows : ℕ → ℕ → List ℕ → List ℕ → List ℕ
moved_rows q f column s =
    (get_or s 0 0 + f * get_or column 0 0) % q
    ∷ (get_or s 1 0 + f * get_or column 1 0) % q
    ∷ (get_or s 2 0 + f * get_or column 2 0) % q
    ∷ (get_or s 3 0 + f * 1) % q
    ∷ []

-- what moves four rows by a column: its digits and the rows are below q, and the multiples are those of the levels
pub record Movable (q : ℕ) (column s multiples : List ℕ) : Type 0 where
  pub some : 2 ≤ q
  pub levels : q ≤ 15
  pub first_digit : get_or column 0 0 < q
  pub second_digit : get_or column 1 0 < q
  pub third_digit : get_or column 2 0 < q
  pub low : get_or s 0 0 < q
  pub mid : get_or s 1 0 < q
  pub high : get_or s 2 0 < q
  pub ones : get_or s 3 0 < q
  pub table : Multiples q multiples

-- each row of y is that of s so moved
pub record RowsMoved (q f : ℕ) (column : List ℕ) (s y : Syndrome) : Type 0 where
  pub low : y.low ≡ (s.low + f * get_or column 0 0) % q
  pub mid : y.mid ≡ (s.mid + f * get_or column 1 0) % q
  pub high : y.high ≡ (s.high + f * get_or column 2 0) % q
  pub ones : y.ones ≡ (s.ones + f * 1) % q

-- the four rows of two syndromes that are near
pub record NearFourRows (t : Row) (s s' : List ℕ) : Type 0 where
  pub first_rows : FourRows t s
  pub second_rows : FourRows t s'
  pub near : T (near_syndromes (parameters t) (rows_of t s) (rows_of t s'))
