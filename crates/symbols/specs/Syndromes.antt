-- The syndromes of the two components of an interleaved word, as the code has them: four rows, the three digit rows and the row of ones,
-- whatever r is.
-- Assumes nothing.
use Rattle.std.specs.Prelude.{◌≡◌, Bool, List, [], ◌∷◌, ℕ, ◌+◌, ◌*◌, ◌≤◌, get_or, take, drop}
use Rattle.modular_theory.specs.Sum.{weight, dot}
use Rattle.code_theory.specs.Parameters.{Parameters}
use Rattle.code_theory.specs.Codeword.{alternate}
use Rattle.code_theory.specs.Profiles.{row}
use Rattle.modular.specs.Remainder.{residue}
use Rattle.symbols.specs.declared.sums.Unreduced.{Unreduced}
use Rattle.symbols.specs.declared.sums.Syndrome.{Syndrome}

-- q levels and n positions, with three digit rows and the row of ones
abbrev pub four_rows : ℕ → ℕ → Parameters
four_rows q n = row q 4 n

-- the rows in their order
abbrev pub rows : Syndrome → List ℕ
rows s = s.low ∷ s.mid ∷ s.high ∷ s.ones ∷ []

-- n symbols of the first component (true) or of the second in x: 0, then their symbols in turn
abbrev pub part : Bool → ℕ → List ℕ → List ℕ
part b n x = alternate b (drop 1 (take (2 * n + 1) x))

-- digit j of the column of index i
abbrev pub column_digit : List (List ℕ) → ℕ → ℕ → ℕ
column_digit columns j i = get_or (get_or columns i []) j 0

-- the sums mod q of a component c
unfoldable pub row_sums : ℕ → List (List ℕ) → List ℕ → List ℕ
row_sums q columns c =
    residue q (dot (column_digit columns 0) c)
    ∷ residue q (dot (column_digit columns 1) c)
    ∷ residue q (dot (column_digit columns 2) c)
    ∷ residue q (weight c)
    ∷ []

-- a product of two bytes more still fits 32 bits
pub record Light (s : Unreduced) : Type 0 where
  pub low : s.low ≤ 3121200
  pub mid : s.mid ≤ 3121200
  pub high : s.high ≤ 3121200
  pub ones : s.ones ≤ 3121200

-- r is s with the symbol x in the column more, a product of two bytes at most
pub record Added (s : Unreduced) (column : List ℕ) (x : ℕ) (r : Unreduced) : Type 0 where
  pub low : r.low ≡ s.low + get_or column 0 0 * x
  pub mid : r.mid ≡ s.mid + get_or column 1 0 * x
  pub high : r.high ≡ s.high + get_or column 2 0 * x
  pub ones : r.ones ≡ s.ones + x
  pub low_more : r.low ≤ s.low + 65025
  pub mid_more : r.mid ≤ s.mid + 65025
  pub high_more : r.high ≤ s.high + 65025
  pub ones_more : r.ones ≤ s.ones + 65025
