-- Reading a received word: by the lawful words near it (01: Reading) or, where symbols are erased, by those that agree with it (02, T-01).
-- Assumes nothing.
use Rattle.std.specs.Prelude.{Bool, true, false, not, List, [], ◌∷◌, ℕ, suc, ◌+◌, ◌^◌, eqb, ltb, length, get_or, drop, set, ℤ, pos, ◌-ℤ◌}
use Rattle.modular_theory.specs.Search.{least, any_below}
use Rattle.code_theory.specs.Parameters.{Parameters}
use Rattle.code_theory.specs.Component.{erasure}
use Rattle.code_theory.specs.Codeword.{codeword, carried}
use Rattle.code_theory.specs.Erasures.{erasures, filling, first_filling}

-- the places in which two words differ, the longer word's tail among them
abbrev pub distance : List ℕ → List ℕ → ℕ
distance [] ys = length ys
distance (x ∷ xs) [] = suc (length xs)
distance (x ∷ xs) (y ∷ ys) = elim (eqb x y) [ true ↦ distance xs ys | false ↦ suc (distance xs ys) ]

-- what is said of a corrected symbol: its position (01: place), from 1, the symbol sent there, and the error (02, T-02: the fault), the
-- symbol received minus the symbol sent
pub record Correction : Type 0 where
  pub position : ℕ
  pub symbol : ℕ
  pub error : ℤ

-- the symbol at index i arrived as x and was sent as y
abbrev pub correction_at : ℕ → ℕ → ℕ → Correction
correction_at i x y = record { position = i + 1; symbol = y; error = pos x -ℤ pos y }

-- what is said of a position (01: place), from 1, that arrived otherwise than sent: the symbol sent there
pub record Change : Type 0 where
  pub position : ℕ
  pub symbol : ℕ

abbrev pub change : ℕ → ℕ → Change
change i y = record { position = i; symbol = y }

-- 01: kind, clean or mended, with what is said of the change; 02: filled, with the erased positions in rising order
pub data Finding : Type 0 where
  clean : Finding
  corrected : Correction → Finding
  filled : List Change → Finding

-- the positions of a finding and the symbols sent there; 01: both 0 if clean
abbrev pub changes_of : Finding → List Change
changes_of clean = change 0 0 ∷ []
changes_of (corrected c) = change c.position c.symbol ∷ []
changes_of (filled cs) = cs

-- the error of a finding; 02: clean and filled words carry 0
abbrev pub error_of : Finding → ℤ
error_of clean = pos 0
error_of (corrected c) = c.error
error_of (filled cs) = pos 0

-- the first index at which two words differ; the length of v where there is none
unfoldable pub differs_at : List ℕ → List ℕ → ℕ
differs_at v u = least (λ i. not (eqb (get_or v i 0) (get_or u i 0))) (length v)

-- what is found where v arrived and u was sent
unfoldable pub finding_of : List ℕ → List ℕ → Finding
finding_of v u =
    elim (ltb (differs_at v u) (length v)) [
      | true ↦ let i = differs_at v u in corrected (correction_at i (get_or v i 0) (get_or u i 0))
      | false ↦ clean
    ]

-- 01: the answer to a word that numbers 1 to 3 and 11 let through: what was found, and the pair; or 4
pub data Reading : Type 0 where
  read : Finding → List ℕ → List ℕ → Reading
  unreadable : Reading

-- the answer that gives a codeword's pair
abbrev pub read_as : Parameters → Finding → List ℕ → Reading
read_as p f u = read f (carried p true u) (carried p false u)

-- y in place of the symbol at index i makes u a codeword
unfoldable pub mends : Parameters → List ℕ → ℕ → ℕ → Bool
mends p u i y = codeword p (set u i y)

-- the first index at which a level does; u's length where there is none
unfoldable pub changed_at : Parameters → List ℕ → ℕ
changed_at p u = least (λ i. any_below (mends p u i) p.q) (length u)

-- that level
unfoldable pub sent_at : Parameters → List ℕ → ℕ → ℕ
sent_at p u i = least (mends p u i) p.q

-- the answer to a word that is no codeword: by a codeword that differs from it in one place
unfoldable pub near_reading : Parameters → List ℕ → Reading
near_reading p u =
    elim (ltb (changed_at p u) (length u)) [
      | true ↦
          let i = changed_at p u in
          let y = sent_at p u i in
          read_as p (corrected (correction_at i (get_or u i 0) y)) (set u i y)
      | false ↦ unreadable
    ]

-- 01: Reading
unfoldable pub reading : Parameters → List ℕ → Reading
reading p u = elim (codeword p u) [ true ↦ read_as p clean u | false ↦ near_reading p u ]

-- the erased positions of v, whose first symbol is at position i, with the symbols of u there
abbrev pub changes_at : ℕ → List ℕ → List ℕ → List Change
changes_at i [] u = []
changes_at i (x ∷ xs) u =
    elim (eqb x erasure) [
      | true ↦ change i (get_or u 0 0) ∷ changes_at (suc i) xs (drop 1 u)
      | false ↦ changes_at (suc i) xs (drop 1 u)
    ]

-- the answer that gives the pair of u, a codeword that agrees with v
abbrev pub filled_as : Parameters → List ℕ → List ℕ → Reading
filled_as p v u = read_as p (filled (changes_at 1 v u)) u

-- 02: the answer to a word with marks: by the first filling that is a codeword, and no other symbol is changed
unfoldable pub filled_reading : Parameters → List ℕ → Reading
filled_reading p v =
    elim (ltb (first_filling p v) (p.q ^ erasures v)) [ true ↦ filled_as p v (filling p v (first_filling p v)) | false ↦ unreadable ]

-- the answer to a received word: 01's, and 02's where a symbol is erased
unfoldable pub received_reading : Parameters → List ℕ → Reading
received_reading p v = elim (eqb (erasures v) 0) [ true ↦ reading p v | false ↦ filled_reading p v ]
