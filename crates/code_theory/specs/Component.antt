-- The component code (01: How a word is made, 1 and 2): what a component word is, and which one holds a message.
-- Assumes nothing.
use Rattle.std.specs.Prelude.{Bool, true, false, not, ◌&&◌, ◌||◌, List, [], ◌∷◌, ◌++◌, ℕ, zero, suc, ◌-◌, ◌%◌, ◌^◌, ◌<◌, eqb, ltb, length, get_or, drop}
use Rattle.modular_theory.specs.Search.{all_below, least, any_below}
use Rattle.modular_theory.specs.Sum.{dot}
use Rattle.modular_theory.specs.Digits.{digits}
use Rattle.code_theory.specs.Parameters.{Parameters}

-- every symbol is below q
abbrev pub symbols_below : ℕ → List ℕ → Bool
symbols_below q [] = true
symbols_below q (x ∷ xs) = ltb x q && symbols_below q xs

-- the same as a fact of every index; past the end the symbols are 0
abbrev pub Below : ℕ → List ℕ → Type 0
Below q c = (i : ℕ) → get_or c i 0 < q

-- n symbols, each below q
abbrev pub is_word : ℕ → ℕ → List ℕ → Bool
is_word q n c = eqb (length c) n && symbols_below q c

-- 02: the mark, which the level detector hands over for a symbol that falls between two levels
abbrev pub erasure : ℕ
erasure = 255

-- every symbol is below q or an erasure
abbrev pub levels_or_erasures : ℕ → List ℕ → Bool
levels_or_erasures q [] = true
levels_or_erasures q (x ∷ xs) = (ltb x q || eqb x erasure) && levels_or_erasures q xs

-- the symbols of a received word: each is one of the profile's levels or an erasure, and any word of them may arrive
abbrev pub is_received : Parameters → List ℕ → Bool
is_received p u = levels_or_erasures p.q u

-- 01: column i, the r - 1 digits of i in base q and a 1 as the last row
abbrev pub column : Parameters → ℕ → List ℕ
column p i = digits p.q (p.r - 1) i ++ (1 ∷ [])

-- row j of the check matrix: its entry for the symbol at index i, which is position i + 1
abbrev pub check_row : Parameters → ℕ → ℕ → ℕ
check_row p j i = get_or (column p (suc i)) j 0

-- 01: check row sum, of row j
unfoldable pub syndrome : Parameters → List ℕ → ℕ → ℕ
syndrome p c j = dot (check_row p j) c % p.q

-- 01: in code, each of the r row sums is 0
unfoldable pub in_code : Parameters → List ℕ → Bool
in_code p c = all_below (λ j. eqb (syndrome p c j) 0) p.r

-- 01: the check places, 2 and 1, q, q², up to q^(r-2)
unfoldable pub is_check : Parameters → ℕ → Bool
is_check p i = eqb i 2 || any_below (λ j. eqb i (p.q ^ j)) (p.r - 1)

-- the test for the symbol at index i, which is position i + 1
abbrev pub check_at : Parameters → ℕ → Bool
check_at p i = is_check p (suc i)

-- the symbols at the indices that pass the test, in rising order
abbrev pub keep : (ℕ → Bool) → List ℕ → List ℕ
keep t [] = []
keep t (x ∷ xs) = elim (t 0) [ true ↦ x ∷ keep (λ i. t (suc i)) xs | false ↦ keep (λ i. t (suc i)) xs ]

-- 01: the user word of a half
unfoldable pub message : Parameters → List ℕ → List ℕ
message p c = keep (λ i. not (check_at p i)) c

-- n symbols: at the indices that pass the test those of e, at the others those of a, each in rising order
abbrev pub merge : (ℕ → Bool) → ℕ → List ℕ → List ℕ → List ℕ
merge t zero e a = []
merge t (suc n) e a =
    elim (t 0) [
      | true ↦ get_or e 0 0 ∷ merge (λ i. t (suc i)) n (drop 1 e) a
      | false ↦ get_or a 0 0 ∷ merge (λ i. t (suc i)) n e (drop 1 a)
    ]

-- a component word with message a and, for check symbols, the r digits of e
unfoldable pub candidate : Parameters → List ℕ → ℕ → List ℕ
candidate p a e = merge (check_at p) p.n (digits p.q p.r e) a

-- 01: the half of a user word, the candidate that is in code
unfoldable pub component : Parameters → List ℕ → List ℕ
component p a = candidate p a (least (λ e. in_code p (candidate p a e)) (p.q ^ p.r))
