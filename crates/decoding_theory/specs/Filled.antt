-- Filling erased symbols in linear time: the sums over the word with 0 at the erased positions once, then at most q tries, each of which
-- moves the sums.
-- Assumes nothing.
use Rattle.std.specs.Prelude.{Bool, true, false, ◌&&◌, List, [], ◌∷◌, ℕ, ◌+◌, ◌*◌, ◌/◌, ◌%◌, eqb, ltb, get_or, set, pos, ◌+ℤ◌, ◌-ℤ◌}
use Rattle.modular_theory.specs.Level.{level_of, is_zero}
use Rattle.modular_theory.specs.Search.{least}
use Rattle.code_theory.specs.Parameters.{Parameters, balanced_length}
use Rattle.code_theory.specs.Erasures.{erased_indices, fill}
use Rattle.code_theory.specs.Reading.{Change, change, filled, Reading, unreadable}
use Rattle.decoding_theory.specs.Syndromes.{tabulate, near_syndromes, moved_of}
use Rattle.decoding_theory.specs.Decoded.{Sums, sums, update, gain_by, read_by, agrees}

-- what one more of the symbol at index k of the parity b adds to component c's syndrome
unfoldable pub added_by_one : Parameters → Bool → Bool → ℕ → List ℕ
added_by_one p c b k = moved_of p c b k (gain_by p 1) []

-- an erased symbol: one of the body, of the parity b, of which one more adds E and E' to the syndromes; or the check symbol of that parity
pub data Erased : Type 0 where
  in_body : Bool → List ℕ → List ℕ → Erased
  as_check : Bool → Erased

-- the one at index i of the word
unfoldable pub erased_at : Parameters → ℕ → Erased
erased_at p i =
    elim (ltb i (balanced_length p)) [
      | true ↦ let b = eqb (i % 2) 0 in in_body b (added_by_one p true b (i / 2)) (added_by_one p false b (i / 2))
      | false ↦ as_check (eqb i (balanced_length p))
    ]

-- y times E added to a syndrome
unfoldable pub plus_multiple : Parameters → ℕ → List ℕ → List ℕ → List ℕ
plus_multiple p y E S = tabulate (λ j. (get_or S j 0 + y * get_or E j 0) % p.q) p.r

-- the sums once y stands where 0 stood
abbrev pub sums_with : Parameters → Erased → ℕ → Sums → Sums
sums_with p (in_body b E E') y t =
    record {
      excess = t.excess +ℤ pos y;
      asked = update b ((t.asked b + y) % p.q) t.asked;
      arrived = t.arrived;
      first = plus_multiple p y E t.first;
      second = plus_multiple p y E' t.second;
    }
sums_with p (as_check b) y t =
    record { excess = t.excess; asked = t.asked; arrived = update b y t.arrived; first = t.first; second = t.second }

-- the body is balanced, and both check symbols are as asked
unfoldable pub consistent : Sums → Bool
consistent t = is_zero t.excess && agrees t true && agrees t false

-- the sums are those of a codeword
unfoldable pub codeword_sums : Parameters → Sums → Bool
codeword_sums p t = consistent t && near_syndromes p t.first t.second

-- the only symbol that can stand there: what takes the excess away, and q where it is no level; or the check symbol asked for
abbrev pub wanted : ℕ → Erased → Sums → ℕ
wanted q (in_body b E E') t = level_of q (pos 0 -ℤ t.excess)
wanted q (as_check b) t = t.asked b

-- it is a level, and makes a codeword
unfoldable pub fillable : Parameters → Erased → Sums → Bool
fillable p d t = ltb (wanted p.q d t) p.q && codeword_sums p (sums_with p d (wanted p.q d t) t)

-- what erased symbols are filled with, the symbols and the syndromes then; or nothing
pub data Filling : Type 0 where
  fills : List ℕ → List ℕ → List ℕ → Filling
  nothing : Filling

abbrev pub filled_with : List ℕ → Sums → Filling
filled_with ys t = fills ys t.first t.second

-- one erased symbol: what is wanted there, if it makes a codeword
unfoldable pub fill_one : Parameters → Erased → Sums → Filling
fill_one p d t =
    let y : ℕ = wanted p.q d t in
    elim (fillable p d t) [ true ↦ filled_with (y ∷ []) (sums_with p d y t) | false ↦ nothing ]

-- two: the first level of the first for which the second can be filled; q where there is none
unfoldable pub first_level : Parameters → Erased → Erased → Sums → ℕ
first_level p d d' t = least (λ y. fillable p d' (sums_with p d y t)) p.q

unfoldable pub fill_two : Parameters → Erased → Erased → Sums → Filling
fill_two p d d' t =
    let y : ℕ = first_level p d d' t in
    let t₁ : Sums = sums_with p d y t in
    let z : ℕ = wanted p.q d' t₁ in
    elim (ltb y p.q) [ true ↦ filled_with (y ∷ z ∷ []) (sums_with p d' z t₁) | false ↦ nothing ]

-- one or two erased symbols, by their indices, where the word with 0 there has the sums t
abbrev pub fill_at : Parameters → List ℕ → Sums → Filling
fill_at p [] t = nothing
fill_at p (i ∷ []) t = fill_one p (erased_at p i) t
fill_at p (i ∷ j ∷ []) t = fill_two p (erased_at p i) (erased_at p j) t
fill_at p (i ∷ j ∷ k ∷ is) t = nothing

-- v with the symbols ys at these indices
abbrev pub set_all : List ℕ → List ℕ → List ℕ → List ℕ
set_all [] ys v = v
set_all (i ∷ is) [] v = v
set_all (i ∷ is) (y ∷ ys) v = set_all is ys (set v i y)

-- what is said of them
abbrev pub changes_by : List ℕ → List ℕ → List Change
changes_by [] ys = []
changes_by (i ∷ is) [] = []
changes_by (i ∷ is) (y ∷ ys) = change (i + 1) y ∷ changes_by is ys

-- the reading of v, which has 0 at these indices, once it is filled
abbrev pub read_filled : Parameters → List ℕ → List ℕ → Filling → Reading
read_filled p is v nothing = unreadable
read_filled p is v (fills ys S S') = read_by p (filled (changes_by is ys)) (set_all is ys v) S S'

-- 0 at the erased positions
abbrev pub cleared : List ℕ → List ℕ
cleared v = fill v []

-- the answer to a word with one or two erasures
unfoldable pub decoded_erased : Parameters → List ℕ → Reading
decoded_erased p v =
    let is : List ℕ = erased_indices 0 v in
    let u : List ℕ = cleared v in
    read_filled p is u (fill_at p is (sums p u))
