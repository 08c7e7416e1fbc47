-- What the decoder's steps for erased symbols (02: marks) ask and answer: syndromes as the code has them, four rows whatever r is, against
-- the r rows of crate decoding_theory.
-- Assumes nothing.
use Rattle.std.specs.Prelude.{◌≡◌, Bool, true, false, List, ℕ, ◌/◌, ◌%◌, T, eqb, length, Option}
use Rattle.code_theory.specs.Parameters.{Parameters, codeword_length}
use Rattle.code_theory.specs.Component.{levels_or_erasures}
use Rattle.code_theory.specs.Erasures.{erased_indices}
use Rattle.code_theory.specs.Reading.{Reading}
use Rattle.decoding_theory.specs.Decoded.{Sums, sums}
use Rattle.decoding_theory.specs.Filled.{added_by_one, Erased, in_body, as_check, erased_at, Filling, fills, nothing, fill_at, read_filled}
use Rattle.profiles.specs.declared.row.Row.{Row}
use Rattle.profiles.specs.Row.{parameters, Valid}
use Rattle.symbols.specs.declared.sums.Syndrome.{Syndrome}
use Rattle.symbols.specs.declared.sums.Syndromes.{Syndromes}
use Rattle.symbols.specs.Syndromes.{rows}
use Rattle.fillings.specs.declared.sums.Erased as coded
use Rattle.fillings.specs.declared.fill.Filling as found
use Rattle.fillings.specs.Filling.{erased_of, filling_of}
use Rattle.syndromes.specs.Rows.{FourRows, rows_of}
use Rattle.decoder.specs.Totals.{Components}

-- a word that numbers 1 to 3 and 11 let through, with the indices of its erased symbols
pub record ErasedWord (t : Row) (word is : List ℕ) : Type 0 where
  pub valid : Valid t
  pub long : length word ≡ codeword_length (parameters t)
  pub symbols : T (levels_or_erasures t.q word)
  pub indices : erased_indices 0 word ≡ is

-- S are the four rows of a syndrome, and S' are its r rows
pub record SameRows (t : Row) (S S' : List ℕ) : Type 0 where
  pub four : Syndrome
  pub levels : FourRows t (rows four)
  pub is : S ≡ rows four
  pub are : S' ≡ rows_of t (rows four)

-- so it is with what an erased symbol adds
pub data SameErased (t : Row) : Erased → Erased → Type 0 where
  in_body_lem : (b : Bool) {E E' F F' : List ℕ} → SameRows t E F → SameRows t E' F' → SameErased t (in_body b E E') (in_body b F F')
  as_check_lem : (b : Bool) → SameErased t (as_check b) (as_check b)

-- with the sums over a word
pub record SameSums (t : Row) (a b : Sums) : Type 0 where
  pub excess : a.excess ≡ b.excess
  pub asked : (c : Bool) → a.asked c ≡ b.asked c
  pub arrived : (c : Bool) → a.arrived c ≡ b.arrived c
  pub first : SameRows t a.first b.first
  pub second : SameRows t a.second b.second

-- and with what erased symbols are filled with
abbrev pub SameFilling : Row → Filling → Filling → Type 0
SameFilling t nothing nothing = Unit {0}
SameFilling t nothing (fills zs F F') = ⊥
SameFilling t (fills ys S S') nothing = ⊥
SameFilling t (fills ys S S') (fills zs F F') = (ys ≡ zs) × SameRows t S F × SameRows t S' F'

-- y is what one more of the symbol at index i of the body adds to the syndromes
pub record OneMore (t : Row) (i : ℕ) (y : Syndromes) : Type 0 where
  pub first : SameRows t (rows y.first) (added_by_one (parameters t) true (eqb (i % 2) 0) (i / 2))
  pub second : SameRows t (rows y.second) (added_by_one (parameters t) false (eqb (i % 2) 0) (i / 2))

-- d is the erased symbol at index i
abbrev pub ErasedHere : Row → ℕ → coded.Erased → Type 0
ErasedHere t i d = SameErased t (erased_of d) (erased_at (parameters t) i)

-- the word u, with 0 at the indices, is filled by r, and x holds its components
pub record FilledBy (t : Row) (u is x : List ℕ) {N : ℕ} (r : Option (found.Filling N)) : Type 0 where
  pub held : Components t u x
  pub filling : SameFilling t (filling_of r) (fill_at (parameters t) is (sums (parameters t) u))

-- the reading of the word u, with 0 at the indices, once it is filled
abbrev pub completed : Parameters → List ℕ → List ℕ → Reading
completed p u is = read_filled p is u (fill_at p is (sums p u))
