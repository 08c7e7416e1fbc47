-- What is claimed of the position of an error. proofs/Claims.antt has a term of each.
-- Assumes nothing.
use Rattle.std.specs.Prelude.{◌≡◌, Bool, false, List, ℕ, ◌≤◌, ◌<◌, T, ℤ, nat_abs}
use Rattle.modular_theory.specs.Residue.{Invertible, Prime}
use Rattle.code_theory.specs.Parameters.{Parameters, Sized, balanced_length, codeword_length}
use Rattle.code_theory.specs.Component.{is_word}
use Rattle.code_theory.specs.Codeword.{check_sum_agrees}
use Rattle.code_theory.specs.Reading.{Correction, read, corrected, reading}
use Rattle.decoding_theory.specs.Decoded.{sums, position_count}
use Rattle.locating_theory.specs.ErrorPosition.{near_without, error_index, at, error_position}
use Rattle.locating_theory.specs.Candidates.{located}

-- the error has an inverse mod q: where q is prime each error has one
abbrev pub UnitError : Parameters → ℤ → Type 0
UnitError p e = Invertible p.q (nat_abs e)

-- whatever the two syndromes are, at most one index of a parity makes them near
abbrev pub OneIndex : Type 0
OneIndex =
    (p : Parameters) → Sized p → (b : Bool) (e : ℤ) → nat_abs e < p.q → UnitError p e → (S S' : List ℕ) (k k' : ℕ)
    → k < position_count p b → k' < position_count p b → T (near_without p b e S S' k) → T (near_without p b e S S' k') → k ≡ k'

-- and the two candidates are enough to find it, in either order
abbrev pub TwoCandidates : Type 0
TwoCandidates =
    (o : Bool) (p : Parameters) → Sized p → (b : Bool) (e : ℤ) → nat_abs e < p.q → UnitError p e → (S S' : List ℕ)
    → located o p b e S S' ≡ error_index p b e S S'

-- 02: "for every word that the present reader mends in w, its answer is the place mended", of the definitions: the syndromes of the word,
-- its error and the check sum that disagrees
abbrev pub PositionOfCorrected : Type 0
PositionOfCorrected =
    (p : Parameters) → Sized p → Prime p.q → (v : List ℕ) → T (is_word p.q (codeword_length p) v) → (c : Correction) (x y : List ℕ)
    → reading p v ≡ read (corrected c) x y → c.position ≤ balanced_length p → (b : Bool) → check_sum_agrees p b v ≡ false
    → error_position p b c.error (sums p v).first (sums p v).second ≡ at c.position

pub record Claims : Type 0 where
  pub one_index : OneIndex
  pub two_candidates : TwoCandidates
  pub position_of_corrected : PositionOfCorrected
