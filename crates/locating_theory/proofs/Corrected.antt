-- The position of a corrected symbol is the error's: the codeword is near there, and its error is what the body exceeds its balancing
-- value by.
-- Assumes nothing.
use mathlib.Core.Path.{◌≡◌, refl, sym, ap, subst, ◌∙◌}
use mathlib.Core.Logic.{◌≢◌}
use mathlib.Core.Bool.{Bool, true, false, not}
use mathlib.Core.List.{List}
use Prim.Native.Nat.{ℕ, ◌+◌, ◌<◌}
use native.Mathlib.Omega.{arith}
use lib.Dec.{T}
use lib.ListN.{get_or, set}
use lib.IntN.{ℤ, pos, ◌-ℤ◌}
use borrow.Author.Tests.{eq-eqb}
use Rattle.modular_theory.specs.Residue.{Prime}
use Rattle.modular_theory.proofs.Search.{holds}
use Rattle.code_theory.specs.Parameters.{Parameters, Sized, codeword_length}
use Rattle.code_theory.specs.Component.{is_word}
use Rattle.code_theory.specs.Codeword.{check_sum_agrees, codeword}
use Rattle.code_theory.specs.Reading.{Correction}
use Rattle.code_theory.proofs.Columns.{q_positive}
use Rattle.code_theory.proofs.Merge.{word_below}
use Rattle.code_theory.proofs.Errors.{CorrectedBy, reading_corrected}
use Rattle.decoding_theory.specs.Syndromes.{index}
use Rattle.decoding_theory.specs.Decoded.{sums, position_count}
use Rattle.decoding_theory.proofs.Changed.{OfParity, of_parity, in_parity, summed}
use Rattle.decoding_theory.proofs.Tests.{false_test}
use Rattle.decoding_theory.proofs.TriedPositions.{agrees_is}
use Rattle.decoding_theory.proofs.Fits.{fit, balances, unbalanced, other_agrees, codeword_fit}
use Rattle.locating_theory.specs.ErrorPosition.{is_error, near_without, error_index, at, error_position}
use Rattle.locating_theory.specs.Claims.{PositionOfCorrected}
use Rattle.locating_theory.proofs.Gain.{error_within, error_unit, error_is, error_of_levels}
use Rattle.locating_theory.proofs.Index.{index_is}
use Rattle.locating_theory.proofs.Position.{position_found}
use Rattle.locating_theory.proofs.Located.{near_after_lem}

-- y at index k of the parity b makes a codeword of v
module _ (p : Parameters) (s : Sized p) (prime : Prime p.q) (v : List ℕ) (w : T (is_word p.q (codeword_length p) v)) (b : Bool)
    (k y : ℕ) (l : k < position_count p b) (below : y < p.q) (ne : y ≢ get_or v (index b k) 0)
    (h : T (codeword p (set v (index b k) y))) where
  abbrev x : ℕ
  x = get_or v (index b k) 0

  abbrev e : ℤ
  e = (sums p v).excess

  taken : pos x -ℤ e ≡ pos y
  taken = balances p s w (summed p v) b k y l h below ne

  error : T (is_error p.q e)
  error =
      error_of_levels p.q x y e (word_below p.q (codeword_length p) v (q_positive p s) w (index b k)) below taken
      (unbalanced p s w (summed p v) b k y l h below ne)

  near : T (near_without p b e (sums p v).first (sums p v).second k)
  near = subst T (near_after_lem p (sums p v) b k) (fit p (sums p v) b k x (codeword_fit p s w (summed p v) b k y l h below ne)).near

  position_is : error_position p b (pos x -ℤ pos y) (sums p v).first (sums p v).second ≡ at (index b k + 1)
  position_is =
      let S : List ℕ = (sums p v).first in
      let S' : List ℕ = (sums p v).second in
      let is : error_index p b e S S' ≡ k = index_is p b e S S' s (error_within p.q e error) (error_unit prime e error) k l near in
      ap (λ (z : ℤ). error_position p b z S S') (sym (error_is x y e taken))
      ∙ position_found p b e S S' error (rw is l) ∙ ap (λ (i : ℕ). at (index b i + 1)) is

  -- the other check sum agrees
  other : check_sum_agrees p (not b) v ≡ true
  other =
      sym (agrees_is p (summed p v) (not b))
      ∙ eq-eqb ((sums p v).asked (not b)) ((sums p v).arrived (not b)) (other_agrees p s w (summed p v) b k y l h below ne)

-- so the one that disagrees is the parity's own
own_parity : (f : Bool → Bool) (b c : Bool) → f (not c) ≡ true → f b ≡ false → c ≡ b
own_parity f true true e g = refl
own_parity f true false e g = absurd (false_test g (holds _ e))
own_parity f false true e g = absurd (false_test g (holds _ e))
own_parity f false false e g = refl

-- for an index of the body, of whatever parity
corrected_at : (p : Parameters) → Sized p → Prime p.q → (v : List ℕ) → T (is_word p.q (codeword_length p) v) → (i y : ℕ) → OfParity p i
    → y < p.q → y ≢ get_or v i 0 → T (codeword p (set v i y)) → (b : Bool) → check_sum_agrees p b v ≡ false
    → error_position p b (pos (get_or v i 0) -ℤ pos y) (sums p v).first (sums p v).second ≡ at (i + 1)
corrected_at p s prime v w i y (of_parity c k l) below ne h b t =
    subst
    (λ (d : Bool). error_position p d (pos (get_or v (index c k) 0) -ℤ pos y) (sums p v).first (sums p v).second ≡ at (index c k + 1))
    (own_parity (λ (d : Bool). check_sum_agrees p d v) b c (other p s prime v w c k y l below ne h) t)
    (position_is p s prime v w c k y l below ne h)

pub position_of_corrected : PositionOfCorrected
position_of_corrected p s prime v w c a a' r within b t =
    subst (λ (d : Correction). error_position p b d.error (sums p v).first (sums p v).second ≡ at d.position) was.is
    (corrected_at p s prime v w i was.symbol (in_parity p i (omega (arith, here))) was.below (λ z. was.differs (sym z)) was.makes
    b t)
  where
    was : CorrectedBy p v c
    was = reading_corrected p v c a a' r

    i : ℕ
    i = was.index

    here : i + 1 ≡ c.position
    here = ap (λ (d : Correction). d.position) was.is
