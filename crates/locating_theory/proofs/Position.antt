-- The position of an error by the two candidates, and what a position says of the index.
-- Assumes nothing.
use mathlib.Core.Path.{◌≡◌, sym, ap, ◌∙◌}
use mathlib.Core.Bool.{Bool, true, false}
use mathlib.Core.List.{List}
use Prim.Native.Nat.{ℕ, ◌+◌, ◌-◌, ◌/◌, ◌≤◌, ◌<◌}
use native.Mathlib.Omega.{arith}
use lib.Dec.{T, ltb}
use lib.IntN.{ℤ}
use borrow.Author.Tests.{ltb-true, lt-ltb}
use Rattle.modular_theory.specs.Residue.{Prime}
use Rattle.modular_theory.proofs.Search.{holds, passes}
use Rattle.code_theory.specs.Parameters.{Parameters, Sized}
use Rattle.code_theory.proofs.Merge.{cases}
use Rattle.decoding_theory.specs.Syndromes.{index}
use Rattle.decoding_theory.specs.Decoded.{position_count}
use Rattle.locating_theory.specs.ErrorPosition.{is_error, error_index, at, nowhere, error_position}
use Rattle.locating_theory.specs.Candidates.{located, position_of}
use Rattle.locating_theory.proofs.Candidates.{located_error}

same_position : {i j : ℕ} → at i ≡ at j → i ≡ j
same_position e = cc

pub not_nowhere : {i : ℕ} → nowhere ≡ at i → ⊥
not_nowhere e = let z : ◌≡◌ {A = ℕ} 0 1 = cc in omega arith

half_index : (b : Bool) (k : ℕ) → index b k / 2 ≡ k
half_index true k = omega arith
half_index false k = omega arith

module _ (p : Parameters) (b : Bool) (e : ℤ) (S S' : List ℕ) where
  position_by_index : T (is_error p.q e) → error_position p b e S S' ≡ position_of p b (error_index p b e S S')
  unfolding error_position
  position_by_index t = let is : is_error p.q e ≡ true = passes t in rw (is, error_position)

  pub position_found : T (is_error p.q e) → error_index p b e S S' < position_count p b
      → error_position p b e S S' ≡ at (index b (error_index p b e S S') + 1)
  position_found t l = position_by_index t ∙ rw (lt-ltb (error_index p b e S S') (position_count p b) l, position_of)

  pub position_of_no_error : is_error p.q e ≡ false → error_position p b e S S' ≡ nowhere
  unfolding error_position
  position_of_no_error f = rw (f, error_position)

  pub position_by_candidates : Sized p → Prime p.q → T (is_error p.q e) → (o : Bool)
      → error_position p b e S S' ≡ position_of p b (located o p b e S S')
  position_by_candidates s prime t o = position_by_index t ∙ ap (position_of p b) (sym (located_error o p s prime b e t S S'))

-- what the position i says
pub record AtIndex (p : Parameters) (b : Bool) (e : ℤ) (S S' : List ℕ) (i : ℕ) : Type 0 where
  pub error : T (is_error p.q e)
  pub within : error_index p b e S S' < position_count p b
  pub is : index b (error_index p b e S S') + 1 ≡ i

module _ (p : Parameters) (b : Bool) (e : ℤ) (S S' : List ℕ) (i : ℕ) (h : error_position p b e S S' ≡ at i) where
  pub at_index : AtIndex p b e S S' i
  at_index =
      cases (is_error p.q e)
      (λ t.
      let by : position_of p b (error_index p b e S S') ≡ at i = sym (position_by_index p b e S S' (holds _ t)) ∙ h in
      cases (ltb (error_index p b e S S') (position_count p b))
      (λ l. record { error = holds _ t; within = ltb-true _ _ l; is = same_position (rw (l, position_of) at by) })
      (λ l. absurd (not_nowhere (rw (l, position_of) at by))))
      (λ t. absurd (not_nowhere (sym (position_of_no_error p b e S S' t) ∙ h)))

  -- the position less 1 is the index in the word, and half of that the index of the error
  pub position_before : i - 1 ≡ index b (error_index p b e S S')
  position_before = omega (arith, at_index.is)

  pub position_half : (i - 1) / 2 ≡ error_index p b e S S'
  position_half = ap (λ (x : ℕ). x / 2) position_before ∙ half_index b (error_index p b e S S')

  pub position_index : (1 ≤ i) × (i - 1 ≡ index b ((i - 1) / 2)) × ((i - 1) / 2 < position_count p b)
  position_index = (
    omega (arith, at_index.is),
    position_before ∙ ap (index b) (sym position_half),
    omega (arith, at_index.within, position_half),
  )
