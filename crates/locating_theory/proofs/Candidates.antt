-- Two candidates are enough: the index that makes the syndromes near makes one of them zero, so it is that one's candidate.
-- Assumes nothing.
use mathlib.Core.Path.{◌≡◌, refl, sym, subst, ◌∙◌}
use mathlib.Core.Logic.{◌⊎◌, inl, inr, ⊎_elim}
use mathlib.Core.Bool.{Bool, true, false, not}
use mathlib.Core.List.{List}
use Prim.Native.Nat.{ℕ, ◌≤◌, ◌<◌}
use native.Mathlib.Nat.{le_of_lt, not-le_of_lt}
use native.Mathlib.Omega.{arith}
use lib.Dec.{T, ltb, ltb→lt, lt→ltb}
use lib.IntN.{ℤ}
use borrow.Author.Tests.{ltb-true, ltb-false}
use Rattle.modular_theory.specs.Residue.{Invertible, Prime}
use Rattle.modular_theory.proofs.Search.{holds, and_intro, and_left, and_right}
use Rattle.code_theory.specs.Parameters.{Parameters, Sized}
use Rattle.code_theory.proofs.Columns.{q_positive}
use Rattle.code_theory.proofs.Merge.{cases}
use Rattle.decoding_theory.specs.Syndromes.{zero_syndrome, moved_of}
use Rattle.decoding_theory.specs.Decoded.{position_count}
use Rattle.locating_theory.specs.ErrorPosition.{is_error, gain_without, near_with, near_without, error_index}
use Rattle.locating_theory.specs.Candidates.{inverse_of, candidate, holds_with, choose, syndrome_of, located}
use Rattle.locating_theory.specs.Claims.{TwoCandidates}
use Rattle.locating_theory.proofs.Gain.{error_within, error_unit, gain_upto, gain_unit}
use Rattle.locating_theory.proofs.Inverse.{inverse_is, inverse_below}
use Rattle.locating_theory.proofs.Named.{candidate_is}
use Rattle.locating_theory.proofs.Unique.{one_zero}
use Rattle.locating_theory.proofs.Index.{index_upto, index_near, index_found, index_is}

-- the choice by its tests
choose_is : (t : ℕ → Bool) (k k' none i : ℕ) → (T (t k) → k ≡ i) → (T (t k') → k' ≡ i) → T (t k) ⊎ T (t k') → choose t k k' none ≡ i
unfolding choose
choose_is t k k' none i f g h = go (t k) (t k') refl refl h
  where
    go : (a b : Bool) → t k ≡ a → t k' ≡ b → T a ⊎ T b → choose t k k' none ≡ i
    go true b d e x = rw (d, choose) (f (holds _ d))
    go false true d e x = rw (d, choose, e) (g (holds _ e))
    go false false d e (inl x) = absurd x
    go false false d e (inr x) = absurd x

choose_none : (t : ℕ → Bool) (k k' none : ℕ) → ((i : ℕ) → T (t i) → ⊥) → choose t k k' none ≡ none
unfolding choose
choose_none t k k' none f = go (t k) (t k') refl refl
  where
    go : (a b : Bool) → t k ≡ a → t k' ≡ b → choose t k k' none ≡ none
    go true b d e = absurd (f k (holds _ d))
    go false true d e = absurd (f k' (holds _ e))
    go false false d e = rw (d, choose, e)

module _ (p : Parameters) (b : Bool) (e : ℤ) (S S' : List ℕ) where
  -- index k is one of the parity, and the syndromes are near without the error there
  abbrev holds_without : ℕ → Bool
  holds_without = holds_with p b (gain_without p e) S S'

  holds_of : (k : ℕ) → k < position_count p b → T (near_without p b e S S' k) → T (holds_without k)
  unfolding holds_with near_without
  holds_of k l t = and_intro (ltb k (position_count p b)) (near_without p b e S S' k) (lt→ltb k (position_count p b) l) t

  holds_within : (k : ℕ) → T (holds_without k) → k < position_count p b
  unfolding holds_with near_without
  holds_within k h = ltb→lt _ _ (and_left (ltb k (position_count p b)) (near_without p b e S S' k) h)

  holds_near : (k : ℕ) → T (holds_without k) → T (near_without p b e S S' k)
  unfolding holds_with near_without
  holds_near k h = and_right (ltb k (position_count p b)) (near_without p b e S S' k) h

-- of two, in either order
in_order : (f : Bool → Bool) (o : Bool) → T (f true) ⊎ T (f false) → T (f o) ⊎ T (f (not o))
in_order f true h = h
in_order f false h = ⊎_elim (λ z. inr z) (λ z. inl z) h

pub two_candidates : TwoCandidates
unfolding located near_without near_with
two_candidates o p s b e m u S S' =
    cases (ltb (error_index p b e S S') (position_count p b)) (λ t. found (ltb-true _ _ t)) (λ t. none (ltb-false _ _ t))
  where
    k : ℕ
    k = error_index p b e S S'

    g : ℕ
    g = gain_without p e

    i : ℕ
    i = inverse_of p.q g

    test : ℕ → Bool
    test = holds_without p b e S S'

    -- a component's candidate
    c : Bool → ℕ
    c d = candidate p d b i (syndrome_of d S S')

    unit : Invertible p.q g
    unit = gain_unit p (q_positive p s) e m u

    two : 2 ≤ p.q
    two = omega (arith, s.levels)

    named : (d : Bool) → k < position_count p b → T (zero_syndrome p (moved_of p d b k g (syndrome_of d S S'))) → c d ≡ k
    named d l z =
        candidate_is p s g i (gain_upto p (q_positive p s) e) (le_of_lt (inverse_below p.q g two unit)) (inverse_is p.q g two unit)
        d b k (syndrome_of d S S') l z

    only : (x : ℕ) → T (test x) → x ≡ k
    only x h = sym (index_is p b e S S' s m u x (holds_within p b e S S' x h) (holds_near p b e S S' x h))

    found : k < position_count p b → located o p b e S S' ≡ k
    found l = choose_is test (c o) (c (not o)) (position_count p b) k (only (c o)) (only (c (not o))) (in_order (λ d. test (c d)) o one)
      where
        near : T (near_without p b e S S' k)
        near = index_near p b e S S' l

        here : (x : ℕ) → x ≡ k → T (test x)
        here x z = subst (λ (y : ℕ). T (test y)) (sym z) (holds_of p b e S S' k l near)

        one : T (test (c true)) ⊎ T (test (c false))
        one =
            ⊎_elim (λ z. inl (here (c true) (named true l z))) (λ z. inr (here (c false) (named false l z)))
            (one_zero p (moved_of p true b k g S) (moved_of p false b k g S') near)

    none : position_count p b ≤ k → located o p b e S S' ≡ k
    none l = choose_none test (c o) (c (not o)) (position_count p b) never ∙ last
      where
        last : position_count p b ≡ k
        last = omega (arith, index_upto p b e S S')

        never : (x : ℕ) → T (test x) → ⊥
        never x h = not-le_of_lt (index_found p b e S S' x (holds_within p b e S S' x h) (holds_near p b e S S' x h)) l

-- where q is prime, for any error
pub located_error : (o : Bool) (p : Parameters) → Sized p → Prime p.q → (b : Bool) (e : ℤ) → T (is_error p.q e) → (S S' : List ℕ)
    → located o p b e S S' ≡ error_index p b e S S'
located_error o p s prime b e t S S' = two_candidates o p s b e (error_within p.q e t) (error_unit prime e t) S S'
