-- The symbol at index i corrected to y: its own difference and the next are put into an array.
-- Assumes nothing.
use mathlib.Core.Path.{◌≡◌, refl, sym, ap, ap₂, ◌∙◌}
use mathlib.Core.Logic.{◌⊎◌, inl, inr, ⊎_elim}
use mathlib.Core.Bool.{Bool, false, ◌&&◌, ◌||◌}
use mathlib.Core.List.{List}
use Prim.Native.Nat.{ℕ, suc, min, ◌+◌, ◌-◌, ◌≤◌, ◌<◌}
use native.Mathlib.Nat.{not-suc-le-zero, le_trans, le-min, min-le_right}
use native.Mathlib.Omega.{arith}
use lib.Dec.{T, eqb, ltb, ltb→lt, lt→ltb, eqb→eq}
use lib.ListN.{length, get_or, set, length-set}
use lib.Seq.{get_or-set_same, get_or-set_other}
use Rattle.modular_theory.proofs.Search.{and_intro, and_left, and_right, or_left, or_right, or_cases, eq_test, same_test, fails}
use Rattle.differences.specs.Overlaid.{overlaid, difference_of, difference_at, has_difference, differences_at, changed_by}
use Rattle.differences.proofs.Overlaying.{overlaid_same, overlaid_none, overlaid_more}
use Rattle.differences.proofs.AfterFirst.{after_first, after_first_of, below_each}

-- its own difference, where there is one
abbrev own_of : ℕ → ℕ → Bool
own_of i j = eqb j i && ltb 0 j

-- x is x₀ with that one
pub record OwnCorrected (backward : Bool) (q : ℕ) (w x₀ : List ℕ) (i y : ℕ) (x : List ℕ) : Type 0 where
  pub is : x ≡ overlaid (own_of i) (difference_at backward q (set w i y)) x₀

module _ (backward : Bool) (q : ℕ) (w x₀ : List ℕ) (i y : ℕ) where
  abbrev sent : List ℕ
  sent = set w i y

  abbrev own : ℕ → Bool
  own = own_of i

  is_own : (j : ℕ) → T (own j) → (j ≡ i) × (0 < j)
  is_own j t = (eqb→eq j i (and_left (eqb j i) (ltb 0 j) t), ltb→lt 0 j (and_right (eqb j i) (ltb 0 j) t))

  -- there is none where i is the first
  pub own_none : i ≤ 0 → OwnCorrected backward q w x₀ i y x₀
  own_none h =
      record {
        is =
            overlaid_none own (difference_at backward q sent) x₀
            (λ j. fails (λ t. let (e, some) = is_own j t in not-suc-le-zero {n = 0} (omega (arith, e, some))));
      }

  pub own_corrected : 0 < i → i < length w → {d : ℕ} → d ≡ difference_of backward q (get_or w (i - 1) 0) y
      → OwnCorrected backward q w x₀ i y (set x₀ i d)
  own_corrected h l {d} e =
      record {
        is =
            ap₂ (λ (x : List ℕ) (k : ℕ). set x i k) (overlaid_none none (difference_at backward q sent) x₀ (λ j. refl)) (e ∙ same)
            ∙ overlaid_more none own (difference_at backward q sent) x₀ i
            (and_intro (eqb i i) (ltb 0 i) (eq_test {a = i} refl) (lt→ltb 0 i h)) (λ j n. sym (fails (λ t. n (is_own j t).0)));
      }
    where
      none : ℕ → Bool
      none j = false

      same : difference_of backward q (get_or w (i - 1) 0) y ≡ difference_at backward q sent i
      same =
          ap₂ (difference_of backward q) (sym (get_or-set_other w i (i - 1) y 0 (λ z. not-suc-le-zero {n = 0} (omega (arith, z, h)))))
          (sym (get_or-set_same w i y 0 l))

  module _ (m : ℕ) {end : ℕ} (f : end ≡ min (min m 97) (length w)) where
    -- all that change
    abbrev changed : ℕ → Bool
    changed j = changed_by i (min m 97) j && has_difference sent j

    -- such an index
    record Touched (j : ℕ) : Type 0 where
      which : (j ≡ i) ⊎ (j ≡ suc i)
      some : 0 < j
      inside : j < end

    is_changed : (j : ℕ) → T (changed j) → Touched j
    is_changed j t =
        let named = and_left (changed_by i (min m 97) j) (has_difference sent j) t in
        let which = or_cases (eqb j i) (eqb j (suc i)) (and_left (eqb j i || eqb j (suc i)) (ltb j (min m 97)) named) in
        let first : j < min m 97 = ltb→lt j (min m 97) (and_right (eqb j i || eqb j (suc i)) (ltb j (min m 97)) named) in
        let (some, long) = after_first (length sent) j (and_right (changed_by i (min m 97) j) (has_difference sent j) t) in
        let second : j < length w = omega (arith, long, length-set w i y) in
        let inside : suc j ≤ min (min m 97) (length w) = le-min first second in
        record {
          which = ⊎_elim (λ e. inl (eqb→eq j i e)) (λ e. inr (eqb→eq j (suc i) e)) which;
          some = some;
          inside = omega (arith, f, inside);
        }

    changed_of : (j : ℕ) → Touched j → T (changed j)
    changed_of j c =
        let inside : suc j ≤ min (min m 97) (length w) = omega (arith, f, c.inside) in
        let (first, second) = below_each m (length w) j inside in
        let which : T (eqb j i || eqb j (suc i)) =
        ⊎_elim (λ e. or_left (eqb j i) (eqb j (suc i)) (eq_test e)) (λ e. or_right (eqb j i) (eqb j (suc i)) (eq_test e)) c.which in
        and_intro (changed_by i (min m 97) j) (has_difference sent j)
        (and_intro (eqb j i || eqb j (suc i)) (ltb j (min m 97)) which (lt→ltb j (min m 97) first))
        (after_first_of (length sent) j c.some (omega (arith, second, length-set w i y)))

    -- its own is one of them
    own_changed : i < end → (j : ℕ) → T (own j) → T (changed j)
    own_changed l j t =
        let (e, some) = is_own j t in
        changed_of j (record { which = inl e; some = some; inside = omega (arith, e, l) })

    -- and so is the next, and no other
    changed_own : (j : ℕ) → (j ≡ suc i → ⊥) → T (changed j) → T (own j)
    changed_own j n t =
        let c = is_changed j t in
        ⊎_elim (λ (e : j ≡ i). and_intro (eqb j i) (ltb 0 j) (eq_test e) (lt→ltb 0 j c.some)) (λ (e : j ≡ suc i). absurd (n e))
        c.which

    -- none where the symbol is none of the first m
    pub none_corrected : end ≤ i → x₀ ≡ differences_at (changed_by i (min m 97)) backward q sent x₀
    unfolding differences_at
    none_corrected h =
        overlaid_none changed (difference_at backward q sent) x₀
        (λ j. fails (λ t. past j (is_changed j t)))
      where
        past : (j : ℕ) → Touched j → ⊥
        past j c =
            let later : i ≤ j = ⊎_elim (λ (e : j ≡ i). omega (arith, e)) (λ (e : j ≡ suc i). omega (arith, e)) c.which in
            not-suc-le-zero {n = 0} (omega (arith, h, c.inside))

    -- no other than its own where it is the last
    pub next_none : i < end → end ≤ i + 1 → {x : List ℕ} → OwnCorrected backward q w x₀ i y x
        → x ≡ differences_at (changed_by i (min m 97)) backward q sent x₀
    unfolding differences_at
    next_none l h {x} e =
        e.is ∙ overlaid_same own changed (difference_at backward q sent) x₀
        (λ j. same_test (own j) (changed j) (own_changed l j)
        (λ t. changed_own j (λ z. not-suc-le-zero {n = 0} (omega (arith, z, h, (is_changed j t).inside))) t))

    pub next_corrected : i < end → i + 1 < end → {x : List ℕ} → OwnCorrected backward q w x₀ i y x
        → {d : ℕ} → d ≡ difference_of backward q y (get_or w (i + 1) 0)
        → set x (i + 1) d ≡ differences_at (changed_by i (min m 97)) backward q sent x₀
    unfolding differences_at
    next_corrected l h {x} e {d} g =
        let next : Touched (i + 1) = record { which = inr (omega arith); some = omega arith; inside = h } in
        ap₂ (λ (x : List ℕ) (k : ℕ). set x (i + 1) k) e.is (g ∙ same)
        ∙ overlaid_more own changed (difference_at backward q sent) x₀ (i + 1) (changed_of (i + 1) next)
        (λ j n. same_test (own j) (changed j) (own_changed l j) (changed_own j (λ z. n (omega (arith, z)))))
      where
        same : difference_of backward q y (get_or w (i + 1) 0) ≡ difference_at backward q sent (i + 1)
        same =
            let long : i < length w = le_trans l (rw f (min-le_right (min m 97) (length w))) in
            let back : i + 1 - 1 ≡ i = omega arith in
            ap₂ (difference_of backward q) (sym (ap (λ (k : ℕ). get_or sent k 0) back ∙ get_or-set_same w i y 0 long))
            (sym (get_or-set_other w i (i + 1) y 0 (λ z. not-suc-le-zero {n = 0} (omega (arith, z)))))
