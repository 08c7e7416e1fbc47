-- The differences of a word put into an array one after the other.
-- Assumes nothing.
use mathlib.Core.Path.{◌≡◌, ap₂, ◌∙◌}
use mathlib.Core.Logic.{◌≢◌}
use mathlib.Core.Bool.{Bool, ◌&&◌}
use mathlib.Core.List.{List}
use Prim.Native.Nat.{ℕ, suc, min, ◌+◌, ◌-◌, ◌≤◌, ◌<◌}
use native.Mathlib.Nat.{not-suc-le-zero, le-min}
use native.Mathlib.Omega.{arith}
use lib.Dec.{T, ltb, ltb→lt, lt→ltb}
use lib.ListN.{length, set}
use Rattle.modular_theory.proofs.Search.{and_intro, and_left, and_right, same_test, fails}
use Rattle.differences.specs.Overlaid.{overlaid, difference_at, has_difference, differences_at}
use Rattle.differences.proofs.Overlaying.{overlaid_same, overlaid_none, overlaid_more}
use Rattle.differences.proofs.AfterFirst.{after_first, after_first_of, below_each}

-- from 1 to i - 1
abbrev up_to : ℕ → ℕ → Bool
up_to i j = ltb 0 j && ltb j i

-- x is x₀ with the differences of w at those indices
pub record DifferencedTo (backward : Bool) (q : ℕ) (w x₀ : List ℕ) (i : ℕ) (x : List ℕ) : Type 0 where
  pub is : x ≡ overlaid (up_to i) (difference_at backward q w) x₀

module _ {backward : Bool} {q : ℕ} {w x₀ : List ℕ} where
  pub differenced_none : DifferencedTo backward q w x₀ 1 x₀
  differenced_none =
      record {
        is =
            overlaid_none (up_to 1) (difference_at backward q w) x₀
            (λ j. fails (λ t. let (some, first) = after_first 1 j t in not-suc-le-zero {n = 0} (omega (arith, some, first))));
      }

  pub differenced_more : {x : List ℕ} {i : ℕ} → DifferencedTo backward q w x₀ i x → 1 ≤ i
      → {d : ℕ} → d ≡ difference_at backward q w i → DifferencedTo backward q w x₀ (i + 1) (set x i d)
  differenced_more {x} {i} e h {d} f =
      record {
        is =
            ap₂ (λ (y : List ℕ) (k : ℕ). set y i k) e.is f
            ∙ overlaid_more (up_to i) (up_to (i + 1)) (difference_at backward q w) x₀ i
            (after_first_of (i + 1) i h (omega arith)) (λ j n. same_test (up_to i j) (up_to (i + 1) j) (on j) (off j n));
      }
    where
      on : (j : ℕ) → T (up_to i j) → T (up_to (i + 1) j)
      on j t = let (some, l) = after_first i j t in after_first_of (i + 1) j some (omega (arith, l))

      off : (j : ℕ) → j ≢ i → T (up_to (i + 1) j) → T (up_to i j)
      off j n t = let (some, l) = after_first (i + 1) j t in after_first_of i j some (omega (arith, l, n))

  -- all of the first m
  pub differenced_all : (m : ℕ) {x : List ℕ} {i end : ℕ} → DifferencedTo backward q w x₀ i x → end ≡ min (min m 97) (length w)
      → end ≤ i → i - 1 ≤ end - 1 → x ≡ differences_at (λ j. ltb j (min m 97)) backward q w x₀
  unfolding differences_at
  differenced_all m {x} {i} {end} e f h last =
      e.is ∙ overlaid_same (up_to i) (λ j. ltb j (min m 97) && has_difference w j) (difference_at backward q w) x₀
      (λ j. same_test (up_to i j) (ltb j (min m 97) && has_difference w j) (on j) (off j))
    where
      on : (j : ℕ) → T (up_to i j) → T (ltb j (min m 97) && has_difference w j)
      on j t =
          let (some, l) = after_first i j t in
          let inside : j < min (min m 97) (length w) = omega (arith, f, some, l, last) in
          let (first, second) = below_each m (length w) j inside in
          and_intro (ltb j (min m 97)) (has_difference w j) (lt→ltb j (min m 97) first) (after_first_of (length w) j some second)

      off : (j : ℕ) → T (ltb j (min m 97) && has_difference w j) → T (up_to i j)
      off j t =
          let first : j < min m 97 = ltb→lt j (min m 97) (and_left (ltb j (min m 97)) (has_difference w j) t) in
          let (some, second) = after_first (length w) j (and_right (ltb j (min m 97)) (has_difference w j) t) in
          let inside : suc j ≤ min (min m 97) (length w) = le-min first second in
          after_first_of i j some (omega (arith, f, inside))
