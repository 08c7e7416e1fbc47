-- A list that is overlaid at some of its indices.
-- Assumes nothing.
use mathlib.Core.Path.{◌≡◌, refl, sym, ap, ap₂}
use mathlib.Core.Logic.{◌≢◌}
use mathlib.Core.Bool.{Bool, true, false}
use mathlib.Core.List.{List, [], ◌∷◌}
use Prim.Native.Nat.{ℕ, zero, suc, ◌<◌}
use native.Mathlib.Nat.{not-suc-le-zero, le_of_suc-le-suc}
use native.Mathlib.Omega.{arith}
use lib.Dec.{T}
use lib.ListN.{length, get_or, set}
use Rattle.modular_theory.proofs.Search.{passes}
use Rattle.differences.specs.Overlaid.{overlaid}

pub length_overlaid : (asked : ℕ → Bool) (f : ℕ → ℕ) (x : List ℕ) → length (overlaid asked f x) ≡ length x
length_overlaid asked f [] = refl
length_overlaid asked f (a ∷ x) = ap suc (length_overlaid (λ i. asked (suc i)) (λ i. f (suc i)) x)

pub overlaid_asked : (asked : ℕ → Bool) (f : ℕ → ℕ) (x : List ℕ) (j : ℕ) → j < length x → T (asked j) → get_or (overlaid asked f x) j 0 ≡ f j
overlaid_asked asked f [] j h t = absurd (not-suc-le-zero h)
overlaid_asked asked f (a ∷ x) zero h t = ap (λ (b : Bool). elim b [ true ↦ f 0 | false ↦ a ]) (passes {b = asked 0} t)
overlaid_asked asked f (a ∷ x) (suc j) h t =
    overlaid_asked (λ i. asked (suc i)) (λ i. f (suc i)) x j (le_of_suc-le-suc h) t

pub overlaid_other : (asked : ℕ → Bool) (f : ℕ → ℕ) (x : List ℕ) (j : ℕ) → asked j ≡ false → get_or (overlaid asked f x) j 0 ≡ get_or x j 0
overlaid_other asked f [] j e = refl
overlaid_other asked f (a ∷ x) zero e = rw e refl
overlaid_other asked f (a ∷ x) (suc j) e = overlaid_other (λ i. asked (suc i)) (λ i. f (suc i)) x j e

-- the same where the same are asked for
pub overlaid_same : (asked more : ℕ → Bool) (f : ℕ → ℕ) (x : List ℕ) → ((j : ℕ) → asked j ≡ more j) → overlaid asked f x ≡ overlaid more f x
overlaid_same asked more f [] e = refl
overlaid_same asked more f (a ∷ x) e =
    ap₂ (λ (b : Bool) (y : List ℕ). elim b [ true ↦ f 0 | false ↦ a ] ∷ y) (e 0)
    (overlaid_same (λ i. asked (suc i)) (λ i. more (suc i)) (λ i. f (suc i)) x (λ j. e (suc j)))

-- as it was where none is
pub overlaid_none : (asked : ℕ → Bool) (f : ℕ → ℕ) (x : List ℕ) → ((j : ℕ) → asked j ≡ false) → x ≡ overlaid asked f x
overlaid_none asked f [] e = refl
overlaid_none asked f (a ∷ x) e =
    ap₂ (λ (b : Bool) (y : List ℕ). elim b [ true ↦ f 0 | false ↦ a ] ∷ y) (sym (e 0))
    (overlaid_none (λ i. asked (suc i)) (λ i. f (suc i)) x (λ j. e (suc j)))

-- with one set, that one is asked for too
pub overlaid_more : (asked more : ℕ → Bool) (f : ℕ → ℕ) (x : List ℕ) (i : ℕ) → T (more i) → ((j : ℕ) → j ≢ i → asked j ≡ more j)
    → set (overlaid asked f x) i (f i) ≡ overlaid more f x
overlaid_more asked more f [] i t e = refl
overlaid_more asked more f (a ∷ x) zero t e =
    ap₂ (λ (b : Bool) (y : List ℕ). elim b [ true ↦ f 0 | false ↦ a ] ∷ y) (sym (passes {b = more 0} t))
    (overlaid_same (λ i. asked (suc i)) (λ i. more (suc i)) (λ i. f (suc i)) x
    (λ j. e (suc j) (λ z. not-suc-le-zero {n = 0} (omega (arith, z)))))
overlaid_more asked more f (a ∷ x) (suc i) t e =
    ap₂ (λ (b : Bool) (y : List ℕ). elim b [ true ↦ f 0 | false ↦ a ] ∷ y) (e 0 (λ z. not-suc-le-zero {n = 0} (omega (arith, z))))
    (overlaid_more (λ i. asked (suc i)) (λ i. more (suc i)) (λ i. f (suc i)) x i t (λ j n. e (suc j) (λ z. n (omega (arith, z)))))
