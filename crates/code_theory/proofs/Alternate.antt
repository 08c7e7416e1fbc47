-- Interleaving is undone by taking every other symbol, and differencing undoes integrating; a changed symbol is one of one component.
-- Assumes nothing.
use mathlib.Core.Path.{◌≡◌, refl, sym, ap, ap₂}
use mathlib.Core.Bool.{true, false}
use mathlib.Core.List.{List, [], ◌∷◌}
use Prim.Native.Nat.{ℕ, zero, suc, ◌+◌, ◌%◌, ◌≤◌, ◌<◌}
use native.Mathlib.Nat.{suc-ne-zero, suc_inj, mod-lt}
use native.Mathlib.Omega.{arith}
use lib.Dec.{T, ltb, lt→ltb, ltb→lt}
use lib.ListN.{length, get_or, set}
use Rattle.modular_theory.specs.Residue.{minus}
use Rattle.modular_theory.proofs.Search.{and_left, and_right, and_intro}
use Rattle.modular_theory.proofs.Residue.{of_eq, ◌then◌, reduce, small, cancel, minus_add, minus_below}
use Rattle.code_theory.specs.Parameters.{edition13, Parameters, in_edition}
use Rattle.code_theory.specs.Component.{symbols_below}
use Rattle.code_theory.specs.Balance.{interleave, integrate, differences}
use Rattle.code_theory.specs.Codeword.{alternate}
use Rattle.code_theory.proofs.Weights.{double}

pub alternate_first : (x y : List ℕ) → length x ≡ length y → alternate true (interleave x y) ≡ x
alternate_first [] y e = refl
alternate_first (a ∷ x) [] e = absurd (suc-ne-zero (length x) e)
alternate_first (a ∷ x) (b ∷ y) e = ap (λ (t : List ℕ). a ∷ t) (alternate_first x y (suc_inj e))

pub alternate_second : (x y : List ℕ) → length x ≡ length y → alternate false (interleave x y) ≡ y
alternate_second [] [] e = refl
alternate_second [] (b ∷ y) e = absurd (suc-ne-zero (length y) (sym e))
alternate_second (a ∷ x) [] e = absurd (suc-ne-zero (length x) e)
alternate_second (a ∷ x) (b ∷ y) e = ap (λ (t : List ℕ). b ∷ t) (alternate_second x y (suc_inj e))

-- (a + x) % q less a is x
pub minus_sum : (q a x : ℕ) → 1 ≤ q → x < q → minus q ((a + x) % q) a ≡ x
minus_sum q a x h l =
    let e : a + x ≡ x + a = omega arith in
    small (minus_below q ((a + x) % q) a h) l (cancel a (minus_add q ((a + x) % q) a h then reduce q (a + x) then of_eq e))

-- a is the sum before x
pub differences_integrate : (p : Parameters) → 1 ≤ p.q → (a : ℕ) (x : List ℕ) → T (symbols_below p.q x)
    → differences (in_edition edition13 p) (a ∷ integrate p.q a x) ≡ x
differences_integrate p h a [] b = refl
differences_integrate p h a (x ∷ xs) b =
    let q : ℕ = p.q in
    ap₂ (λ (y : ℕ) (t : List ℕ). y ∷ t) (minus_sum q a x h (ltb→lt x q (and_left (ltb x q) (symbols_below q xs) b)))
    (differences_integrate p h ((a + x) % q) xs (and_right (ltb x q) (symbols_below q xs) b))

pub integrate_below : (q : ℕ) → 1 ≤ q → (a : ℕ) (x : List ℕ) → T (symbols_below q (integrate q a x))
integrate_below q h a [] = tt
integrate_below q h a (x ∷ xs) =
    and_intro (ltb ((a + x) % q) q) (symbols_below q (integrate q ((a + x) % q) xs)) (lt→ltb ((a + x) % q) q (mod-lt (a + x) h))
    (integrate_below q h ((a + x) % q) xs)

-- a symbol at an odd position is the first's, and one at an even position the second's
pub first_set : (z : List ℕ) (k y : ℕ) → alternate true (set z (double k) y) ≡ set (alternate true z) k y
first_set [] k y = refl
first_set (x ∷ z) zero y = refl
first_set (x ∷ []) (suc k) y = refl
first_set (x ∷ x' ∷ z) (suc k) y = ap (λ (t : List ℕ). x ∷ t) (first_set z k y)

pub second_kept : (z : List ℕ) (k y : ℕ) → alternate false (set z (double k) y) ≡ alternate false z
second_kept [] k y = refl
second_kept (x ∷ z) zero y = refl
second_kept (x ∷ []) (suc k) y = refl
second_kept (x ∷ x' ∷ z) (suc k) y = ap (λ (t : List ℕ). x' ∷ t) (second_kept z k y)

pub second_set : (z : List ℕ) (k y : ℕ) → alternate false (set z (suc (double k)) y) ≡ set (alternate false z) k y
second_set [] k y = refl
second_set (x ∷ z) k y = first_set z k y

pub first_kept : (z : List ℕ) (k y : ℕ) → alternate true (set z (suc (double k)) y) ≡ alternate true z
first_kept [] k y = refl
first_kept (x ∷ z) k y = ap (λ (t : List ℕ). x ∷ t) (second_kept z k y)

pub first_at : (z : List ℕ) (k : ℕ) → get_or z (double k) 0 ≡ get_or (alternate true z) k 0
first_at [] k = refl
first_at (x ∷ z) zero = refl
first_at (x ∷ []) (suc k) = refl
first_at (x ∷ x' ∷ z) (suc k) = first_at z k

pub second_at : (z : List ℕ) (k : ℕ) → get_or z (suc (double k)) 0 ≡ get_or (alternate false z) k 0
second_at [] k = refl
second_at (x ∷ z) k = first_at z k
