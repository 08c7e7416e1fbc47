-- In edition 13 a choice shifts the integrated word.
-- Assumes nothing.
use mathlib.Core.Path.{◌≡◌, refl, ap, ap₂}
use mathlib.Core.List.{List, [], ◌∷◌}
use Prim.Native.Nat.{ℕ, zero, suc, ◌+◌, ◌%◌, ◌<◌}
use native.Mathlib.Nat.{le_of_suc-le-suc, not-suc-le-zero}
use native.Mathlib.Omega.{arith}
use lib.ListN.{length}
use Rattle.modular_theory.specs.Residue.{Congruent}
use Rattle.modular_theory.proofs.Residue.{◌then◌, of_eq, same, symm, reduce, add}
use Rattle.code_theory.specs.Parameters.{edition13, Parameters, in_edition}
use Rattle.code_theory.specs.Balance.{add_at, integrate, shifted, shifted_from, chosen}

-- where n is m + s mod q, it is m's remainder + s
offset : {q n : ℕ} (m s : ℕ) → Congruent q n (m + s) → Congruent q n (m % q + s)
offset {q} m s h = h then add (symm (reduce q m)) (same s)

-- the same symbol added to both leaves them s apart
offset_next : {q n : ℕ} (m s x : ℕ) → Congruent q n (m + s) → Congruent q (n % q + x) (m % q + x + s)
offset_next {q} {n} m s x h =
    let e : m % q + s + x ≡ m % q + x + s = omega arith in
    add (reduce q n then offset m s h) (same x) then of_eq e

-- or s + 1, with 1 more added to one
offset_one : {q : ℕ} (m n s x : ℕ) → Congruent q (n + x) (m + s) → Congruent q (n + (x + 1) % q) (m + suc s)
offset_one {q} m n s x h =
    let e : n + (x + 1) ≡ n + x + 1 = omega arith in
    let f : m + s + 1 ≡ m + suc s = omega arith in
    add (same n) (reduce q (x + 1)) then of_eq e then add h (same 1) then of_eq f

-- the first sums are s apart, since s is added to the first symbol
offset_first : (q x s : ℕ) → Congruent q (0 + (x + s) % q) (0 + x + s)
offset_first q x s =
    let e : 0 + (x + s) ≡ 0 + x + s = omega arith in
    add (same 0) (reduce q (x + s)) then of_eq e

-- sums that start s apart stay so
integrate_shifted : {q n : ℕ} (m s : ℕ) (x : List ℕ) → Congruent q n (m + s)
    → n % q ∷ integrate q (n % q) x ≡ shifted q s (m % q ∷ integrate q (m % q) x)
integrate_shifted m s [] h = ap (λ (a : ℕ). a ∷ []) (offset m s h).same
integrate_shifted {q} {n} m s (x ∷ xs) h =
    ap₂ ◌∷◌ (offset m s h).same (integrate_shifted {n = n % q + x} (m % q + x) s xs (offset_next m s x h))

-- and are s + 1 apart from the index on at which 1 is added
integrate_shifted_from : {q n : ℕ} (m s : ℕ) (x : List ℕ) (i : ℕ) → i < length x → Congruent q n (m + s)
    → n % q ∷ integrate q (n % q) (add_at q x i 1) ≡ shifted_from q s (suc i) (m % q ∷ integrate q (m % q) x)
integrate_shifted_from m s [] i l h = absurd (not-suc-le-zero l)
integrate_shifted_from {q} {n} m s (x ∷ xs) zero l h =
    ap₂ ◌∷◌ (offset m s h).same (integrate_shifted (m % q + x) (suc s) xs (offset_one (m % q + x) (n % q) s x (offset_next m s x h)))
integrate_shifted_from {q} {n} m s (x ∷ xs) (suc i) l h =
    ap₂ ◌∷◌ (offset m s h).same (integrate_shifted_from {n = n % q + x} (m % q + x) s xs i (le_of_suc-le-suc l) (offset_next m s x h))

pub chosen_shifted : (p : Parameters) (x : List ℕ) (s i : ℕ) → i < length x
    → chosen (in_edition edition13 p) x s (suc i) ≡ shifted_from p.q s i (integrate p.q 0 x)
unfolding chosen
chosen_shifted p [] s i l = absurd (not-suc-le-zero l)
chosen_shifted p (x ∷ xs) s zero l =
    integrate_shifted (0 + x) (suc s) xs (offset_one (0 + x) 0 s ((x + s) % p.q) (offset_first p.q x s))
chosen_shifted p (x ∷ xs) s (suc i) l = integrate_shifted_from (0 + x) s xs i (le_of_suc-le-suc l) (offset_first p.q x s)

pub length_integrate : (q a : ℕ) (x : List ℕ) → length (integrate q a x) ≡ length x
length_integrate q a [] = refl
length_integrate q a (x ∷ xs) = ap suc (length_integrate q ((a + x) % q) xs)
