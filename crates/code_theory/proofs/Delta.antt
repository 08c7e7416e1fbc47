-- The check symbols are balanced: with δ, the sum over the odd positions and the one over the even positions are together q - 1 mod q.
-- Assumes nothing.
use mathlib.Core.Path.{◌≡◌, refl, sym, ap, ap₂, ◌∙◌}
use mathlib.Core.Logic.{⊎_elim}
use mathlib.Core.Bool.{Bool, true, false, cond}
use mathlib.Core.List.{List, [], ◌∷◌}
use Prim.Native.Nat.{ℕ, zero, suc, ◌+◌, ◌-◌, ◌*◌, ◌/◌, ◌%◌, ◌≤◌, ◌<◌, zero-le, suc-le-suc}
use native.Mathlib.Nat.{mod-lt, mul-zero, zero-add, add_assoc, not-suc-le-zero, le_of_suc-le-suc}
use native.Mathlib.Omega.{arith}
use lib.IntN.{ℤ, pos, negsuc, neg_ℤ, ◌-ℤ◌, ◌*ℤ◌, +ℤ_idl}
use lib.Dec.{ltb}
use lib.ListN.{length}
use borrow.Author.Tests.{lt-ltb}
use Rattle.modular_theory.specs.Sum.{weight}
use Rattle.modular_theory.specs.Residue.{Congruent, remainder, minus}
use Rattle.modular_theory.proofs.Search.{le_or_lt}
use Rattle.modular_theory.proofs.Residue.{of_eq, same, symm, ◌then◌, add, reduce, multiple, small, minus_add}
use Rattle.code_theory.specs.Parameters.{balancing_value, delta}
use Rattle.code_theory.specs.Codeword.{alternate, alpha, beta}

-- the remainder of -x
negative : (q x : ℕ) → 1 ≤ q → Congruent q (remainder (neg_ℤ (pos x)) q + x) 0
unfolding minus
negative q x h = of_eq (ap (λ (z : ℤ). remainder z q + x) (sym (+ℤ_idl (neg_ℤ (pos x))))) then minus_add q 0 x h

-- 2 - m is -k where m is k + 2
two_minus : (k : ℕ) → pos 2 -ℤ pos (suc (suc k)) ≡ neg_ℤ (pos k)
two_minus zero = refl
two_minus (suc k) =
    let t : ltb 2 (suc (suc (suc k))) ≡ true = lt-ltb 2 (suc (suc (suc k))) (suc-le-suc (suc-le-suc (suc-le-suc zero-le))) in
    let e : suc (suc (suc k)) - suc 2 ≡ k = omega arith in
    ap (λ (b : Bool). cond b (negsuc (suc (suc (suc k)) - suc 2)) (pos (2 - suc (suc (suc k))))) t ∙ ap negsuc e

times_negative : (h k : ℕ) → pos h *ℤ neg_ℤ (pos k) ≡ neg_ℤ (pos (h * k))
times_negative h zero = rw mul-zero
times_negative h (suc k) = refl

-- δ and (q - 1) / 2 times m are q - 1
delta_law : (q m h : ℕ) → 1 ≤ q → q - 1 ≡ 2 * h → 2 ≤ m → Congruent q (delta q m + m * h) (q - 1)
unfolding delta
delta_law q zero h l e two = absurd (not-suc-le-zero two)
delta_law q (suc zero) h l e two = absurd (not-suc-le-zero (le_of_suc-le-suc two))
delta_law q (suc (suc k)) h l e two = of_eq is then add (negative q (h * k) l) (same (q - 1)) then of_eq (zero-add (q - 1))
  where
    half : (q - 1) / 2 ≡ h
    half = ap (λ (x : ℕ). x / 2) e ∙ omega arith

    is : delta q (suc (suc k)) + suc (suc k) * h ≡ remainder (neg_ℤ (pos (h * k))) q + h * k + (q - 1)
    is =
        let d : pos ((q - 1) / 2) *ℤ (pos 2 -ℤ pos (suc (suc k))) ≡ neg_ℤ (pos (h * k)) =
        ap₂ (λ (x : ℕ) (z : ℤ). pos x *ℤ z) half (two_minus k) ∙ times_negative h k in
        let f : suc (suc k) * h ≡ h * k + (q - 1) = omega arith in
        ap₂ (λ (z : ℤ) (x : ℕ). remainder z q + x) d f ∙ sym (add_assoc (remainder (neg_ℤ (pos (h * k))) q) (h * k) (q - 1))

-- the symbols at the odd positions and those at the even ones are all of them
pub alternate_weight : (w : List ℕ) → weight (alternate true w) + weight (alternate false w) ≡ weight w
alternate_weight [] = refl
alternate_weight (x ∷ xs) = omega (arith, alternate_weight xs)

-- numbers below q whose sum is q - 1 mod q have the sum q - 1
pub sum_exact : (q a b : ℕ) → a < q → b < q → Congruent q (a + b) (q - 1) → a + b ≡ q - 1
sum_exact q a b ha hb e =
    ⊎_elim (λ (k : q ≤ a + b). absurd (over k)) (λ (k : a + b < q). small k (omega arith) e) (le_or_lt q (a + b))
  where
    over : q ≤ a + b → ⊥
    over k =
        let d : a + b ≡ a + b - q + 1 * q = omega arith in
        let f : a + b - q ≡ q - 1 = small {q = q} (omega arith) (omega arith) (symm (multiple q (a + b - q) 1) then of_eq (sym d) then e) in
        omega arith

pub checks_exact : (q : ℕ) (w : List ℕ) → q % 2 ≡ 1 → 2 ≤ length w → weight w ≡ balancing_value q (length w)
    → alpha q w + beta q w ≡ q - 1
unfolding alpha beta balancing_value
checks_exact q w odd two k =
    let h : ℕ = q / 2 in
    let l : 1 ≤ q = omega arith in
    let e : q - 1 ≡ 2 * h = omega arith in
    let a : ℕ = weight (alternate true w) in
    let b : ℕ = weight (alternate false w) in
    let d : ℕ = delta q (length w) in
    let v : weight w ≡ length w * h = k ∙ ap (λ (x : ℕ). length w * x / 2) e ∙ omega arith in
    let f : a + d + b ≡ d + length w * h = omega (arith, alternate_weight w) in
    sum_exact q ((a + d) % q) (b % q) (mod-lt (a + d) l) (mod-lt b l)
    (add (reduce q (a + d)) (reduce q b) then of_eq f then delta_law q (length w) h l e two)
