-- What the components gain without an error has an inverse where the error has one: it is the error up to a sign.
-- Assumes nothing.
use mathlib.Core.Path.{◌≡◌, refl, sym, ◌∙◌}
use mathlib.Core.Logic.{◌≢◌}
use mathlib.Core.Bool.{not}
use Prim.Native.Nat.{ℕ, zero, suc, ◌+◌, ◌-◌, ◌%◌, ◌≤◌, ◌<◌, zero-le, suc-le-suc}
use native.Mathlib.Nat.{mod-eq_of_lt, le_of_lt}
use native.Mathlib.Omega.{arith}
use lib.Dec.{T, ltb, ltb→lt, lt→ltb, not_T}
use lib.IntN.{ℤ, pos, negsuc, neg_ℤ, nat_abs, ◌-ℤ◌, +ℤ_comm}
use Rattle.modular_theory.specs.Residue.{Congruent, Invertible, Prime, remainder}
use Rattle.modular_theory.specs.Level.{is_zero}
use Rattle.modular_theory.proofs.Search.{and_intro, and_right}
use Rattle.modular_theory.proofs.Residue.{of_eq, same, symm, ◌then◌, mul, reduce, prime_inverse, remainder_below}
use Rattle.modular_theory.proofs.Integer.{difference_within, put_back, take_away, is_not_zero}
use Rattle.code_theory.specs.Parameters.{edition18, Parameters, in_edition}
use Rattle.code_theory.proofs.Weights.{sign_invertible}
use Rattle.decoding_theory.specs.Decoded.{gain_by, Sums, lack, gain}
use Rattle.decoding_theory.proofs.Tests.{false_test}
use Rattle.decoding_theory.proofs.Moved.{gain_small, sign_gain}
use Rattle.locating_theory.specs.ErrorPosition.{is_error, gain_without}

-- What the test of an error says.

pub error_within : (q : ℕ) (e : ℤ) → T (is_error q e) → nat_abs e < q
unfolding is_error
error_within q e t = ltb→lt _ _ (and_right (not (is_zero e)) (ltb (nat_abs e) q) t)

pub error_some : (q : ℕ) (e : ℤ) → T (is_error q e) → 1 ≤ nat_abs e
unfolding is_error
error_some q (pos zero) t = absurd t
error_some q (pos (suc n)) t = suc-le-suc zero-le
error_some q (negsuc n) t = suc-le-suc zero-le

pub error_of_lem : (q : ℕ) (e : ℤ) → e ≢ pos 0 → nat_abs e < q → T (is_error q e)
unfolding is_error
error_of_lem q e n l =
    and_intro (not (is_zero e)) (ltb (nat_abs e) q) (not_T (is_zero e) (false_test (is_not_zero e n))) (lt→ltb (nat_abs e) q l)

pub error_unit : {q : ℕ} → Prime q → (e : ℤ) → T (is_error q e) → Invertible q (nat_abs e)
error_unit {q} prime e t = prime_inverse prime (nat_abs e) (error_some q e t) (error_within q e t)

-- what takes the level x to the level y is the error of x received for y
pub error_is : (x y : ℕ) (e : ℤ) → pos x -ℤ e ≡ pos y → e ≡ pos x -ℤ pos y
error_is x y e h = sym (take_away (pos x) (pos y) e (put_back (pos x) e (pos y) h ∙ +ℤ_comm (pos y) e))

pub error_of_levels : (q x y : ℕ) (e : ℤ) → x < q → y < q → pos x -ℤ e ≡ pos y → e ≢ pos 0 → T (is_error q e)
error_of_levels q x y e l m h n =
    let within : nat_abs e ≤ q - 1 = rw (error_is x y e h) (difference_within (q - 1) x y (omega arith) (omega arith)) in
    error_of_lem q e n (omega arith)

-- Numbers with an inverse.

unit_same : {q a b : ℕ} → Congruent q a b → Invertible q a → Invertible q b
unit_same c u = record { inverse = u.inverse; product = mul (symm c) (same u.inverse) then u.product }

-- The gain.

-- without the excess of a word it is what the decoder takes for the correction
pub gain_is : (p : Parameters) (t : Sums) → gain p t ≡ gain_without p t.excess
unfolding lack
gain_is p t = refl

gained_unit : (p : Parameters) → 1 ≤ p.q → (e : ℕ) → e ≤ p.q → Invertible p.q e → Invertible p.q (gain_by p e)
gained_unit p h e l u = unit_same (sign_gain p e h l) (sign_invertible p h u)

-- taken in edition 18, a gain is the negative
minus_unit : (p : Parameters) → 1 ≤ p.q → (e : ℤ) → nat_abs e < p.q → Invertible p.q (nat_abs e)
    → Invertible p.q (remainder (neg_ℤ e) p.q)
minus_unit p h (pos zero) l u = unit_same (symm (reduce p.q 0)) u
minus_unit p h (pos (suc n)) l u =
    let m : n % p.q ≡ n = mod-eq_of_lt (le_of_lt l) in
    let e : p.q - suc n ≡ p.q - (n % p.q + 1) = omega arith in
    unit_same (of_eq e) (gained_unit (in_edition edition18 p) h (suc n) (le_of_lt l) u)
minus_unit p h (negsuc n) l u = unit_same (symm (reduce p.q (suc n))) u

module _ (p : Parameters) (h : 1 ≤ p.q) (e : ℤ) where
  pub gain_upto : gain_without p e ≤ p.q
  gain_upto = gain_small p (remainder (neg_ℤ e) p.q) (le_of_lt (remainder_below (neg_ℤ e) p.q h))

  pub gain_unit : nat_abs e < p.q → Invertible p.q (nat_abs e) → Invertible p.q (gain_without p e)
  gain_unit l u =
      gained_unit p h (remainder (neg_ℤ e) p.q) (le_of_lt (remainder_below (neg_ℤ e) p.q h)) (minus_unit p h e l u)
