-- Signed numbers in the machine: a local holds bits, and an operation reads integers from them. The laws hold at every width.
-- Assumes nothing.
use Rattle.std.proofs.Common.{◌≡◌, ℕ, zero, suc, ◌+◌, ◌^◌, ◌≤◌, Bool, T, ltb, leb, ◌≢◌, ℤ, pos, negsuc, ◌+ℤ◌, ◌-ℤ◌, neg_ℤ, nat_abs, sym, refl, ap, ◌∙◌, subst, ap₂, lt_of_le_of_lt, arith, ltb→lt, pow_pos, to_z-of_z, Fits, SFits, to_z, of_z}
use lib.Signed.{mag, lt_z, non_neg}
use mir.Syntax.{Width}
use mir.Val.{hbits}
use mir.Facts.{to_z_pos, sfits_lit, sfits_widen}
use Rattle.modular_theory.proofs.Integer.{difference_within}

-- Integers that a width holds, by their sizes.

mag_small : (z : ℤ) → mag z ≤ nat_abs z
mag_small (pos n) = omega arith
mag_small (negsuc n) = omega arith

pub fits_within : {w : Width} {z : ℤ} (n : ℕ) → T (ltb n (2 ^ hbits w)) → nat_abs z ≤ n → SFits w z
fits_within {w} {z} n t h = let l : mag z ≤ n = omega (arith, mag_small z) in record { sfits = lt_of_le_of_lt l (ltb→lt n (2 ^ hbits w) t) }

pub sum_within : (x y : ℤ) → nat_abs (x +ℤ y) ≤ nat_abs x + nat_abs y
sum_within (pos a) (pos b) = omega arith
sum_within (pos a) (negsuc b) = difference_within (a + suc b) a (suc b) (omega arith) (omega arith)
sum_within (negsuc a) (pos b) = difference_within (suc a + b) b (suc a) (omega arith) (omega arith)
sum_within (negsuc a) (negsuc b) = omega arith

negative_within : (y : ℤ) → nat_abs (neg_ℤ y) ≡ nat_abs y
negative_within (pos zero) = refl
negative_within (pos (suc n)) = refl
negative_within (negsuc n) = refl

module _ {w : Width} (x y : ℤ) (m n : ℕ) (room : T (ltb (m + n) (2 ^ hbits w))) (h : nat_abs x ≤ m) (k : nat_abs y ≤ n) where
  pub sum_fits : SFits w (x +ℤ y)
  sum_fits = fits_within (m + n) room (omega (arith, sum_within x y))

  pub difference_fits : SFits w (x -ℤ y)
  difference_fits = fits_within (m + n) room (omega (arith, sum_within x (neg_ℤ y), negative_within y))

-- What an operation reads.

-- the bits n are those of z, which the width holds
pub record Holds (w : Width) (n : ℕ) (z : ℤ) : Type 0 where
  pub bits : n ≡ of_z w z
  pub fits : SFits w z

-- a parameter, or what a call gave
pub value : {w : Width} {z : ℤ} → SFits w z → Holds w (of_z w z) z
value f = record { bits = refl; fits = f }

-- a number as the code writes it
pub literal : {w : Width} (z : ℤ) → T (ltb (mag z) (2 ^ hbits w)) → Holds w (of_z w z) z
literal z t = value (sfits_lit t)

module _ {w : Width} {n : ℕ} {z : ℤ} (h : Holds w n z) where
  pub read : to_z w n ≡ z
  read = ap (to_z w) h.bits ∙ to_z-of_z h.fits

  -- a test for equality is one of the bits: 0 is the one integer whose bits are 0
  pub zero_read : n ≡ 0 → z ≡ pos 0
  zero_read e = sym read ∙ ap (to_z w) e ∙ to_z_pos w (pow_pos (hbits w))

  pub other_read : n ≢ 0 → z ≢ pos 0
  other_read k e = k (h.bits ∙ ap (of_z w) e)

-- What an operation computes.

-- x, as it is computed, is z, which the width holds
pub record Computes (w : Width) (x z : ℤ) : Type 0 where
  pub is : x ≡ z
  pub fits : SFits w z

module _ {w : Width} {x z : ℤ} (c : Computes w x z) where
  -- so it may be computed
  pub asked : SFits w x
  asked = subst (SFits w) (sym c.is) c.fits

  -- and z is held
  pub held : Holds w (of_z w x) z
  held = record { bits = ap (of_z w) c.is; fits = c.fits }

-- a cast to a wider number
pub widened : {v w : Width} {n : ℕ} {z : ℤ} → T (leb (hbits v) (hbits w)) → Holds v n z → Computes w (to_z v n) z
widened t h = record { is = read h; fits = sfits_widen t h.fits }

module _ {w : Width} {m n : ℕ} {x y : ℤ} (h : Holds w m x) (k : Holds w n y) where
  pub sum_of : SFits w (x +ℤ y) → Computes w (to_z w m +ℤ to_z w n) (x +ℤ y)
  sum_of f = record { is = ap₂ (λ (a b : ℤ). a +ℤ b) (read h) (read k); fits = f }

  pub difference_of_lem : SFits w (x -ℤ y) → Computes w (to_z w m -ℤ to_z w n) (x -ℤ y)
  difference_of_lem f = record { is = ap₂ (λ (a b : ℤ). a -ℤ b) (read h) (read k); fits = f }

  pub tested : {b : Bool} → lt_z (to_z w m) (to_z w n) ≡ b → lt_z x y ≡ b
  tested e = sym (ap₂ lt_z (read h) (read k)) ∙ e

-- a cast to an unsigned number
module _ {w : Width} {n m : ℕ} {z : ℤ} (h : Holds w n z) (e : z ≡ pos m) where
  pub unsigned_asked : {v : Width} → Fits v m → T (non_neg (to_z w n)) × Fits v (nat_abs (to_z w n))
  unsigned_asked f = rw (read h, e) (tt, f)

  pub unsigned_is : nat_abs (to_z w n) ≡ m
  unsigned_is = ap nat_abs (read h ∙ e)
