-- `modular::sum::level` meets its contract: an integer that is not below 0 is reduced, and of any other how far it is below -1.
-- Assumes nothing.
use Rattle.std.proofs.Common.{◌≡◌, ℕ, ◌+◌, ◌-◌, ◌<◌, ◌≤◌, ℤ, pos, negsuc, ◌-ℤ◌, nat_abs, refl, ap, ◌∙◌, arith, w64, SFits, to_z, of_z}
use Rattle.std.specs.Int.{FitsUnsignedBits}
use lib.Signed.{mag}
use Rattle.modular.specs.Remainder.{residue, residue_of_integer}
use Rattle.modular.proofs.Signed.{held, value, read, literal, difference_of_lem, unsigned_is}
use Rattle.modular.proofs.Dividing.{residue_below, down_from, integer_below, integer_above}
use Rattle.modular.proofs.sum.level.Goals as goal

above : (z : ℤ) → FitsUnsignedBits 64 z → z ≡ pos (nat_abs z)
above (pos n) h = refl
above (negsuc n) h = absurd h

below : (z : ℤ) → SFits w64 z → (FitsUnsignedBits 64 z → ⊥) → z ≡ negsuc (mag z)
below (pos n) f h = let l : n < 9223372036854775808 = f.sfits in absurd (h (omega arith))
below (negsuc n) f h = refl

pub returns-then-q-eq0 : goal.returns-then-q-eq0
unfolding residue_of_integer
returns-then-q-eq0 c = rw c.if-q-eq0.true

-- the remainder of how far z is below -1
module _ {q r : ℕ} {z : ℤ} (some : 1 ≤ q) (f : SFits w64 z) (h : FitsUnsignedBits 64 z → ⊥)
    (is : r ≡ residue q (nat_abs (to_z w64 (of_z w64 (negsuc 0 -ℤ to_z w64 (of_z w64 z)))))) where
  reduced : r ≡ residue q (mag z)
  reduced =
      let far : negsuc 0 -ℤ z ≡ pos (mag z) = down_from (mag z) (below z f h) in
      let fits : SFits w64 (negsuc 0 -ℤ z) = rw far (record { sfits = f.sfits }) in
      is ∙ ap (residue q) (unsigned_is (held (difference_of_lem (literal (negsuc 0) tt) (value f) fits)) far)

  counted_down : q - 1 - r ≡ residue_of_integer q z
  counted_down =
      let sum : q - 1 - residue q (mag z) ≡ q - (residue q (mag z) + 1) = omega arith in
      rw reduced (sum ∙ integer_below (mag z) (below z f h) some)

pub overflow_sub-result-in-Err : goal.overflow_sub-result-in-Err
overflow_sub-result-in-Err c =
    let f = c.ranges.z in
    let some : 1 ≤ c.args.q = omega (arith, c.if-q-eq0.false) in
    let r = reduced some f (rw (read (value f)) at c.in-Err.ensures) c.remainder-in-Err.ensures in
    omega (arith, r, residue_below (mag c.args.z) some)

pub returns-in-Err : goal.returns-in-Err
returns-in-Err c =
    let f = c.ranges.z in
    counted_down (omega (arith, c.if-q-eq0.false)) f (rw (read (value f)) at c.in-Err.ensures) c.remainder-in-Err.ensures

pub returns-in-Ok : goal.returns-in-Ok
returns-in-Ok c =
    let back = read (value c.ranges.z) in
    let n : c.in-Ok.n ≡ nat_abs c.args.z = rw back at c.in-Ok.ensures.1 in
    c.remainder.ensures ∙ rw n (integer_above c.args.q (above c.args.z (rw back at c.in-Ok.ensures.0)))
