-- Three digits of a position and r - 1 digits of it: the lower ones are the same, and past r - 1 a position has only zeros.
-- Assumes nothing.
use mathlib.Core.Path.{◌≡◌, refl}
use Prim.Native.Nat.{ℕ, zero, suc, ◌*◌, ◌/◌, ◌^◌, ◌≤◌, ◌<◌}
use native.Mathlib.Nat.{pow-zero, pow-suc, not-suc-le-zero, le_of_suc-le-suc, zero-mod, zero-div, div-lt_iff_lt-mul}
use native.Mathlib.Omega.{arith}
use lib.ListN.{get_or}
use Rattle.modular_theory.specs.Digits.{digits}

pub digits_same : (q k l i j : ℕ) → j < k → j < l → get_or (digits q k i) j 0 ≡ get_or (digits q l i) j 0
digits_same q zero l i j h g = absurd (not-suc-le-zero h)
digits_same q (suc k) zero i j h g = absurd (not-suc-le-zero g)
digits_same q (suc k) (suc l) i zero h g = refl
digits_same q (suc k) (suc l) i (suc j) h g = digits_same q k l (i / q) j (le_of_suc-le-suc h) (le_of_suc-le-suc g)

digits_zero : (q l j : ℕ) → get_or (digits q l 0) j 0 ≡ 0
digits_zero q zero j = refl
digits_zero q (suc l) zero = zero-mod q
digits_zero q (suc l) (suc j) = rw zero-div (digits_zero q l j)

pub digits_high : (q k l i j : ℕ) → 1 ≤ q → i < q ^ k → k ≤ j → get_or (digits q l i) j 0 ≡ 0
digits_high q zero l i j h b g =
    let e : i ≡ 0 = let u : i < 1 = rw pow-zero at b in omega arith in
    rw e (digits_zero q l j)
digits_high q (suc k) zero i j h b g = refl
digits_high q (suc k) (suc l) i zero h b g = absurd (not-suc-le-zero g)
digits_high q (suc k) (suc l) i (suc j) h b g =
    digits_high q k l (i / q) j h (let n : i < q ^ k * q = rw pow-suc at b in (div-lt_iff_lt-mul h).1 n) (le_of_suc-le-suc g)
