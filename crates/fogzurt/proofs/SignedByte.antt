-- An integer in a byte by two's complement, and back.
-- Assumes nothing.
use mathlib.Core.Path.{◌≡◌}
use Prim.Native.Nat.{ℕ, suc, ◌-◌, ◌≤◌, ◌<◌}
use native.Mathlib.Omega.{arith}
use lib.IntN.{ℤ, pos, negsuc, nat_abs}
use borrow.Author.Tests.{lt-ltb, le-ltb}
use Rattle.fogzurt.specs.Packed.{twos, signed}

pub twos_byte : (z : ℤ) → nat_abs z ≤ 127 → twos z ≤ 255
twos_byte (pos n) h = omega arith
twos_byte (negsuc n) h = omega arith

pub signed_twos : (z : ℤ) → nat_abs z ≤ 127 → signed (twos z) ≡ z
signed_twos (pos n) h = let l : n < 128 = omega arith in rw (lt-ltb n 128 l, signed)
signed_twos (negsuc n) h =
    let b : ℕ = 256 - suc n in
    let high : 128 ≤ b = omega arith in
    let low : b < 256 = omega arith in
    let e : 256 - suc b ≡ n = omega arith in
    rw (le-ltb b 128 high, signed, lt-ltb b 256 low, e)
