-- Sums and differences mod q of two bytes, as the code has them: of levels they are the remainders that are meant,
-- and what they are of any bytes is said too.
-- Assumes nothing.
use Rattle.std.specs.Prelude.{ℕ, ◌+◌, ◌-◌, ◌%◌, true, false, nat_lt}

-- the number that a byte holds of n
abbrev pub byte_of : ℕ → ℕ
byte_of n = n % 256

-- a + x in a byte, with q taken off once where it is not below q
unfoldable pub byte_sum : ℕ → ℕ → ℕ → ℕ
byte_sum q a x = elim (nat_lt (byte_of (a + x)) q) [ true ↦ byte_of (a + x) | false ↦ byte_of (a + x) - q ]

-- a - x, with q put on in a byte where a is below x
unfoldable pub byte_difference : ℕ → ℕ → ℕ → ℕ
byte_difference q a x = elim (nat_lt a x) [ true ↦ byte_of (a + q + (256 - x)) | false ↦ a - x ]
