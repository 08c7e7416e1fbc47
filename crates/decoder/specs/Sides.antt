-- The two components and the two parities by number, as the code has them: 0 is the first, 1 the second.
-- Assumes nothing.
use Rattle.std.specs.Prelude.{Bool, true, false, ℕ, zero, suc}

-- the first component, or the odd positions
abbrev pub is_first : ℕ → Bool
is_first zero = true
is_first (suc k) = false
