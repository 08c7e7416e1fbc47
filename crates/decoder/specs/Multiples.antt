-- The multiples of a symbol.
-- Assumes nothing.
use Rattle.std.specs.Prelude.{◌≡◌, List, ℕ, ◌*◌, ◌%◌, ◌<◌, get_or}

-- the entry at each level d is d times the entry at 1, mod q
pub record Multiples (q : ℕ) (table : List ℕ) : Type 0 where
  pub at : (d : ℕ) → d < q → get_or table d 0 ≡ (get_or table 1 0 * d) % q
