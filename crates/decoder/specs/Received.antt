-- What the steps of the decoder ask of a body and of its components.
-- Assumes nothing.
use Rattle.std.specs.Prelude.{◌≡◌, List, ℕ, ◌<◌, length, get_or}
use Rattle.profiles.specs.declared.row.Row.{Row}
use Rattle.profiles.specs.Row.{Valid}

-- an array of 97 that begins with m symbols below q, as a body does and its differences do
pub record BodyArray (t : Row) (w : List ℕ) : Type 0 where
  pub valid : Valid t
  pub size : length w ≡ 97
  pub below : (i : ℕ) → i < t.balanced → get_or w i 0 < t.q
