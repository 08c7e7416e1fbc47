-- What the search for the end of a line finds.
-- Assumes nothing.
use Rattle.std.specs.Prelude.{ℕ, Option, List, ◌==◌, position}

-- the index of the first byte 10
abbrev pub first_end : List ℕ → Option ℕ
first_end s = position (λ b. b == 10) s
