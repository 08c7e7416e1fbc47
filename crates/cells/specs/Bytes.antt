-- Writes of whole slices.
-- Assumes nothing.
use Rattle.std.specs.Prelude.{List, ◌++◌, ℕ, length, take, drop}

-- as many bytes as both have, copied
unfoldable pub copied : List ℕ → List ℕ → List ℕ
copied to from = take (length to) from ++ drop (length from) to
