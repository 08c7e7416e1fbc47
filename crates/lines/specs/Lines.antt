-- The line so far, as a state holds it.
-- Assumes nothing.
use Rattle.std.specs.Prelude.{Bool, true, false, Option, Some, None, List, [], ◌∷◌, ℕ, leb, take}
use Rattle.lines_theory.specs.Feed.{Partial, held, too_long, extended}

-- the bytes of its array up to its length, or, where it has none or one past 101, that it has run over
abbrev pub partial_of : List ℕ → Option ℕ → Partial
partial_of bytes (Some n) = elim (leb n 101) [ true ↦ held (take n bytes) | false ↦ too_long ]
partial_of bytes None = too_long

-- no byte of it has come
abbrev pub is_fresh : Partial → Bool
is_fresh (held []) = true
is_fresh (held (b ∷ l)) = false
is_fresh too_long = false

-- more bytes of the line, none of them byte 10
abbrev pub extended_by : Partial → List ℕ → Partial
extended_by p [] = p
extended_by p (b ∷ s) = extended_by (extended p b) s
