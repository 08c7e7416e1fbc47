-- Tests made one after the other: the first that fails decides, and otherwise the last.
-- Assumes nothing.
use mathlib.Core.Path.{◌≡◌, refl}
use mathlib.Core.Bool.{Bool, true, false, ◌&&◌}

pub off : (a b : Bool) → a ≡ false → false ≡ (a && b)
off a b e = rw e

pub on : (a b d : Bool) → a ≡ true → d ≡ b → d ≡ (a && b)
on a b d e f = rw e f

pub swapped : (a b c : Bool) → (a && (b && c)) ≡ (b && (a && c))
swapped true b c = refl
swapped false true c = refl
swapped false false c = refl

-- a test that fails after one that may not be made
pub second_off : (a b c : Bool) → b ≡ false → false ≡ (a && (b && c))
second_off true b c e = rw e
second_off false b c e = refl
