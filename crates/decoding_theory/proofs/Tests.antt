-- Laws of tests that the searches of crate modular_theory do not have, by cases.
-- Assumes nothing.
use mathlib.Core.Path.{◌≡◌, subst}
use mathlib.Core.Bool.{Bool, true, false, not, ◌&&◌}
use lib.Dec.{T}

-- three tests
pub and_three : (a b c : Bool) → T a → T b → T c → T (a && b && c)
and_three true true c x y z = z
and_three true false c x y z = y
and_three false b c x y z = absurd x

pub three_parts : (a b c : Bool) → T (a && b && c) → T a × T b × T c
three_parts true true c h = (tt, tt, h)
three_parts true false c h = absurd h
three_parts false b c h = absurd h

-- a test that has the value false
pub false_test : {b : Bool} → b ≡ false → T b → ⊥
false_test e t = subst T e t

-- what holds of b and of the other holds of both
pub for_both : (b : Bool) (P : Bool → Type 0) → P b → P (not b) → (c : Bool) → P c
for_both true P h k true = h
for_both true P h k false = k
for_both false P h k true = k
for_both false P h k false = h
