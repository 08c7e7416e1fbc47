-- The complement of an array, a symbol at a time, and of the part of it that is w.
-- Assumes nothing.
use mathlib.Core.Path.{◌≡◌, refl, ap}
use mathlib.Core.List.{List, [], ◌∷◌}
use Prim.Native.Nat.{ℕ, zero, suc, ◌-◌}
use lib.ListN.{take}
use Rattle.code_theory.specs.Parameters.{Edition, edition13, edition18, Parameters, in_edition}
use Rattle.code_theory.specs.Walk.{complement, unwalked}

take_complement : (q m : ℕ) (w : List ℕ) → take m (complement q w) ≡ complement q (take m w)
take_complement q zero w = refl
take_complement q (suc m) [] = refl
take_complement q (suc m) (y ∷ w) = ap (λ (l : List ℕ). (q - 1 - y) ∷ l) (take_complement q m w)

pub take_unwalked : (p : Parameters) (m : ℕ) (w : List ℕ) → take m (unwalked p w) ≡ unwalked p (take m w)
take_unwalked p m w = go p.edition
  where
    go : (e : Edition) → take m (unwalked (in_edition e p) w) ≡ unwalked (in_edition e p) (take m w)
    go edition13 = refl
    go edition18 = take_complement p.q m w
