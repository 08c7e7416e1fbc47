-- A word weighed symbol by symbol: what is summed and what is left make the whole.
-- Assumes nothing.
use mathlib.Core.Path.{◌≡◌, refl, ap, ◌∙◌}
use mathlib.Core.Bool.{true, false}
use mathlib.Core.List.{List, [], ◌∷◌}
use Prim.Native.Nat.{ℕ, zero, suc, ◌+◌, ◌-◌, ◌*◌, ◌%◌, ◌≤◌, zero-le}
use native.Mathlib.Omega.{arith}
use lib.IntN.{ℤ, pos, ◌-ℤ◌}
use lib.ListN.{length, get_or, drop, drop_of_length-le}
use Rattle.modular_theory.specs.Sum.{weight}
use Rattle.code_theory.specs.Codeword.{alternate}
use Rattle.code_theory.proofs.Delta.{alternate_weight}
use Rattle.symbols.specs.Weight.{weights_of}

-- the weight of the even positions of a word whose first symbol has an index of the parity p
abbrev even_from : ℕ → List ℕ → ℕ
even_from p [] = 0
even_from p (x ∷ l) = x * p + even_from (1 - p) l

even_from_lem : (l : List ℕ) → (even_from 0 l ≡ weight (alternate false l)) × (even_from 1 l ≡ weight (alternate true l))
even_from_lem [] = (refl, refl)
even_from_lem (x ∷ l) = (omega (arith, (even_from_lem l).1), omega (arith, (even_from_lem l).0))

-- a symbol and the rest; past the end a symbol is 0
weight_at_lem : (t : List ℕ) (i : ℕ) → weight (drop i t) ≡ get_or t i 0 + weight (drop (suc i) t)
weight_at_lem [] zero = refl
weight_at_lem [] (suc i) = refl
weight_at_lem (x ∷ t) zero = refl
weight_at_lem (x ∷ t) (suc i) = weight_at_lem t i

even_at : (p : ℕ) (t : List ℕ) (i : ℕ) → even_from p (drop i t) ≡ get_or t i 0 * p + even_from (1 - p) (drop (suc i) t)
even_at p [] zero = omega arith
even_at p [] (suc i) = omega arith
even_at p (x ∷ t) zero = refl
even_at p (x ∷ t) (suc i) = even_at p t i

-- the first i symbols of t are summed
pub record Weighing (t : List ℕ) (all even i : ℕ) : Type 0 where
  pub all_left : all + weight (drop i t) ≡ weight t
  pub even_left : even + even_from (i % 2) (drop i t) ≡ weight (alternate false t)
  pub even_less : even ≤ all
  pub small : all ≤ 255 * i

pub weighing_none : (t : List ℕ) → Weighing t 0 0 0
weighing_none t = record { all_left = omega arith; even_left = omega (arith, (even_from_lem t).0); even_less = zero-le; small = zero-le }

module _ {t : List ℕ} {all even i : ℕ} (w : Weighing t all even i) where
  pub weighing_all : length t ≤ i → (g : ℕ) {z : ℤ} → z ≡ pos all -ℤ pos g
      → record { odd = all - even; even = even; excess = z } ≡ weights_of g t
  weighing_all h g e =
      let n : drop i t ≡ [] = drop_of_length-le t h in
      let a : weight (drop i t) ≡ 0 = ap weight n in
      let b : even_from (i % 2) (drop i t) ≡ 0 = ap (even_from (i % 2)) n in
      let all_is : all ≡ weight t = omega (arith, w.all_left) in
      let odd_is : all - even ≡ weight (alternate true t) = omega (arith, w.even_left, all_is, alternate_weight t) in
      let even_is : even ≡ weight (alternate false t) = omega (arith, w.even_left) in
      rw (odd_is, even_is, e ∙ ap (λ (x : ℕ). pos x -ℤ pos g) all_is)
