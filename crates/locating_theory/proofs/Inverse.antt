-- The inverse that is searched for is one, where there is one: then its remainder is below q, where the search looks.
-- Assumes nothing.
use mathlib.Core.Path.{◌≡◌, sym, ap, ◌∙◌}
use Prim.Native.Nat.{ℕ, ◌+◌, ◌-◌, ◌*◌, ◌%◌, ◌≤◌, ◌<◌}
use native.Mathlib.Nat.{mod-lt, mod-eq_of_lt}
use native.Mathlib.Omega.{arith}
use lib.Dec.{eqb, eqb→eq}
use Rattle.modular_theory.specs.Residue.{Congruent, Invertible}
use Rattle.modular_theory.proofs.Search.{eq_test, least_hit, least_some}
use Rattle.modular_theory.proofs.Residue.{of_eq, same, symm, ◌then◌, add, scale, reduce, multiple}
use Rattle.locating_theory.specs.Candidates.{inverse_of}

module _ (q g : ℕ) (h : 2 ≤ q) (u : Invertible q g) where
  pub inverse_below : inverse_of q g < q
  unfolding inverse_of
  inverse_below =
      let i : ℕ = u.inverse % q in
      let one : g * i % q ≡ 1 = (scale g (reduce q u.inverse) then u.product).same ∙ mod-eq_of_lt h in
      least_some (λ i. eqb (g * i % q) 1) q i (mod-lt u.inverse (omega arith)) (eq_test one)

  pub inverse_product : g * inverse_of q g % q ≡ 1
  unfolding inverse_of
  inverse_product = eqb→eq _ 1 (least_hit (λ i. eqb (g * i % q) 1) q inverse_below)

  pub inverse_is : Congruent q (g * inverse_of q g) 1
  inverse_is = record { same = inverse_product ∙ sym (mod-eq_of_lt h) }

-- an inverse times the negative is -1
pub negative : (q g i : ℕ) → g ≤ q → Congruent q (g * i) 1 → Congruent q ((q - g) * i + 1) 0
negative q g i l u =
    let k : q - g + g ≡ q = omega arith in
    let f : (q - g) * i + g * i ≡ 0 + i * q = omega (arith, ap (λ (x : ℕ). x * i) k) in
    add (same ((q - g) * i)) (symm u) then of_eq f then multiple q 0 i
