-- The check symbols that the weights of a word ask for are α and β of the word.
-- Assumes nothing.
use mathlib.Core.Path.{◌≡◌, sym, ap, ap₂, ◌∙◌}
use mathlib.Core.Bool.{true, false}
use mathlib.Core.List.{List}
use Prim.Native.Nat.{ℕ, min, ◌+◌, ◌%◌, ◌≤◌}
use native.Mathlib.Nat.{min-eq_left}
use lib.ListN.{length, take}
use Rattle.modular_theory.specs.Sum.{weight}
use Rattle.code_theory.specs.Parameters.{delta}
use Rattle.code_theory.specs.Codeword.{alternate, alpha, beta}
use Rattle.modular.proofs.Dividing.{residue_is}
use Rattle.symbols.specs.declared.weight.Weight.{Weight}
use Rattle.symbols.specs.Weight.{weights_of, checks_of}

module _ {q d m : ℕ} (g : ℕ) (w : List ℕ) (some : 1 ≤ q) (room : m ≤ 97) (long : length (take m w) ≡ m) (row : d ≡ delta q m) where
  pub checks_are : checks_of q d (weights_of g (take (min m 97) w)) ≡ record { alpha = alpha q (take m w); beta = beta q (take m w) }
  unfolding checks_of alpha beta
  checks_are =
      let l : List ℕ = take m w in
      let whole : weights_of g (take (min m 97) w) ≡ weights_of g l = ap (λ (k : ℕ). weights_of g (take k w)) (min-eq_left room) in
      let sum : d ≡ delta q (length l) = row ∙ ap (delta q) (sym long) in
      ap (λ (s : Weight). checks_of q d s) whole
      ∙ ap₂ (λ (a b : ℕ). record { alpha = a; beta = b })
      (residue_is (weight (alternate true l) + d) some ∙ ap (λ (y : ℕ). (weight (alternate true l) + y) % q) sum)
      (residue_is (weight (alternate false l)) some)
