-- The word of a pair has 2n + 1 symbols, and q is odd, so it can be balanced.
-- Assumes nothing.
use mathlib.Core.Path.{◌≡◌, refl}
use mathlib.Core.List.{List, [], ◌∷◌}
use Prim.Native.Nat.{ℕ, suc, ◌-◌, ◌*◌, ◌/◌, ◌%◌}
use native.Mathlib.Omega.{arith}
use lib.ListN.{length, length-append}
use Rattle.code_theory.specs.Parameters.{Edition, edition13, edition18, Parameters, in_edition, Sized, balanced_length}
use Rattle.code_theory.specs.Component.{check_at, candidate, component}
use Rattle.code_theory.specs.Balance.{interleave, with_zero}
use Rattle.code_theory.specs.Codeword.{interleaved}
use Rattle.code_theory.specs.Claims.{BalanceOfPair}
use Rattle.code_theory.proofs.Choice.{balance_exists}
use Rattle.code_theory.proofs.Merge.{length_merge}

pub length_component : (p : Parameters) (a : List ℕ) → length (component p a) ≡ p.n
unfolding component candidate
length_component p a = length_merge (check_at p) p.n _ a

pub length_interleave : (x y : List ℕ) → length x ≡ length y → length (interleave x y) ≡ 2 * length x
length_interleave [] y h = refl
length_interleave (a ∷ x) [] h = omega arith
length_interleave (a ∷ x) (b ∷ y) h = omega (arith, length_interleave x y (omega arith))

pub length_zero : (p : Parameters) (x : List ℕ) → length (with_zero p x) ≡ suc (length x)
length_zero p x = go p.edition
  where
    go : (e : Edition) → length (with_zero (in_edition e p) x) ≡ suc (length x)
    go edition13 = refl
    go edition18 = omega (arith, length-append x (0 ∷ []))

module _ (p : Parameters) (a b : List ℕ) where
  pub length_interleaved : length (interleaved p a b) ≡ balanced_length p
  unfolding interleaved
  length_interleaved =
      let e : length (component p a) ≡ p.n = length_component p a in
      let f : length (component p b) ≡ p.n = length_component p b in
      let x : List ℕ = interleave (component p a) (component p b) in
      omega (arith, length_interleave (component p a) (component p b) (omega arith), length_zero p x)

  -- twice the balancing value is even
  pub even_interleaved : Sized p → length (interleaved p a b) * (p.q - 1) % 2 ≡ 0
  even_interleaved sized =
      let e : p.q - 1 ≡ 2 * (p.q / 2) = omega arith in
      let f : length (interleaved p a b) * (2 * (p.q / 2)) % 2 ≡ 0 = omega arith in
      rw e f

pub balance_of_pair : BalanceOfPair
balance_of_pair p sized a b =
    let e : length (interleaved p a b) ≡ balanced_length p = length_interleaved p a b in
    (e, balance_exists p (interleaved p a b) (omega arith) (omega arith) (even_interleaved p a b sized))
