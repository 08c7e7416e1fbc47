-- The inverse mod q, by the multiples in turn.
-- Assumes nothing.
use mathlib.Core.Path.{◌≡◌, sym, ◌∙◌}
use mathlib.Core.Logic.{◌≢◌}
use mathlib.Core.Bool.{Bool}
use Prim.Native.Nat.{ℕ, ◌+◌, ◌*◌, ◌%◌, ◌≤◌, ◌<◌}
use native.Mathlib.Nat.{mul-zero, zero-mod, not-suc-le-zero}
use native.Mathlib.Omega.{arith}
use lib.Dec.{T, eqb, eqb→eq}
use borrow.Author.Count.{below_more}
use Rattle.modular_theory.specs.Search.{least}
use Rattle.modular_theory.proofs.Search.{eq_test, le_of_not_lt, least_hit, least_is}
use Rattle.std.proofs.Common.{Some, None}
use Rattle.modular_theory.proofs.Residue.{of_eq, ◌then◌, same, add, reduce}
use Rattle.modular.specs.Byte.{byte_sum}
use Rattle.modular.proofs.Bytes.{byte_sum_lem}
use Rattle.locating_theory.specs.Candidates.{inverse_of}
use Rattle.locator.specs.Steps.{Inverse}

-- the multiple of g by i, where that by none before i is 1
pub record NoInverseBefore (q g product i : ℕ) : Type 0 where
  pub is : product ≡ g * i % q
  pub below : product < q
  pub none : (j : ℕ) → j < i → T (eqb (g * j % q) 1) → ⊥

pub first_multiple : (q g : ℕ) → 1 ≤ q → NoInverseBefore q g 0 0
first_multiple q g h = record { is = rw mul-zero (sym (zero-mod q)); below = h; none = λ j l. absurd (not-suc-le-zero l) }

module _ {q g product i : ℕ} (t : NoInverseBefore q g product i) where
  pub next_multiple : q ≤ 15 → g ≤ q → product ≢ 1 → {y : ℕ} → y ≡ byte_sum q product g → NoInverseBefore q g y (i + 1)
  next_multiple b h n e =
      let (is, below) = byte_sum_lem t.below h (omega arith) e in
      let next : g * i + g ≡ g * (i + 1) = omega arith in
      record {
        is = is ∙ (add (of_eq t.is then reduce q (g * i)) (same g) then of_eq next).same;
        below = below;
        none = below_more _ _ t.none (λ z. n (t.is ∙ eqb→eq _ 1 z));
      }

  pub inverse_found : i < q → product ≡ 1 → Inverse q g (Some i)
  unfolding inverse_of
  inverse_found l e = (sym (least_is (λ i. eqb (g * i % q) 1) q i l (eq_test (sym t.is ∙ e)) t.none), l)

  pub none_inverts : q ≤ i → Inverse q g None
  unfolding inverse_of
  none_inverts l =
      let test : ℕ → Bool = λ i. eqb (g * i % q) 1 in
      le_of_not_lt (λ (b : least test q < q). t.none (least test q) (omega arith) (least_hit test q b))
