-- Where there are no errors, and what the components gain without one.
-- Assumes nothing.
use mathlib.Core.Path.{◌≡◌, ap, ◌∙◌}
use mathlib.Core.Bool.{Bool, false, not, ◌&&◌, and-false}
use Prim.Native.Nat.{ℕ, ◌-◌, ◌≤◌}
use native.Mathlib.Nat.{le_of_lt}
use native.Mathlib.Omega.{arith}
use lib.IntN.{ℤ, neg_ℤ, nat_abs}
use borrow.Author.Tests.{le-ltb}
use Rattle.modular_theory.specs.Level.{is_zero}
use Rattle.modular_theory.specs.Residue.{remainder}
use Rattle.modular_theory.proofs.Residue.{remainder_below}
use Rattle.code_theory.proofs.Columns.{q_positive}
use Rattle.modular.specs.Remainder.{residue_of_negative}
use Rattle.modular.proofs.Dividing.{negative_is}
use Rattle.profiles.specs.declared.edition.Edition.TheVariants.{Of2013, Of2018}
use Rattle.profiles.specs.declared.row.Row.{Row}
use Rattle.profiles.specs.Row.{parameters, Valid}
use Rattle.locating_theory.specs.ErrorPosition.{is_error}
use Rattle.locator.specs.Steps.{Gain}

-- where there are no levels there is no error
pub no_levels : (e : ℤ) {q : ℕ} → q ≡ 0 → is_error q e ≡ false
unfolding is_error
no_levels e h = rw h (ap (λ (b : Bool). not (is_zero e) && b) (le-ltb (nat_abs e) 0 (omega arith)) ∙ and-false (not (is_zero e)))

-- The gain, in either edition.

module _ (t : Row) (v : Valid t) (e : ℤ) {lack : ℕ} (h : lack ≡ residue_of_negative t.q e) where
  some : 1 ≤ t.q
  some = q_positive (parameters t) v.sized

  lack_is : lack ≡ remainder (neg_ℤ e) t.q
  lack_is = h ∙ negative_is e some

  pub lack_upto : lack ≤ t.q
  lack_upto = rw lack_is (le_of_lt (remainder_below (neg_ℤ e) t.q some))

  pub gain_13 : t.edition ≡ Of2013 → Gain t e lack
  gain_13 d = record { is = rw d lack_is; upto = lack_upto }

  pub gain_18 : t.edition ≡ Of2018 → Gain t e (t.q - lack)
  gain_18 d = record { is = rw d (ap (λ (x : ℕ). t.q - x) lack_is); upto = omega arith }
