-- The cost of an index in a lane, and whether it balances the word.
-- Assumes nothing.
use mathlib.Core.Path.{◌≡◌, sym, ap, ap₂, ◌∙◌}
use mathlib.Core.Logic.{◌≢◌}
use mathlib.Core.List.{List}
use Prim.Native.Nat.{ℕ, suc, ◌+◌, ◌-◌, ◌*◌, ◌/◌, ◌%◌, ◌≤◌, ◌<◌, max}
use native.Mathlib.Nat.{mul-le-mul, mod-lt, add-mod-mod, mod-add-mod, suc-mul, zero-mul, zero-mod}
use native.Mathlib.Omega.{arith}
use lib.Dec.{eqb, eqb→eq}
use lib.ListN.{length}
use Rattle.modular_theory.specs.Sum.{weight}
use Rattle.modular_theory.proofs.Search.{same_test, eq_test}
use Rattle.modular_theory.proofs.Residue.{already_reduced, wrapped}
use Rattle.code_theory.specs.Balance.{shifted, shifted_from}
use Rattle.peaks_theory.specs.Costs.{gap, prefix_peak, balanced_at, cost_at}
use Rattle.peaks_theory.specs.Lowest.{no_cost}
use Rattle.peaks_theory.proofs.Bound.{cost_below}
use Rattle.peaks.specs.Lanes.{raised_lane, taken_off}
use Rattle.peaks.specs.Sums.{zero_sum, Summed, tail_lane}
use Rattle.peaks.specs.Steps.{cost_of}
use Rattle.peaks_theory.proofs.Shift.{length_shifted_from}

-- With eight levels and 97 symbols no cost passes 686.
pub cost_small : {q : ℕ} → 1 ≤ q → q ≤ 8 → (first step : ℕ) (d : List ℕ) → length d ≤ 97 → (t i : ℕ) → cost_at q first step d t i < no_cost
cost_small {q} some few first step d short t i =
    let symbols : length d + 1 ≤ 98 = omega arith in
    let levels : q - 1 ≤ 7 = omega arith in
    omega (arith, cost_below q first step d t i some, mul-le-mul symbols levels)

-- The check symbol's residue.

pub taken_none : (q : ℕ) → 0 ≡ taken_off q 0
taken_none q = rw (zero-mul (q - 1)) (sym (zero-mod q))

pub taken_below : (q i : ℕ) {k : ℕ} → 1 ≤ q → k ≡ taken_off q i → k < q
taken_below q i some e = rw e (mod-lt ((i + 1) / 2 * (q - 1)) some)

-- at an even index 1 more is taken off: k - 1 mod q
module _ (q i : ℕ) {k : ℕ} (some : 1 ≤ q) (is : k ≡ taken_off q i) (even : i % 2 ≢ 1) where
  less_one : (k + (q - 1)) % q ≡ taken_off q (i + 1)
  less_one =
      let half : (i + 1 + 1) / 2 ≡ suc ((i + 1) / 2) = omega (arith, even) in
      ap (λ (n : ℕ). (n + (q - 1)) % q) is
      ∙ mod-add-mod ((i + 1) / 2 * (q - 1)) q (q - 1)
      ∙ ap (λ (n : ℕ). n % q) (sym (ap (λ (n : ℕ). n * (q - 1)) half ∙ suc-mul ((i + 1) / 2) (q - 1)))

  pub taken_round : k ≡ 0 → q - 1 ≡ taken_off q (i + 1)
  taken_round e =
      let sum : q - 1 ≡ k + (q - 1) = omega arith in
      sum ∙ (already_reduced {q = q} (omega arith)).0 ∙ less_one

  pub taken_more : k ≢ 0 → k - 1 ≡ taken_off q (i + 1)
  taken_more n =
      let below = taken_below q i some is in
      let sum : k - 1 ≡ k + (q - 1) - q = omega (arith, n) in
      sum ∙ (wrapped {q = q} (omega (arith, n)) (omega arith)).0 ∙ less_one

-- the largest of the three is the cost
pub cost_lane : (q first step : ℕ) (w : List ℕ) (t i : ℕ) {head tail check : ℕ} → head ≡ prefix_peak (q - 1) (shifted q t w) i
    → tail ≡ tail_lane q w i t → check ≡ raised_lane q first step (taken_off q i) t
    → cost_of (q - 1) head tail check ≡ cost_at q first step w t i
unfolding cost_at
cost_lane q first step w t i e f g =
    let residue = g ∙ ap (λ (n : ℕ). 2 * n) (add-mod-mod (first + t * step) ((i + 1) / 2 * (q - 1)) q) in
    ap₂ max (ap₂ max e f) (ap (λ (n : ℕ). gap n (q - 1)) residue)

-- a sum that stands for 0 is that of a balanced word
pub balanced_lane : (q t i : ℕ) (w : List ℕ) {s : ℕ} → Summed (q - 1) (shifted_from q t i w) s → eqb s zero_sum ≡ balanced_at q w t i
balanced_lane q t i w {s} a =
    let is : s + length w * (q - 1) ≡ zero_sum + 2 * weight (shifted_from q t i w) = rw (length_shifted_from q t i w) at a.is in
    let total : ℕ = 2 * weight (shifted_from q t i w) in
    let mean : ℕ = length w * (q - 1) in
    same_test (eqb s zero_sum) (balanced_at q w t i)
    (λ h. let e : s ≡ zero_sum = eqb→eq s zero_sum h in let f : total ≡ mean = omega arith in eq_test f)
    (λ h. let e : total ≡ mean = eqb→eq total mean h in let f : s ≡ zero_sum = omega arith in eq_test f)
