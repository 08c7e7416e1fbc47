-- No symbol moves the sum by more than q - 1: so no part's size is more than its length times that, and the check symbol adds one at most.
-- Assumes nothing.
use mathlib.Core.List.{List, [], ◌∷◌}
use Prim.Native.Nat.{ℕ, zero, suc, ◌+◌, ◌-◌, ◌*◌, ◌/◌, ◌≤◌, ◌<◌, zero-le, suc-le-suc}
use native.Mathlib.Nat.{mod-lt, max-le, le_trans, mul-le-mul_right}
use native.Mathlib.Omega.{arith}
use lib.Dec.{T, ltb, ltb→lt}
use lib.ListN.{length, take, drop, length-take}
use lib.Seq.{take-length}
use Rattle.modular_theory.specs.Sum.{weight}
use Rattle.modular_theory.proofs.Search.{and_left, and_right}
use Rattle.code_theory.specs.Component.{symbols_below}
use Rattle.code_theory.specs.Balance.{shifted}
use Rattle.code_theory.specs.RunningSum.{largest}
use Rattle.peaks_theory.specs.Costs.{gap, size_of, prefix_peak, suffix_peak, residue_at, cost_at}
use Rattle.peaks_theory.specs.Claims.{CostBelow}
use Rattle.peaks_theory.proofs.Shift.{length_shifted, shifted_below}

gap_most : (w l : ℕ) → w ≤ l → gap (2 * w) l ≤ l
gap_most w l k = omega arith

largest_most : (f : ℕ → ℕ) (n k : ℕ) → ((i : ℕ) → i < n → f (suc i) ≤ k) → largest f n ≤ k
largest_most f zero k e = zero-le
largest_most f (suc n) k e =
    max-le (e 0 (suc-le-suc zero-le)) (largest_most (λ i. f (suc i)) n k (λ i l. e (suc i) (suc-le-suc l)))

module _ (q : ℕ) where
  weight_take : (i : ℕ) (u : List ℕ) → T (symbols_below q u) → weight (take i u) ≤ length (take i u) * (q - 1)
  weight_take zero u b = zero-le
  weight_take (suc i) [] b = zero-le
  weight_take (suc i) (y ∷ u) b =
      let l : y < q = ltb→lt y q (and_left (ltb y q) (symbols_below q u) b) in
      omega (arith, weight_take i u (and_right (ltb y q) (symbols_below q u) b))

  weight_most : (u : List ℕ) → T (symbols_below q u) → weight u ≤ length u * (q - 1)
  weight_most u b = rw take-length at (weight_take (length u) u b)

  prefix_most : (i : ℕ) (u : List ℕ) → T (symbols_below q u) → prefix_peak (q - 1) u i ≤ length u * (q - 1)
  prefix_most i u b =
      largest_most (λ j. size_of (q - 1) (take j u)) i (length u * (q - 1)) (λ j l.
      let k : length (take (suc j) u) ≤ length u = omega (arith, length-take (suc j) u) in
      le_trans (gap_most (weight (take (suc j) u)) (length (take (suc j) u) * (q - 1)) (weight_take (suc j) u b))
      (mul-le-mul_right (q - 1) k))

  suffix_most : (i : ℕ) (u : List ℕ) → T (symbols_below q u) → suffix_peak (q - 1) (drop i u) ≤ length u * (q - 1)
  suffix_most zero [] b = zero-le
  suffix_most zero (y ∷ u) b =
      let k : suffix_peak (q - 1) u ≤ length u * (q - 1) = suffix_most zero u (and_right (ltb y q) (symbols_below q u) b) in
      max-le (gap_most (weight (y ∷ u)) (suc (length u) * (q - 1)) (weight_most (y ∷ u) b)) (omega arith)
  suffix_most (suc i) [] b = zero-le
  suffix_most (suc i) (y ∷ u) b = omega (arith, suffix_most i u (and_right (ltb y q) (symbols_below q u) b))

pub cost_below : CostBelow
unfolding cost_at
cost_below q first step d t i h =
    let r : ℕ = residue_at q first step t i in
    let below : r < q = mod-lt (first + t * step + (i + 1) / 2 * (q - 1)) h in
    let front : prefix_peak (q - 1) (shifted q t d) i ≤ length d * (q - 1) =
    rw length_shifted at (prefix_most q i (shifted q t d) (shifted_below q t d h)) in
    let rest : suffix_peak (q - 1) (drop i (shifted q (suc t) d)) ≤ length d * (q - 1) =
    rw length_shifted at (suffix_most q i (shifted q (suc t) d) (shifted_below q (suc t) d h)) in
    let check : gap (2 * r) (q - 1) ≤ q - 1 = gap_most r (q - 1) (omega arith) in
    max-le (max-le (omega arith) (omega arith)) (omega arith)
