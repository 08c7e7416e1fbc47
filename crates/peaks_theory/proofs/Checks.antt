-- A balanced word with its check symbols is balanced, since they make q - 1: so they add what is left before the second, and nothing else.
-- Assumes nothing.
use mathlib.Core.Path.{◌≡◌, sym, ap, ap₂, ◌∙◌}
use mathlib.Core.List.{List, [], ◌∷◌, ◌++◌}
use Prim.Native.Nat.{ℕ, ◌+◌, ◌-◌, ◌*◌, ◌/◌, ◌%◌, ◌≤◌, max}
use native.Mathlib.Nat.{zero-max, max-zero}
use native.Mathlib.Omega.{arith}
use lib.ListN.{length, length-append}
use Rattle.modular_theory.specs.Sum.{weight}
use Rattle.code_theory.specs.Parameters.{balancing_value}
use Rattle.code_theory.specs.RunningSum.{peak}
use Rattle.code_theory.specs.Codeword.{alpha, beta, with_checks}
use Rattle.code_theory.proofs.Delta.{checks_exact}
use Rattle.peaks_theory.specs.Costs.{gap, suffix_peak}
use Rattle.peaks_theory.proofs.Split.{mirrored, gap_self, peak_prefix, split}

-- q is odd, so the balancing value is a half
pub twice_value : (q m : ℕ) → q % 2 ≡ 1 → m * (q - 1) ≡ 2 * balancing_value q m
unfolding balancing_value
twice_value q m odd =
    let e : q - 1 ≡ 2 * (q / 2) = omega arith in
    let f : m * (q - 1) ≡ m * (2 * (q / 2)) = ap (λ (n : ℕ). m * n) e in
    omega arith

weight_append : (u v : List ℕ) → weight (u ++ v) ≡ weight u + weight v
weight_append [] v = omega arith
weight_append (y ∷ u) v = omega (arith, weight_append u v)

-- two symbols that make h
two_symbols : (h a b : ℕ) → a + b ≡ h → suffix_peak h (a ∷ b ∷ []) ≡ gap (2 * a) h
two_symbols h a b e =
    let f : 2 * (a + (b + 0)) ≡ 2 * h = omega arith in
    let g : 2 * (b + 0) + 2 * a ≡ 1 * h + h = omega arith in
    ap₂ max (gap_self (2 * (a + (b + 0))) (2 * h) f) (max-zero (gap (2 * (b + 0)) (1 * h)))
    ∙ zero-max (gap (2 * (b + 0)) (1 * h))
    ∙ mirrored (2 * (b + 0)) (2 * a) (1 * h) h g

pub peak_checks : (q : ℕ) (w : List ℕ) → q % 2 ≡ 1 → 2 ≤ length w → weight w ≡ balancing_value q (length w)
    → peak q (with_checks q w) ≡ max (peak q w) (gap (2 * alpha q w) (q - 1))
unfolding with_checks
peak_checks q w odd two k =
    let h : ℕ = q - 1 in
    let c : List ℕ = alpha q w ∷ beta q w ∷ [] in
    let e : alpha q w + beta q w ≡ h = checks_exact q w odd two k in
    let f : 2 * (weight w + weight c) ≡ (length w + 2) * h = omega (arith, twice_value q (length w) odd) in
    split q w c (ap (λ (n : ℕ). 2 * n) (weight_append w c) ∙ f ∙ ap (λ (n : ℕ). n * h) (sym (length-append w c)))
    ∙ ap₂ max (sym (peak_prefix q w)) (two_symbols h (alpha q w) (beta q w) e)
