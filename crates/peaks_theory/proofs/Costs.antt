-- A choice's word is a shift or the complement of one, so it balances where the shift does; its cost is then the peak, part by part.
-- Assumes nothing.
use mathlib.Core.Path.{◌≡◌, sym, ap, ap₂, ◌∙◌}
use mathlib.Core.Bool.{true}
use mathlib.Core.List.{List}
use Prim.Native.Nat.{ℕ, ◌+◌, ◌-◌, ◌*◌, ◌%◌, ◌≤◌, ◌<◌, max}
use native.Mathlib.Nat.{le_of_lt}
use native.Mathlib.Omega.{arith}
use lib.Dec.{T, eqb, eqb→eq}
use lib.ListN.{length}
use Rattle.modular_theory.specs.Sum.{weight}
use Rattle.modular_theory.proofs.Search.{eq_test, same_test}
use Rattle.code_theory.specs.Parameters.{Parameters, balancing_value}
use Rattle.code_theory.specs.Balance.{shifted_from, choice, chosen, balances}
use Rattle.code_theory.specs.Walk.{walked, shift_of, unwalked}
use Rattle.code_theory.specs.Codeword.{alternate, with_checks}
use Rattle.code_theory.specs.RunningSum.{peak}
use Rattle.code_theory.proofs.Walk.{chosen_walked, length_walked, Together, halves_together}
use Rattle.peaks_theory.specs.Costs.{gap, balanced_at, check_offset, cost_at}
use Rattle.peaks_theory.specs.Claims.{Seeded, CostIsPeak}
use Rattle.peaks_theory.proofs.Checks.{twice_value, peak_checks}
use Rattle.peaks_theory.proofs.Complement.{peak_unwalked, length_unwalked}
use Rattle.peaks_theory.proofs.Shift.{length_shifted_from, shifted_from_below, shift_peak}
use Rattle.peaks_theory.proofs.CheckSymbol.{residue_is, alpha_gap}

-- a balanced shift's word, of either edition, with its check symbols
cost_of_shift : (p : Parameters) → p.q % 2 ≡ 1 → (d : List ℕ) → 2 ≤ length d → (first step : ℕ) → Seeded p d first step
    → (t i : ℕ) → i ≤ length d → weight (shifted_from p.q t i d) ≡ balancing_value p.q (length d)
    → peak p.q (with_checks p.q (unwalked p (shifted_from p.q t i d))) ≡ cost_at p.q first step d t i
unfolding cost_at
cost_of_shift p odd d two first step a t i l k =
    let q : ℕ = p.q in
    let w : List ℕ = shifted_from q t i d in
    let u : List ℕ = unwalked p w in
    let h : 1 ≤ q = omega arith in
    let twice : length d * (q - 1) ≡ 2 * balancing_value q (length d) = twice_value q (length d) odd in
    let n : length w ≡ length d = length_shifted_from q t i d in
    let m : length u ≡ length d = length_unwalked p w ∙ n in
    let b : weight u ≡ balancing_value q (length d) = (halves_together p h d t i (balancing_value q (length d)) twice).from k in
    let below = shifted_from_below q t i d h in
    let residue = residue_is q d (check_offset p (length d)) first step t i h l a.first_is a.step_is in
    peak_checks q u odd (omega arith) (b ∙ ap (balancing_value q) (sym m))
    ∙ ap₂ max (peak_unwalked p w below ∙ shift_peak q t i d l (ap (λ (x : ℕ). 2 * x) k ∙ sym twice))
    (alpha_gap p w h below (omega arith)
    ∙ ap (λ (x : ℕ). gap (2 * ((weight (alternate true w) + check_offset p x) % q)) (q - 1)) n
    ∙ ap (λ (x : ℕ). gap (2 * x) (q - 1)) (sym residue))

-- the choice of s and index i, of an x whose choices shift d
module _ (p : Parameters) (odd : p.q % 2 ≡ 1) (x d : List ℕ) (is : d ≡ walked p x) (s i : ℕ) (l : i < length x) where
  levels : 1 ≤ p.q
  levels = omega arith

  same_length : length d ≡ length x
  same_length = ap length is ∙ length_walked p levels x

  word : chosen p x s (choice p i) ≡ unwalked p (shifted_from p.q (shift_of p s) i d)
  word = rw is (chosen_walked p levels x s i l)

  twice : length d * (p.q - 1) ≡ 2 * balancing_value p.q (length x)
  twice = rw same_length (twice_value p.q (length x) odd)

  meets : Together (weight (chosen p x s (choice p i))) (weight (shifted_from p.q (shift_of p s) i d)) (balancing_value p.q (length x))
  meets = rw word (halves_together p levels d (shift_of p s) i (balancing_value p.q (length x)) twice)

  balances_with : balances p x s (choice p i) ≡ balanced_at p.q d (shift_of p s) i
  unfolding balances
  balances_with =
      let v : ℕ = balancing_value p.q (length x) in
      let c : ℕ = weight (chosen p x s (choice p i)) in
      let w : ℕ = weight (shifted_from p.q (shift_of p s) i d) in
      same_test (eqb c v) (eqb (2 * w) (length d * (p.q - 1)))
      (λ b. eq_test (ap (λ (n : ℕ). 2 * n) (meets.to (eqb→eq c v b)) ∙ sym twice))
      (λ b. let e : w ≡ v = omega (arith, eqb→eq (2 * w) (length d * (p.q - 1)) b, twice) in eq_test (meets.from e))

  cost_of_choice : 2 ≤ length x → (first step : ℕ) → Seeded p d first step → T (balances p x s (choice p i))
      → peak p.q (with_checks p.q (chosen p x s (choice p i))) ≡ cost_at p.q first step d (shift_of p s) i
  unfolding balances
  cost_of_choice two first step a b =
      let v : ℕ = balancing_value p.q (length x) in
      let k : weight (shifted_from p.q (shift_of p s) i d) ≡ balancing_value p.q (length d) =
      meets.to (eqb→eq (weight (chosen p x s (choice p i))) v b) ∙ ap (balancing_value p.q) (sym same_length) in
      rw word (cost_of_shift p odd d (rw same_length two) first step a (shift_of p s) i (rw same_length (le_of_lt l)) k)

pub cost_is_peak : CostIsPeak
cost_is_peak p odd x d is two first step a s i l =
    (balances_with p odd x d is s i l, cost_of_choice p odd x d is s i l two first step a)
