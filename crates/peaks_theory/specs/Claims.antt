-- What is claimed of costs: where a choice balances, its cost is the peak of its word with the check symbols (02, T-06).
-- Assumes nothing.
use Rattle.std.specs.Prelude.{◌≡◌, true, List, [], ◌∷◌, ℕ, ◌+◌, ◌-◌, ◌*◌, ◌/◌, ◌%◌, ◌≤◌, ◌<◌, T, length}
use Rattle.modular_theory.specs.Sum.{weight}
use Rattle.modular_theory.specs.Residue.{Congruent}
use Rattle.code_theory.specs.Parameters.{Parameters}
use Rattle.code_theory.specs.Balance.{choice, chosen, balances}
use Rattle.code_theory.specs.Walk.{walked, shift_of}
use Rattle.code_theory.specs.Codeword.{alternate, with_checks, interleaved}
use Rattle.code_theory.specs.RunningSum.{peak}
use Rattle.code_theory.specs.Profiles.{profile_in}
use Rattle.code_theory.specs.Cases.{levels_only, zeros}
use Rattle.peaks_theory.specs.Costs.{balanced_at, check_offset, cost_at}

-- what a search over shifts is handed for the check symbol
pub record Seeded (p : Parameters) (d : List ℕ) (first step : ℕ) : Type 0 where
  pub first_is : Congruent p.q first (weight (alternate true d) + check_offset p (length d) + (length d + 1) / 2)
  pub step_is : Congruent p.q step ((length d + 1) / 2)

-- a choice balances where its shift does, and its peak is then the shift's cost
abbrev pub ChoicesCosted : Parameters → Type 0
ChoicesCosted p =
    (x d : List ℕ) → d ≡ walked p x → 2 ≤ length x → (first step : ℕ) → Seeded p d first step → (s i : ℕ) → i < length x
    → (balances p x s (choice p i) ≡ balanced_at p.q d (shift_of p s) i)
    × (T (balances p x s (choice p i))
    → peak p.q (with_checks p.q (chosen p x s (choice p i))) ≡ cost_at p.q first step d (shift_of p s) i)

-- in both editions, where q is odd
abbrev pub CostIsPeak : Type 0
CostIsPeak = (p : Parameters) → p.q % 2 ≡ 1 → ChoicesCosted p

-- no cost is larger than this, whatever the word and the seed
abbrev pub CostBelow : Type 0
CostBelow = (q first step : ℕ) (d : List ℕ) (t i : ℕ) → 1 ≤ q → cost_at q first step d t i ≤ (length d + 1) * (q - 1)

-- Worked rows.

-- what the choice of s and index i costs
abbrev pub choice_cost : Parameters → List ℕ → ℕ → ℕ → ℕ
choice_cost p x s i =
    let d : List ℕ = walked p x in
    let c : ℕ = (length d + 1) / 2 in
    cost_at p.q (weight (alternate true d) + check_offset p (length d) + c) c d (shift_of p s) i

abbrev pub CostsHold : Type 0
CostsHold =
    -- profile 1, the zero pair, s = 0, v = 1: 1111111111111111102, whose sum is 0 up to α, -2 after it and then 0
    (choice_cost (profile_in 13 1) (interleaved (profile_in 13 1) (zeros 5) (zeros 5)) 0 0 ≡ 2)
    -- profile 1, 00001 and 00000, s = 1, v = 3: 1200011111111112220, whose sum is 2 after two symbols and -4 after five
    × (choice_cost (profile_in 13 1) (interleaved (profile_in 13 1) (0 ∷ 0 ∷ 0 ∷ 0 ∷ 1 ∷ []) (zeros 5)) 1 2 ≡ 4)
    -- edition 18, five levels, s = 1, v = 1: 32222140, whose sum is 2 up to the sixth symbol, 0 after it, and 4 after α
    × (choice_cost (levels_only 18 5) (0 ∷ 0 ∷ 0 ∷ 0 ∷ 1 ∷ 0 ∷ []) 1 1 ≡ 4)

pub record Claims : Type 0 where
  pub cost_is_peak : CostIsPeak
  pub cost_below : CostBelow
  pub costs_hold : CostsHold
