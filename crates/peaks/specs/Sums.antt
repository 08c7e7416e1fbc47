-- Running digital sums as the lanes have them.
-- Assumes nothing.
use Rattle.std.specs.Prelude.{◌≡◌, List, ℕ, suc, ◌+◌, ◌-◌, ◌*◌, ◌≤◌, ◌<◌, length, get_or, drop}
use Rattle.modular_theory.specs.Sum.{weight}
use Rattle.code_theory.specs.Component.{Below}
use Rattle.code_theory.specs.Balance.{shifted}
use Rattle.peaks_theory.specs.Costs.{suffix_peak}

-- the first m of d's 97 symbols are searched, and there are eight levels at most
pub record SymbolsFit (q m : ℕ) (d : List ℕ) : Type 0 where
  pub some : 1 ≤ q
  pub few : q ≤ 8
  pub room : m ≤ 97
  pub size : length d ≡ 97
  pub below : Below q d

-- what stands for a sum of 0
abbrev pub zero_sum : ℕ
zero_sum = 2048

-- s stands for the running digital sum after all of u
pub record Summed (h : ℕ) (u : List ℕ) (s : ℕ) : Type 0 where
  pub is : s + length u * h ≡ zero_sum + 2 * weight u

-- in each lane one does, for the word that f gives
pub record SumsAre (h : ℕ) (f : ℕ → List ℕ) (l : List ℕ) : Type 0 where
  pub size : length l ≡ 8
  pub at : (t : ℕ) → t < 8 → Summed h (f t) (get_or l t 0)

-- the peaks of w raised by t + 1, counted from the end, from an index on
abbrev pub tail_lane : ℕ → List ℕ → ℕ → ℕ → ℕ
tail_lane q w i t = suffix_peak (q - 1) (drop i (shifted q (suc t) w))
