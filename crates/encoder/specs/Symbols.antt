-- What the balancing steps ask of the word in their array, and what they say of it.
-- Assumes nothing.
use Rattle.std.specs.Prelude.{◌≡◌, true, false, List, ◌∷◌, ℕ, suc, ◌+◌, ◌-◌, ◌%◌, ◌≤◌, ◌<◌, ltb, length, get_or, take, drop}
use Rattle.modular_theory.specs.Sum.{weight}
use Rattle.modular_theory.specs.Residue.{Congruent}
use Rattle.code_theory.specs.Parameters.{Parameters}
use Rattle.code_theory.specs.Balance.{shifted_from}
use Rattle.code_theory.specs.Walk.{walked, shift_of, unwalked}
use Rattle.code_theory.specs.LineRule.{LineRule, balanced_by}
use Rattle.peaks_theory.specs.Lowest.{no_cost, lowest_index}

-- the first m of x's 97 symbols are below q, and q is small enough that sums of two symbols fit a byte
pub record SymbolArray (q m : ℕ) (x : List ℕ) : Type 0 where
  pub size : length x ≡ 97
  pub some : 1 ≤ q
  pub levels : q ≤ 15
  pub room : m ≤ 97
  pub below : (i : ℕ) → i < m → get_or x i 0 < q

-- the sums of the first symbols of x, up to each of the first m
pub record PrefixSums (m : ℕ) (x sums : List ℕ) : Type 0 where
  pub at : (i : ℕ) → i < m → get_or sums i 0 ≡ weight (take (suc i) x)

-- x begins with 0, and its other symbols sum to 0 mod q, as those of components in code do
pub record ZeroFirst (q : ℕ) (x : List ℕ) : Type 0 where
  pub zero : x ≡ 0 ∷ drop 1 x
  pub sum : Congruent q (weight (drop 1 x)) 0

-- d is the word that the choices for some x shift
pub record Walked (p : Parameters) (d : List ℕ) : Type 0 where
  pub of : List ℕ
  pub is : d ≡ walked p of

-- raised by s, and by 1 more from position v on, d gives w of the choice that the rule r takes, for every x whose choices shift d
pub record Chosen (r : LineRule) (p : Parameters) (d : List ℕ) (s v : ℕ) : Type 0 where
  pub below : s < p.q
  pub from : 1 ≤ v
  pub upto : v ≤ length d
  pub word : (x : List ℕ) → d ≡ walked p x → unwalked p (shifted_from p.q s (v - 1) d) ≡ balanced_by r p x

-- what the least peak of the choices of s is, where `costs` has it for each shift
abbrev pub shift_cost : Parameters → List ℕ → ℕ → ℕ
shift_cost p costs s = get_or costs (shift_of p s) 0

-- 02: "then the lowest s", the first with the lowest of them; q where there is none
unfoldable pub lowest_s : Parameters → List ℕ → ℕ
lowest_s p costs = lowest_index (λ s. ltb (shift_cost p costs s) no_cost) (shift_cost p costs) p.q

-- s, and 1 more from an index on
abbrev pub rise_at : ℕ → ℕ → ℕ → ℕ
rise_at from s i = elim (ltb i from) [ true ↦ s | false ↦ suc s ]

-- w is d with that added mod q to each of 97 symbols
pub record Raised (q : ℕ) (d : List ℕ) (s from : ℕ) (w : List ℕ) : Type 0 where
  pub at : (i : ℕ) → i < 97 → get_or w i 0 ≡ (get_or d i 0 + rise_at from s i) % q
