-- Tests over the numbers below a bound. Each function shifts the test as it recurs, so that its laws carry no index arithmetic.
-- Assumes nothing.
use Rattle.std.specs.Prelude.{Bool, true, false, ℕ, zero, suc, ltb}

-- the test passes at every i below n
abbrev pub all_below : (ℕ → Bool) → ℕ → Bool
all_below t zero = true
all_below t (suc n) = elim (t 0) [ true ↦ all_below (λ i. t (suc i)) n | false ↦ false ]

-- the first i below n at which the test passes; n where there is none
abbrev pub least : (ℕ → Bool) → ℕ → ℕ
least t zero = 0
least t (suc n) = elim (t 0) [ true ↦ 0 | false ↦ suc (least (λ i. t (suc i)) n) ]

-- the test passes at some i below n
abbrev pub any_below : (ℕ → Bool) → ℕ → Bool
any_below t n = ltb (least t n) n
