-- The running digital sum of a word and its peak (02, T-06: swing and peak).
-- Assumes nothing.
use Rattle.std.specs.Prelude.{List, ℕ, zero, suc, ◌-◌, ◌*◌, max, ℤ, pos, ◌-ℤ◌, nat_abs, length, take}
use Rattle.modular_theory.specs.Sum.{weight}

-- 02: the swing at place i, "twice the sum of the first i symbols minus i times (q−1)"
unfoldable pub running_digital_sum : ℕ → List ℕ → ℕ → ℤ
running_digital_sum q u i = pos (2 * weight (take i u)) -ℤ pos (i * (q - 1))

-- the largest of f 1, .., f n; 0 where there is none
abbrev pub largest : (ℕ → ℕ) → ℕ → ℕ
largest f zero = 0
largest f (suc n) = max (f 1) (largest (λ i. f (suc i)) n)

-- 02: the peak, "the largest size of it over the N places"
unfoldable pub peak : ℕ → List ℕ → ℕ
peak q u = largest (λ i. nat_abs (running_digital_sum q u i)) (length u)
