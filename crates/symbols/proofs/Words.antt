-- Sums that grow by one symbol at a time, zeros, and how long every other symbol of a word is.
-- Assumes nothing.
use mathlib.Core.Path.{◌≡◌, refl}
use mathlib.Core.Bool.{Bool, true, false}
use mathlib.Core.List.{List, [], ◌∷◌}
use Prim.Native.Nat.{ℕ, zero, suc, ◌+◌, ◌*◌, ◌≤◌, zero-le}
use native.Mathlib.Omega.{arith}
use lib.ListN.{length, get_or, take, replicate}
use Rattle.modular_theory.specs.Sum.{weight, dot}
use Rattle.code_theory.specs.Codeword.{alternate}

-- one symbol more; past the end it is 0
pub dot_take : (f : ℕ → ℕ) (i : ℕ) (c : List ℕ) → dot f (take (suc i) c) ≡ dot f (take i c) + f i * get_or c i 0
dot_take f zero [] = omega arith
dot_take f (suc i) [] = omega arith
dot_take f zero (x ∷ xs) = omega arith
dot_take f (suc i) (x ∷ xs) = omega (arith, dot_take (λ j. f (suc j)) i xs)

pub weight_take : (i : ℕ) (c : List ℕ) → weight (take (suc i) c) ≡ weight (take i c) + get_or c i 0
weight_take zero [] = refl
weight_take (suc i) [] = refl
weight_take zero (x ∷ xs) = omega arith
weight_take (suc i) (x ∷ xs) = omega (arith, weight_take i xs)

-- every symbol of an array of zeros, and past its end
pub zeros_at : (m k : ℕ) → get_or {A = ℕ} (replicate m 0) k 0 ≡ 0
zeros_at zero k = refl
zeros_at (suc m) zero = refl
zeros_at (suc m) (suc k) = zeros_at m k

pub alternate_most : (b : Bool) (k : ℕ) (c : List ℕ) → length c ≤ 2 * k → length (alternate b c) ≤ k
alternate_most b k [] h = zero-le
alternate_most b zero (x ∷ c) h = absurd (omega arith)
alternate_most true (suc k) (x ∷ []) h = omega arith
alternate_most false (suc k) (x ∷ []) h = zero-le
alternate_most true (suc k) (x ∷ y ∷ c) h = omega (arith, alternate_most true k c (omega arith))
alternate_most false (suc k) (x ∷ y ∷ c) h = omega (arith, alternate_most false k c (omega arith))
