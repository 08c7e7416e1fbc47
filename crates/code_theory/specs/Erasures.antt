-- Erased symbols of a received word (02, T-01: marks) and their fillings.
-- Assumes nothing.
use Rattle.std.specs.Prelude.{◌≡◌, ◌≢◌, true, false, List, [], ◌∷◌, ℕ, suc, ◌<◌, ◌^◌, eqb, length, get_or, drop}
use Rattle.modular_theory.specs.Search.{least}
use Rattle.modular_theory.specs.Digits.{digits}
use Rattle.code_theory.specs.Parameters.{Parameters}
use Rattle.code_theory.specs.Component.{erasure}
use Rattle.code_theory.specs.Codeword.{codeword}

-- how many symbols are erased
abbrev pub erasures : List ℕ → ℕ
erasures [] = 0
erasures (x ∷ xs) = elim (eqb x erasure) [ true ↦ suc (erasures xs) | false ↦ erasures xs ]

-- their indices, in rising order, where the first symbol has index i
abbrev pub erased_indices : ℕ → List ℕ → List ℕ
erased_indices i [] = []
erased_indices i (x ∷ xs) = elim (eqb x erasure) [ true ↦ i ∷ erased_indices (suc i) xs | false ↦ erased_indices (suc i) xs ]

-- 02, number 11: more are not read
abbrev pub most_erasures : Parameters → ℕ
most_erasures p = 2

-- u has the symbols of v at every position that is not erased
pub record Agrees (v u : List ℕ) : Type 0 where
  pub long : length u ≡ length v
  pub at : (i : ℕ) → i < length v → get_or v i 0 ≢ erasure → get_or u i 0 ≡ get_or v i 0

-- v with the symbols ys at its erased positions, in rising order
abbrev pub fill : List ℕ → List ℕ → List ℕ
fill [] ys = []
fill (x ∷ xs) ys = elim (eqb x erasure) [ true ↦ get_or ys 0 0 ∷ fill xs (drop 1 ys) | false ↦ x ∷ fill xs ys ]

-- the filling numbered e, whose symbols are the digits of e in base q: there are q to the number of erasures
unfoldable pub filling : Parameters → List ℕ → ℕ → List ℕ
filling p v e = fill v (digits p.q (erasures v) e)

-- the first filling that is a codeword; their number where none is
unfoldable pub first_filling : Parameters → List ℕ → ℕ
first_filling p v = least (λ e. codeword p (filling p v e)) (p.q ^ erasures v)
