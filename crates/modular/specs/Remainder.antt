-- Remainders as the code has them: 0 where there are no levels.
-- Assumes nothing.
use Rattle.std.specs.Prelude.{ℕ, zero, suc, ◌%◌, true, false, List, [], ◌∷◌, ℤ, neg_ℤ, ◌==◌}
use Rattle.modular_theory.specs.Residue.{remainder}

-- a sum mod q
unfoldable pub residue : ℕ → ℕ → ℕ
residue q sum = elim (q == 0) [ true ↦ 0 | false ↦ sum % q ]

-- each of n sums mod q
abbrev pub residues_of : ℕ → (ℕ → ℕ) → ℕ → List ℕ
residues_of q sum zero = []
residues_of q sum (suc n) = residue q (sum 0) ∷ residues_of q (λ i. sum (suc i)) n

-- an integer mod q
unfoldable pub residue_of_integer : ℕ → ℤ → ℕ
residue_of_integer q z = elim (q == 0) [ true ↦ 0 | false ↦ remainder z q ]

-- -e mod q
unfoldable pub residue_of_negative : ℕ → ℤ → ℕ
residue_of_negative q e = residue_of_integer q (neg_ℤ e)
