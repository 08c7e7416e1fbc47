-- The peak of a shifted word with its check symbols (02, T-06), from its two parts: up to an index, and from it on. h is q - 1.
-- Assumes nothing.
use Rattle.std.specs.Prelude.{Bool, List, [], ◌∷◌, ℕ, suc, ◌+◌, ◌-◌, ◌*◌, ◌/◌, ◌%◌, max, eqb, length, take, drop}
use Rattle.modular_theory.specs.Sum.{weight}
use Rattle.modular_theory.specs.Residue.{minus}
use Rattle.code_theory.specs.Parameters.{edition13, edition18, Parameters, delta}
use Rattle.code_theory.specs.Balance.{shifted, shifted_from}
use Rattle.code_theory.specs.RunningSum.{largest}

-- the size of a - b
abbrev pub gap : ℕ → ℕ → ℕ
gap a b = max (a - b) (b - a)

-- the size of the running digital sum after all of u
abbrev pub size_of : ℕ → List ℕ → ℕ
size_of h u = gap (2 * weight u) (length u * h)

-- the largest size over the first 1, .., i symbols of u
abbrev pub prefix_peak : ℕ → List ℕ → ℕ → ℕ
prefix_peak h u i = largest (λ j. size_of h (take j u)) i

-- the largest size over all of u, all but its first symbol, and so on
abbrev pub suffix_peak : ℕ → List ℕ → ℕ
suffix_peak h [] = 0
suffix_peak h (y ∷ u) = max (size_of h (y ∷ u)) (suffix_peak h u)

-- d raised by t, and by 1 more from index i on, has the balancing value
abbrev pub balanced_at : ℕ → List ℕ → ℕ → ℕ → Bool
balanced_at q d t i = eqb (2 * weight (shifted_from q t i d)) (length d * (q - 1))

-- α of that word, where it is `first` for t = 0 and i = 0: each shift adds `step`, and each odd position before i takes 1
abbrev pub residue_at : ℕ → ℕ → ℕ → ℕ → ℕ → ℕ
residue_at q first step t i = (first + t * step + (i + 1) / 2 * (q - 1)) % q

-- its peak with such an α, where it is balanced
unfoldable pub cost_at : ℕ → ℕ → ℕ → List ℕ → ℕ → ℕ → ℕ
cost_at q first step d t i =
    let h : ℕ = q - 1 in
    max (max (prefix_peak h (shifted q t d) i) (suffix_peak h (drop i (shifted q (suc t) d)))) (gap (2 * residue_at q first step t i) h)

-- what is added to the sum over the odd positions: δ; in edition 18 what makes the mirror image of α, whose size is the same
abbrev pub check_offset : Parameters → ℕ → ℕ
check_offset p m = elim p.edition [ edition13 ↦ delta p.q m | edition18 ↦ minus p.q ((m + 1) / 2 - 1) (delta p.q m) ]
