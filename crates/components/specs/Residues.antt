-- Remainders as the steps make them.
-- Assumes nothing.
use Rattle.std.specs.Prelude.{true, false, List, ℕ, ◌-◌, ◌%◌, ltb, map}

-- a, with k taken off once where it is not below k
abbrev pub less_once : ℕ → ℕ → ℕ
less_once k a = elim (ltb a k) [ true ↦ a | false ↦ a - k ]

-- the symbols mod q
abbrev pub residues : ℕ → List ℕ → List ℕ
residues q l = map (λ x. x % q) l
