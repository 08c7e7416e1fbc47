-- The weights of a word and the check symbols that they ask for.
-- Assumes nothing.
use Rattle.std.specs.Prelude.{Bool, true, false, List, ℕ, ◌+◌, pos, ◌-ℤ◌}
use Rattle.modular_theory.specs.Sum.{weight}
use Rattle.code_theory.specs.Codeword.{alternate}
use Rattle.modular.specs.Remainder.{residue}
use Rattle.symbols.specs.declared.weight.Weight.{Weight}
use Rattle.symbols.specs.declared.checks.Checks.{Checks}

-- the sums over the odd and over the even positions, and the weight less the balancing value g (01: middle)
abbrev pub weights_of : ℕ → List ℕ → Weight
weights_of g w = record { odd = weight (alternate true w); even = weight (alternate false w); excess = pos (weight w) -ℤ pos g }

-- 01: α and β of a word with these weights
unfoldable pub checks_of : ℕ → ℕ → Weight → Checks
checks_of q delta w = record { alpha = residue q (w.odd + delta); beta = residue q w.even }

-- the one of a parity: α, over the odd positions (true), and β
abbrev pub check_of : Checks → Bool → ℕ
check_of c true = c.alpha
check_of c false = c.beta
