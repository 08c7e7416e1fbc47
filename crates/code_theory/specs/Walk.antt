-- The walk that the choices of both editions run through: w of a choice is a word that does not depend on the choice, shifted; in edition
-- 18 the complement of that.
-- Assumes nothing.
use Rattle.std.specs.Prelude.{List, map, ℕ, suc, ◌-◌}
use Rattle.modular_theory.specs.Residue.{minus}
use Rattle.code_theory.specs.Parameters.{edition13, edition18, Parameters}
use Rattle.code_theory.specs.Balance.{integrate, integrate_from_end}

-- each symbol negated mod q
abbrev pub negated : ℕ → List ℕ → List ℕ
negated q d = map (minus q 0) d

-- each symbol y made q - 1 - y
abbrev pub complement : ℕ → List ℕ → List ℕ
complement q w = map (λ y. q - 1 - y) w

-- the word that is shifted, of x
abbrev pub walked : Parameters → List ℕ → List ℕ
walked p x = elim p.edition [ edition13 ↦ integrate p.q 0 x | edition18 ↦ negated p.q (integrate_from_end p.q x) ]

-- what is added to each of its symbols for a choice's s, and 1 more from an index on: s, or in edition 18 -2 - s mod q
abbrev pub shift_of : Parameters → ℕ → ℕ
shift_of p s = elim p.edition [ edition13 ↦ s | edition18 ↦ minus p.q (p.q - 1) (suc s) ]

-- w of the choice, from the shifted word
abbrev pub unwalked : Parameters → List ℕ → List ℕ
unwalked p w = elim p.edition [ edition13 ↦ w | edition18 ↦ complement p.q w ]
