-- What the edition decides in decoding: a sign.
-- Assumes nothing.
use Rattle.std.specs.Prelude.{Bool, true, false, not}
use Rattle.code_theory.specs.Parameters.{edition13, edition18, Parameters}

-- the body is differenced backward, the earlier symbol less the later: in edition 18 (02, T-03)
abbrev pub is_backward : Parameters → Bool
is_backward p = elim p.edition [ edition13 ↦ false | edition18 ↦ true ]

-- where a symbol of the parity gains something, the first component loses it and the second gains it: at the odd positions (true), and
-- backward at the even ones
abbrev pub first_loses : Parameters → Bool → Bool
first_loses p b = elim (is_backward p) [ true ↦ not b | false ↦ b ]
