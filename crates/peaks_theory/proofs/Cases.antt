-- The worked rows, computed.
-- Assumes nothing.
use mathlib.Core.Path.{refl}
use Rattle.modular_theory.specs.Residue.{minus}
use Rattle.code_theory.specs.Parameters.{delta}
use Rattle.code_theory.specs.Component.{syndrome, in_code, is_check, message, candidate, component}
use Rattle.code_theory.specs.Codeword.{interleaved}
use Rattle.code_theory.specs.Profiles.{profile}
use Rattle.peaks_theory.specs.Costs.{cost_at}
use Rattle.peaks_theory.specs.Claims.{CostsHold}

pub costs_hold : CostsHold
unfolding minus delta syndrome in_code is_check message candidate component interleaved profile cost_at
costs_hold = (refl, refl, refl)
