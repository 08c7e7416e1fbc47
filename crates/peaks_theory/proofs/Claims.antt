-- Every claim of specs/Claims.antt, proved.
-- Assumes nothing.
use Rattle.peaks_theory.specs.Claims.{Claims}
use Rattle.peaks_theory.proofs.Costs.{cost_is_peak}
use Rattle.peaks_theory.proofs.Bound.{cost_below}
use Rattle.peaks_theory.proofs.Cases.{costs_hold}

pub claims : Claims
claims = record { cost_is_peak = cost_is_peak; cost_below = cost_below; costs_hold = costs_hold }
