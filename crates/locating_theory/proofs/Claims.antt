-- Every claim of specs/Claims.antt, proved.
-- Assumes nothing.
use Rattle.locating_theory.specs.Claims.{Claims}
use Rattle.locating_theory.proofs.Unique.{one_index}
use Rattle.locating_theory.proofs.Candidates.{two_candidates}
use Rattle.locating_theory.proofs.Corrected.{position_of_corrected}

pub claims : Claims
claims = record { one_index = one_index; two_candidates = two_candidates; position_of_corrected = position_of_corrected }
