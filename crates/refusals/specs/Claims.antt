-- What is claimed of the numbers. proofs/Claims.antt has a term of it.
-- Assumes nothing.
use Rattle.std.specs.Prelude.{◌≡◌, ◌≢◌}
use Rattle.refusals.specs.declared.Refusal.{Refusal}
use Rattle.refusals.specs.Number.{number_of}

-- no two refusals have one number, and none has that of success
pub record Claims : Type 0 where
  pub numbers_differ : (r s : Refusal) → number_of r ≡ number_of s → r ≡ s
  pub none_is_success : (r : Refusal) → number_of r ≢ 0
