-- The number of what is done or refused, by the number that refuses the call.
-- Assumes nothing.
use mathlib.Core.Path.{◌≡◌, refl, ap, ◌∙◌}
use Prim.Native.Nat.{ℕ}
use Rattle.std.specs.Prelude.{Result, Ok, Err}
use Rattle.refusals.specs.declared.Refusal.{Refusal}
use Rattle.refusals.specs.Number.{answer_number}
use Rattle.code_theory.specs.Operations.{outcome, outcome_number}
use Rattle.encoder.specs.Answer.{encoded_outcome}
use Rattle.encoder.proofs.Refusing.{number_back}

same_number : (r : Result Unit Refusal) → answer_number r ≡ outcome_number (encoded_outcome r)
same_number (Ok done) = refl
same_number (Err r) = refl

pub number_told : (r : Result Unit Refusal) {n : ℕ} → encoded_outcome r ≡ outcome n → answer_number r ≡ n
number_told r {n} e = same_number r ∙ ap outcome_number e ∙ number_back n
