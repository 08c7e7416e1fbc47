-- Document 01's number for what an operation answers.
-- Assumes nothing.
use Rattle.std.specs.Prelude.{ℕ, Result}
use Rattle.refusals.specs.declared.Refusal.{Refusal}
use Rattle.refusals.specs.Number.{answer_number}

-- 0 where the operation succeeds
abbrev pub number_of : Result (Unit {0}) Refusal → ℕ
number_of a = answer_number a
