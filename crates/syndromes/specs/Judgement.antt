-- What a balanced word is, by three tests.
-- Assumes nothing.
use Rattle.std.specs.Prelude.{Bool, true, false, ℕ, ◌+◌, Option, Some, None, Result, Ok, Err}
use Rattle.code_theory.specs.Reading.{correction_at, clean, corrected}
use Rattle.code_theory.specs.Operations.{Report, failure, refusal, success}
use Rattle.refusals.specs.declared.Refusal.{Refusal}
use Rattle.refusals.specs.declared.Refusal.TheVariants.{Unreadable}
use Rattle.refusals.specs.Number.{number_of}
use Rattle.symbols.specs.declared.checks.Checks.{Checks}
use Rattle.syndromes.specs.declared.correction.Correction as declared
use Rattle.syndromes.specs.Correction.{correction_of}

-- what each case says: a finding (01: kind, place and symbol; 02: the fault), or 4, and that no position was tried
abbrev pub judgement_report : Result (Option declared.Correction) Refusal → Report
judgement_report (Ok None) = success clean 0
judgement_report (Ok (Some c)) = success (corrected (correction_of c)) 0
judgement_report (Err Unreadable) = failure 0
judgement_report (Err r) = refusal (number_of r)

-- the same by the tests, whether the syndromes are near, and whether each check symbol, α and β, agrees: the body has m symbols, asks
-- for the first check symbols, and came with the second ones; no position is tried
abbrev pub balanced_report : ℕ → Checks → Checks → Bool → Bool → Bool → Report
balanced_report m asked arrived false a b = failure 0
balanced_report m asked arrived true true true = success clean 0
balanced_report m asked arrived true true false = success (corrected (correction_at (m + 1) arrived.beta asked.beta)) 0
balanced_report m asked arrived true false true = success (corrected (correction_at m arrived.alpha asked.alpha)) 0
balanced_report m asked arrived true false false = failure 0
