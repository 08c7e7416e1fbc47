-- What a check of a queue answers.
-- Assumes nothing.
use Rattle.std.specs.Prelude.{List, ℕ, length, take, Result, Ok, Err}
use Rattle.refusals.specs.declared.Refusal.{Refusal}
use Rattle.refusals.specs.Number.{number_of}
use Rattle.code_theory.specs.Refusal.{first_refusal, on_success}
use Rattle.queue_theory.specs.Lists.{last_of}
use Rattle.queue_theory.specs.Chains.{used}
use Rattle.queue_theory.specs.Operations.{sound_tests}
use Rattle.soundness.specs.declared.lists.Walked.{Walked}

-- the cell that the used list leads to in k steps from cell 0, or its last cell where it is shorter
unfoldable pub reached : List ℕ → ℕ → ℕ
reached s k = last_of 0 (take k (used s))

-- what a check tells: 01's number, or 0 for a sound queue, and of a sound queue the cell that was asked for and the number of records
pub record CheckReport : Type 0 where
  pub number : ℕ
  pub cell : ℕ
  pub records : ℕ

abbrev pub check_report : ℕ → ℕ → ℕ → CheckReport
check_report n cell records = record { number = n; cell = cell; records = records }

abbrev pub checked_report : Result Walked Refusal → CheckReport
checked_report (Ok w) = check_report 0 w.cell w.records
checked_report (Err r) = check_report (number_of r) 0 0

-- 5, then 6, and otherwise the cell of record k, or the last used one, and the number of records
unfoldable pub check_answer : List ℕ → ℕ → CheckReport
check_answer s k =
    let n = first_refusal (sound_tests s) in
    check_report n (on_success n (reached s k) 0) (on_success n (length (used s)) 0)
