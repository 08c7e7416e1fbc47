-- What decoding answers: 01's numbers and values for each case of the answer, and what is said of the answer and of both outputs.
-- Assumes nothing.
use Rattle.std.specs.Prelude.{◌≡◌, true, false, List, [], ◌∷◌, ℕ, length, Result, Ok, Err}
use Rattle.code_theory.specs.Reading.{Change, Finding, clean, corrected, filled, Reading}
use Rattle.code_theory.specs.Operations.{Answer, answered, Report, refusal, failure, success, decode_answer, report, report_tried, decode_output}
use Rattle.refusals.specs.declared.Refusal.{Refusal}
use Rattle.refusals.specs.declared.Refusal.TheVariants.{Unreadable}
use Rattle.refusals.specs.Number.{number_of}
use Rattle.syndromes.specs.Correction.{correction_of}
use Rattle.decoder.specs.declared.word.Change as declared
use Rattle.decoder.specs.declared.word.Changes.{Changes}
use Rattle.decoder.specs.declared.word.Changes.TheVariants.{One, Two}
use Rattle.decoder.specs.declared.word.Decoded.{Decoded}
use Rattle.decoder.specs.declared.word.Decoded.TheVariants.{Clean, Corrected, Filled}
use Rattle.decoder.specs.declared.word.Decoding.{Decoding}

-- the code's changes, as the model has them
abbrev pub change_of : declared.Change → Change
change_of c = record { position = c.position; symbol = c.symbol }

abbrev pub changes_in : Changes → List Change
changes_in (One c) = change_of c ∷ []
changes_in (Two c d) = change_of c ∷ change_of d ∷ []

-- 01: kind, with what is said of the change
abbrev pub finding_of : Decoded → Finding
finding_of Clean = clean
finding_of (Corrected c) = corrected (correction_of c)
finding_of (Filled cs) = filled (changes_in cs)

-- what an answer says where t positions were tried: a finding (01: kind, place and symbol) or 4, each with that count, or the number of
-- another refusal
abbrev pub report_of : ℕ → Result Decoded Refusal → Report
report_of t (Ok d) = success (finding_of d) t
report_of t (Err Unreadable) = failure t
report_of t (Err r) = refusal (number_of r)

abbrev pub decoded_report : Decoding → Report
decoded_report d = report_of d.tried d.answer

-- r and the outputs, that held `first` and `second` and now hold `first'` and `second'`, are those of the answer a
pub record Answers (a : Answer) (r : Decoding) (first first' second second' : List ℕ) : Type 0 where
  pub answer : decoded_report r ≡ report a
  pub tried : r.tried ≡ report_tried (report a)
  pub first_out : first' ≡ decode_output true a first
  pub second_out : second' ≡ decode_output false a second

-- r and the outputs are those of the reading d, however many positions were tried
pub record ReadAs (d : Reading) (r : Result Decoded Refusal) (first first' second second' : List ℕ) : Type 0 where
  pub answer : (t : ℕ) → report_of t r ≡ report (answered d t)
  pub first_out : first' ≡ decode_output true (answered d 0) first
  pub second_out : second' ≡ decode_output false (answered d 0) second

-- what decode may answer to the word u in edition e (02) and profile i
abbrev pub DecodeAllows : ℕ → ℕ → List ℕ → Decoding → List ℕ → List ℕ → List ℕ → List ℕ → Type 0
DecodeAllows e i u r first first' second second' = Answers (decode_answer e i u (length first) (length second)) r first first' second second'
