-- What decoding by the syndromes answers (02, T-09): what decoding answers, without the count of positions tried.
-- Assumes nothing.
use Rattle.std.specs.Prelude.{◌≡◌, true, false, List, ℕ, length, Result}
use Rattle.code_theory.specs.Operations.{Answer, Report, refusal, failure, success, decode_answer, report, decode_output}
use Rattle.refusals.specs.declared.Refusal.{Refusal}
use Rattle.decoder.specs.declared.word.Decoded.{Decoded}
use Rattle.decoder.specs.Decode.{report_of}

-- a report without its count: 02, "the count of tried places is not its business"
abbrev pub uncounted : Report → Report
uncounted (refusal k) = refusal k
uncounted (failure t) = failure 0
uncounted (success f t) = success f 0

-- what an answer says: a finding (01: kind, place and symbol), or 4, or the number of another refusal
abbrev pub syndrome_report : Result Decoded Refusal → Report
syndrome_report = report_of 0

-- r and the outputs are those of the answer a, the count aside
pub record SyndromeAnswers (a : Answer) (r : Result Decoded Refusal) (first first' second second' : List ℕ) : Type 0 where
  pub answer : syndrome_report r ≡ uncounted (report a)
  pub first_out : first' ≡ decode_output true a first
  pub second_out : second' ≡ decode_output false a second

-- what syndrome_decode may answer to the word u in edition e (02) and profile i
abbrev pub SyndromeDecodeAllows : ℕ → ℕ → List ℕ → Result Decoded Refusal → List ℕ → List ℕ → List ℕ → List ℕ → Type 0
SyndromeDecodeAllows e i u r first first' second second' =
    SyndromeAnswers (decode_answer e i u (length first) (length second)) r first first' second second'
