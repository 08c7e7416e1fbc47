-- What conversion answers, which is what encoding does: the output holds the word, or the call is refused by a number.
-- Assumes nothing.
use Rattle.std.specs.Prelude.{◌≡◌, List, ℕ, length, Result}
use Rattle.code_theory.specs.Operations.{outcome}
use Rattle.refusals.specs.declared.Refusal.{Refusal}
use Rattle.encoder.specs.Answer.{encoded_outcome}
use Rattle.converter.specs.Conversion.{convert_refusal, convert_output}

-- r and the output, that held `out` and now holds `out'`, are the answer to the word u of edition e in profile i
pub record ConvertAllows (e i : ℕ) (u : List ℕ) (r : Result Unit Refusal) (out out' : List ℕ) : Type 0 where
  pub answer : encoded_outcome r ≡ outcome (convert_refusal e i u (length out))
  pub output : out' ≡ convert_output e i u out
