-- What encoding answers: 01's number for each case of the answer, and what is said of the answer and of the output.
-- Assumes nothing.
use Rattle.std.specs.Prelude.{◌≡◌, List, ℕ, length, Result, Ok, Err}
use Rattle.code_theory.specs.Operations.{Outcome, done, refused_by, outcome, encode_refusal, encode_output}
use Rattle.refusals.specs.declared.Refusal.{Refusal}
use Rattle.refusals.specs.Number.{number_of}

-- what each case of the answer says
abbrev pub encoded_outcome : Result Unit Refusal → Outcome
encoded_outcome (Ok _) = done
encoded_outcome (Err r) = refused_by (number_of r)

-- r and the output, that held `out` and now holds `out'`, are the answer to the messages a and b in edition e and profile i, by line rule l
pub record EncodeAllows (e i l : ℕ) (a b : List ℕ) (r : Result Unit Refusal) (out out' : List ℕ) : Type 0 where
  pub answer : encoded_outcome r ≡ outcome (encode_refusal e i l a b (length out))
  pub output : out' ≡ encode_output e i l a b out
