-- What the steps of decoding answer.
-- Assumes nothing.
use Rattle.std.specs.Prelude.{◌≡◌, ◌≢◌, Bool, true, false, List, ℕ, T, Option, Some, None, Result, Ok, Err}
use Rattle.code_theory.specs.Parameters.{Parameters, is_edition, edition_of}
use Rattle.code_theory.specs.Codeword.{received}
use Rattle.code_theory.specs.Erasures.{erased_indices}
use Rattle.code_theory.specs.Reading.{Finding, unreadable}
use Rattle.code_theory.specs.Operations.{decode_answer, refused}
use Rattle.decoding_theory.specs.Syndromes.{near_syndromes}
use Rattle.decoding_theory.specs.Decoded.{Sums, read_by, decoded_balanced}
use Rattle.refusals.specs.declared.Refusal.{Refusal}
use Rattle.refusals.specs.declared.Refusal.TheVariants.{Unreadable}
use Rattle.refusals.specs.Number.{number_of}
use Rattle.profiles.specs.declared.erased.Erasures.{Erasures}
use Rattle.profiles.specs.declared.row.Row.{Row}
use Rattle.profiles.specs.Refusal.{decode_number, screening, screened}
use Rattle.profiles.specs.Row.{parameters, RowOf}
use Rattle.symbols.specs.Syndromes.{part}
use Rattle.decoder.specs.declared.totals.Totals.{Totals}
use Rattle.decoder.specs.declared.parity.Parity.{Parity}
use Rattle.decoder.specs.declared.parity.Parity.TheVariants.{Odd, Even}
use Rattle.decoder.specs.declared.word.Decoded.{Decoded}
use Rattle.decoder.specs.Totals.{sums_of}
use Rattle.decoder.specs.Decode.{finding_of, ReadAs}

-- the parity whose check symbol alone disagrees, by whether each agrees
abbrev pub wrong_parity : Bool → Bool → Option Parity
wrong_parity true true = None
wrong_parity true false = Some Even
wrong_parity false true = Some Odd
wrong_parity false false = None

-- a balanced body with the sums s is read with the finding f: its components are then near codewords
abbrev pub JudgedAs : Parameters → Sums → Finding → Type 0
JudgedAs p s f = T (near_syndromes p s.first s.second) × ((v : List ℕ) → decoded_balanced p s v ≡ read_by p f v s.first s.second)

-- r is what it is read as
abbrev pub Judged : Parameters → Sums → Result Decoded Refusal → Type 0
Judged p s (Ok d) = JudgedAs p s (finding_of d)
Judged p s (Err r) = (r ≡ Unreadable) × ((v : List ℕ) → decoded_balanced p s v ≡ unreadable)

-- r and the outputs are the reading of any balanced word that has the sums s and the components in x
pub record BalancedAnswers (t : Row) (s : Totals) (x : List ℕ) (r : Result Decoded Refusal) (first first' second second' : List ℕ)
    : Type 0 where
  pub to : (v : List ℕ) → ((b : Bool) → part b t.n x ≡ received (parameters t) b v)
      → ReadAs (decoded_balanced (parameters t) (sums_of t s) v) r first first' second second'

-- the word u is admitted in edition e (02) and profile i, with outputs of k and l symbols: the row is the profile's in the edition, and the
-- erased symbols are the word's; or r refuses the call, by another number than 4
abbrev pub Admits : ℕ → ℕ → List ℕ → ℕ → ℕ → Result (Row × Erasures) Refusal → Type 0
Admits e i u k l (Ok (t, es)) =
    (is_edition e ≡ true) × RowOf (edition_of e) i t × (screened (Ok es) ≡ screening (decode_number t u k l) (erased_indices 0 u))
Admits e i u k l (Err r) = (number_of r ≢ 4) × (decode_answer e i u k l ≡ refused (number_of r))
