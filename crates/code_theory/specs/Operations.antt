-- What encoding and decoding answer (01: Operations and their numbers, Write and Read): the refusals in their order, then the word or the
-- reading.
-- Assumes nothing.
use Rattle.std.specs.Prelude.{Bool, true, false, ◌&&◌, List, [], ◌∷◌, ◌++◌, ℕ, zero, suc, eqb, leb, length}
use Rattle.code_theory.specs.Refusal.{Test, asks, first_refusal, on_success}
use Rattle.code_theory.specs.Parameters.{is_edition, Parameters, message_length, codeword_length}
use Rattle.code_theory.specs.Component.{symbols_below, is_received}
use Rattle.code_theory.specs.LineRule.{is_line_rule, line_rule_of, encoded_by}
use Rattle.code_theory.specs.Erasures.{erasures, most_erasures}
use Rattle.code_theory.specs.Reading.{Finding, Reading, read, unreadable, received_reading}
use Rattle.code_theory.specs.TriedPositions.{tried_positions}
use Rattle.code_theory.specs.Profiles.{is_profile, profile_in}

-- what is tested first, in this order: edition e (02, T-03: "before 1"), profile i
abbrev pub call_tests : ℕ → ℕ → List Test
call_tests e i = asks (is_edition e) 12 ∷ asks (is_profile i) 1 ∷ []

-- 01: Write, what is tested, in this order: edition and profile, line rule r (02, T-06: "after 1 and before 2"), messages a and b, an output
-- of l symbols
abbrev pub encode_tests : ℕ → ℕ → ℕ → List ℕ → List ℕ → ℕ → List Test
encode_tests e i r a b l =
    let p : Parameters = profile_in e i in
    call_tests e i
    ++ (asks (is_line_rule r) 14
    ∷ asks (eqb (length a) (message_length p) && eqb (length b) (message_length p) && eqb l (codeword_length p)) 2
    ∷ asks (symbols_below p.q a && symbols_below p.q b) 3
    ∷ [])

-- the number of the refusal, or 0
unfoldable pub encode_refusal : ℕ → ℕ → ℕ → List ℕ → List ℕ → ℕ → ℕ
encode_refusal e i r a b l = first_refusal (encode_tests e i r a b l)

-- the output afterwards: the word that the rule's encoder makes, or what it held where the call is refused
unfoldable pub encode_output : ℕ → ℕ → ℕ → List ℕ → List ℕ → List ℕ → List ℕ
encode_output e i r a b out = on_success (encode_refusal e i r a b (length out)) (encoded_by (line_rule_of r) (profile_in e i) a b) out

-- what a call answers beside its output: it is done, or refused by a number
pub data Outcome : Type 0 where
  done : Outcome
  refused_by : ℕ → Outcome

-- by the number of the refusal; 0 is none
abbrev pub outcome : ℕ → Outcome
outcome zero = done
outcome (suc k) = refused_by (suc k)

-- and back
abbrev pub outcome_number : Outcome → ℕ
outcome_number done = 0
outcome_number (refused_by k) = k

-- 01: Read, refused by one of the numbers 1 to 3 and 02's 11 and 12, or a reading and how many positions were tried (02, T-08)
pub data Answer : Type 0 where
  refused : ℕ → Answer
  answered : Reading → ℕ → Answer

-- what is tested, in this order: edition and profile, received word u, outputs of k and l symbols
abbrev pub decode_tests : ℕ → ℕ → List ℕ → ℕ → ℕ → List Test
decode_tests e i u k l =
    let p : Parameters = profile_in e i in
    call_tests e i
    ++ (asks (eqb (length u) (codeword_length p) && eqb k (message_length p) && eqb l (message_length p)) 2
    ∷ asks (is_received p u) 3
    ∷ asks (leb (erasures u) (most_erasures p)) 11
    ∷ [])

-- a reading and a count, unless a number refuses
abbrev pub read_unless : ℕ → Reading → ℕ → Answer
read_unless zero d t = answered d t
read_unless (suc n) d t = refused (suc n)

unfoldable pub decode_answer : ℕ → ℕ → List ℕ → ℕ → ℕ → Answer
decode_answer e i u k l =
    let p : Parameters = profile_in e i in
    read_unless (first_refusal (decode_tests e i u k l)) (received_reading p u) (tried_positions p u)

-- what is answered beside the outputs: the number of a refusal by 1 to 3, 11 or 12; or that no codeword was found, or what was, and how
-- many positions were tried
pub data Report : Type 0 where
  refusal : ℕ → Report
  failure : ℕ → Report
  success : Finding → ℕ → Report

abbrev pub report : Answer → Report
report (refused k) = refusal k
report (answered unreadable t) = failure t
report (answered (read f a b) t) = success f t

-- the number of a refusal, 01's 4 where no codeword was found; 0 where the word is read
abbrev pub report_number : Report → ℕ
report_number (refusal k) = k
report_number (failure t) = 4
report_number (success f t) = 0

-- how many positions were tried; 02: "the other refusals still return a number only"
abbrev pub report_tried : Report → ℕ
report_tried (refusal k) = 0
report_tried (failure t) = t
report_tried (success f t) = t

-- the first output afterwards (true) and the second (false): the message, or what it held where the word is refused
abbrev pub decode_output : Bool → Answer → List ℕ → List ℕ
decode_output b (refused k) out = out
decode_output b (answered unreadable t) out = out
decode_output true (answered (read f first second) t) out = first
decode_output false (answered (read f first second) t) out = second
