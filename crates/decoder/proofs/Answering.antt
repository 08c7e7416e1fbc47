-- The answer of the decoder, case by case.
-- Assumes nothing.
use mathlib.Core.Path.{◌≡◌, refl, sym, subst, ◌∙◌}
use mathlib.Core.Logic.{◌≢◌}
use mathlib.Core.Bool.{Bool, true, false}
use mathlib.Core.List.{List}
use Prim.Native.Nat.{ℕ, ◌≤◌, ◌<◌}
use native.Mathlib.Omega.{arith}
use lib.Dec.{T}
use lib.ListN.{get_or}
use borrow.Author.Tests.{lt-ltb, le-ltb}
use Rattle.std.specs.Prelude.{Option, Some, None, Result, Ok, Err}
use Rattle.modular_theory.proofs.Search.{least_hit, holds}
use Rattle.code_theory.specs.Parameters.{Parameters, balanced_length}
use Rattle.code_theory.specs.Codeword.{received}
use Rattle.code_theory.specs.Reading.{Finding, Reading, read, unreadable}
use Rattle.code_theory.specs.Operations.{Answer, refused, answered, Report, refusal, failure, success, report, report_tried, decode_output}
use Rattle.decoding_theory.specs.Syndromes.{near_syndromes, index, moved_of}
use Rattle.decoding_theory.specs.Decoded.{Sums, gain, in_range, off_by_lack, near_after, fits, position_count, first_fit}
use Rattle.decoding_theory.specs.Decoded.{read_by, read_fit, decoded_body, decoded_check, agrees, decoded_balanced, decoded_unbalanced}
use Rattle.decoding_theory.specs.TriedPositions.{tried_body, tried_unbalanced}
use Rattle.decoding_theory.proofs.Tests.{three_parts}
use Rattle.refusals.specs.declared.Refusal.{Refusal}
use Rattle.refusals.specs.declared.Refusal.TheVariants.{Unreadable}
use Rattle.refusals.specs.Number.{number_of}
use Rattle.symbols.specs.declared.checks.Checks.{Checks}
use Rattle.symbols.specs.Weight.{check_of}
use Rattle.syndromes.specs.declared.correction.Correction.{Correction}
use Rattle.syndromes.specs.Judgement.{judgement_report, balanced_report}
use Rattle.decoder.specs.declared.word.Decoded.{Decoded}
use Rattle.decoder.specs.declared.word.Decoded.TheVariants.{Clean, Corrected}
use Rattle.decoder.specs.declared.word.Decoding.{Decoding}
use Rattle.decoder.specs.declared.parity.Parity.{Parity}
use Rattle.decoder.specs.Parity.{is_odd}
use Rattle.decoder.specs.Outputs.{RestoredMessages}
use Rattle.decoder.specs.Decode.{finding_of, report_of, ReadAs, Answers}
use Rattle.decoder.specs.Steps.{JudgedAs, Judged, wrong_parity}

-- What is answered.

-- another refusal than 4 is told by its number
refused_report : (r : Refusal) → r ≢ Unreadable → (t : ℕ) → report_of t (Err r) ≡ refusal (number_of r)
refused_report Unreadable n t = absurd (n refl)
refused_report r n t = refl

pub answers_refused : {a : Answer} {r : Refusal} (first second : List ℕ) → r ≢ Unreadable → a ≡ refused (number_of r)
    → Answers a (record { answer = Err r; tried = 0 }) first first second second
answers_refused {r = r} first second n e =
    record { answer = rw e (refused_report r n 0); tried = rw e; first_out = rw e; second_out = rw e }

pub read_unreadable : {d : Reading} (first second : List ℕ) → d ≡ unreadable → ReadAs d (Err Unreadable) first first second second
read_unreadable first second e = record { answer = λ t. rw e; first_out = rw e; second_out = rw e }

pub read_found : (p : Parameters) (u : List ℕ) {d : Reading} {k : Finding} {S S' first first' second second' : List ℕ} {r : Decoded}
    → d ≡ read_by p k u S S' → RestoredMessages p (received p true u) (received p false u) S S' first' second'
    → finding_of r ≡ k → ReadAs d (Ok r) first first' second second'
unfolding read_by
read_found p u e w f = record { answer = λ t. rw (e, f); first_out = rw e w.first_is; second_out = rw e w.second_is }

tried_told : (d : Reading) (t : ℕ) → t ≡ report_tried (report (answered d t))
tried_told unreadable t = refl
tried_told (read f x y) t = refl

output_told : (b : Bool) (d : Reading) (t : ℕ) (out : List ℕ) → decode_output b (answered d 0) out ≡ decode_output b (answered d t) out
output_told b unreadable t out = refl
output_told true (read f x y) t out = refl
output_told false (read f x y) t out = refl

-- a reading, with how many positions were tried
pub answers_read : {d : Reading} {r : Result Decoded Refusal} {first first' second second' : List ℕ} {t t' : ℕ}
    → ReadAs d r first first' second second' → t' ≡ t → Answers (answered d t) (record { answer = r; tried = t' }) first first' second second'
answers_read {d} {first = first} {second = second} {t = t} h e =
    record {
      answer = rw e (h.answer t);
      tried = rw e (tried_told d t);
      first_out = h.first_out ∙ output_told true d t first;
      second_out = h.second_out ∙ output_told false d t second;
    }

pub answers_as : {a a' : Answer} {r : Decoding} {first first' second second' : List ℕ} → a ≡ a' → Answers a' r first first' second second'
    → Answers a r first first' second second'
answers_as e h = rw e h

pub read_as : {d d' : Reading} {r : Result Decoded Refusal} {first first' second second' : List ℕ} → d ≡ d'
    → ReadAs d' r first first' second second' → ReadAs d r first first' second second'
read_as e h = rw e h

-- the messages of equal components
pub messages_of : {p : Parameters} {c c' d d' S S' first second : List ℕ} → c ≡ c' → d ≡ d'
    → RestoredMessages p c d S S' first second → RestoredMessages p c' d' S S' first second
messages_of e f w = rw (← e, ← f) w

-- the judgement of a balanced body, as an answer
abbrev pub decoded_of : Result (Option Correction) Refusal → Result Decoded Refusal
decoded_of (Ok None) = Ok Clean
decoded_of (Ok (Some c)) = Ok (Corrected c)
decoded_of (Err r) = Err r

module _ (p : Parameters) (s : Sums) where
  -- A balanced body.

  -- what is said of it
  abbrev JudgedBy : Report → Type 0
  JudgedBy (refusal k) = ⊥
  JudgedBy (failure t) = (v : List ℕ) → decoded_balanced p s v ≡ unreadable
  JudgedBy (success f t) = JudgedAs p s f

  judged_by : (c d : Checks) → s.asked ≡ check_of c → s.arrived ≡ check_of d → (near a b : Bool)
      → near_syndromes p s.first s.second ≡ near → agrees s true ≡ a → agrees s false ≡ b
      → JudgedBy (balanced_report (balanced_length p) c d near a b)
  unfolding decoded_balanced decoded_check
  judged_by c d k l false a b n e f = λ v. rw (n, decoded_balanced)
  judged_by c d k l true true true n e f = (holds _ n, λ v. rw (n, decoded_balanced, e, f))
  judged_by c d k l true true false n e f = (holds _ n, λ v. rw (n, decoded_balanced, e, f, k, l))
  judged_by c d k l true false true n e f = (holds _ n, λ v. rw (n, decoded_balanced, e, f, k, l))
  judged_by c d k l true false false n e f = λ v. rw (n, decoded_balanced, e, f)

  judged_of : (j : Result (Option Correction) Refusal) → JudgedBy (judgement_report j) → Judged p s (decoded_of j)
  judged_of (Ok None) h = h
  judged_of (Ok (Some c)) h = h
  judged_of (Err Unreadable) h = (refl, h)
  judged_of (Err r) h = absurd h

  pub judged_as : (c d : Checks) → s.asked ≡ check_of c → s.arrived ≡ check_of d → {m : ℕ} → m ≡ balanced_length p
      → {near : Bool} → near ≡ near_syndromes p s.first s.second → (j : Result (Option Correction) Refusal)
      → judgement_report j ≡ balanced_report m c d near (agrees s true) (agrees s false) → Judged p s (decoded_of j)
  judged_as c d k l e n j g =
      judged_of j (rw (g, e) (judged_by c d k l _ (agrees s true) (agrees s false) (sym n) refl refl))

  pub judged_none : {r : Refusal} → Judged p s (Err r) → (v first second : List ℕ)
      → ReadAs (decoded_balanced p s v) (Err r) first first second second
  judged_none d v first second = rw d.0 (read_unreadable first second (d.1 v))

  pub judged_read : {r : Decoded} → Judged p s (Ok r) → (v : List ℕ) {first first' second second' : List ℕ}
      → RestoredMessages p (received p true v) (received p false v) s.first s.second first' second'
      → ReadAs (decoded_balanced p s v) (Ok r) first first' second second'
  judged_read d v w = read_found p v (d.1 v) w refl

  module _ (v : List ℕ) where
    -- An unbalanced body.
    abbrev answer : Answer
    answer = answered (decoded_unbalanced p s v) (tried_unbalanced p s v)

    abbrev answer_for : Bool → Answer
    answer_for b = answered (decoded_body p s b v) (tried_body p s b v)

    -- by the parity that is wrong
    abbrev AnsweredFor : Option Parity → Type 0
    AnsweredFor None = answer ≡ answered unreadable 0
    AnsweredFor (Some parity) = answer ≡ answer_for (is_odd parity)

    unbalanced : (a b : Bool) → agrees s true ≡ a → agrees s false ≡ b → AnsweredFor (wrong_parity a b)
    unfolding decoded_unbalanced tried_unbalanced
    unbalanced true true e f = rw (e, decoded_unbalanced, tried_unbalanced, f)
    unbalanced true false e f = rw (e, decoded_unbalanced, tried_unbalanced, f)
    unbalanced false true e f = rw (e, decoded_unbalanced, tried_unbalanced, f)
    unbalanced false false e f = rw (e, decoded_unbalanced, tried_unbalanced, f)

    module _ {o : Option Parity} (e : o ≡ wrong_parity (agrees s true) (agrees s false)) where
      pub unbalanced_none : o ≡ None → answer ≡ answered unreadable 0
      unbalanced_none f = subst AnsweredFor (sym e ∙ f) (unbalanced (agrees s true) (agrees s false) refl refl)

      pub unbalanced_one : {parity : Parity} → o ≡ Some parity → answer ≡ answer_for (is_odd parity)
      unbalanced_one f = subst AnsweredFor (sym e ∙ f) (unbalanced (agrees s true) (agrees s false) refl refl)

    -- The search for the changed symbol.
    module _ (b : Bool) where
      pub body_none : first_fit p s b v ≡ position_count p b → decoded_body p s b v ≡ unreadable
      unfolding decoded_body
      body_none e =
          let l : position_count p b ≤ first_fit p s b v = omega arith in
          rw (le-ltb (first_fit p s b v) (position_count p b) l, decoded_body)

      module _ {k : ℕ} (e : first_fit p s b v ≡ k) (l : k < position_count p b) where
        -- the symbol received there
        abbrev arrived : ℕ
        arrived = get_or v (index b k) 0

        pub body_found : decoded_body p s b v ≡ read_fit p s b k v
        unfolding decoded_body
        body_found =
            let m : first_fit p s b v < position_count p b = omega arith in
            rw (lt-ltb (first_fit p s b v) (position_count p b) m, decoded_body, e)

        hit : T (fits p s b k arrived)
        unfolding first_fit
        hit =
            let m : first_fit p s b v < position_count p b = omega arith in
            rw e at (least_hit (λ k. fits p s b k (get_or v (index b k) 0)) (position_count p b) m)

        pub found_range : T (in_range p s arrived)
        unfolding fits
        found_range = (three_parts (in_range p s arrived) (off_by_lack p s b) (near_after p s b k) hit).0

        pub found_near : T (near_syndromes p (moved_of p true b k (gain p s) s.first) (moved_of p false b k (gain p s) s.second))
        unfolding fits near_after
        found_near = (three_parts (in_range p s arrived) (off_by_lack p s b) (near_after p s b k) hit).2
