-- Demand 3 of decode: the contract says of a word that numbers 1 to 3 and 11 let through what its reading is, and demand 3 holds of the
-- reading of a word of levels, which has no erasures.
-- Assumes nothing.
use mathlib.Core.Path.{◌≡◌, refl, sym, ap, subst, ◌∙◌}
use mathlib.Core.Logic.{◌≢◌}
use mathlib.Core.Bool.{Bool, true, false}
use mathlib.Core.List.{List, [], ◌∷◌}
use Prim.Native.Nat.{ℕ, zero, suc, ◌≤◌}
use native.Mathlib.Omega.{arith}
use lib.Dec.{T, eqb, leb, le→leb, leb→le}
use lib.ListN.{length, set}
use borrow.Author.Tests.{leb-false, lt-leb}
use Rattle.modular_theory.proofs.Search.{eq_test, and_right}
use Rattle.modular_theory.specs.Sum.{weight}
use Rattle.code_theory.specs.Parameters.{is_edition, Parameters, Sized, message_length, balanced_length, codeword_length, balancing_value}
use Rattle.code_theory.specs.Component.{symbols_below, is_word, is_received, erasure}
use Rattle.code_theory.specs.Erasures.{erasures}
use Rattle.code_theory.specs.Codeword.{is_balanced, body}
use Rattle.code_theory.specs.Reading.{Finding, Reading, read, unreadable, read_as, reading, received_reading}
use Rattle.code_theory.specs.TriedPositions.{tried_positions}
use Rattle.code_theory.specs.Profiles.{is_profile, profile_in}
use Rattle.code_theory.specs.Claims as Reads
use Rattle.code_theory.specs.Refusal.{Test, asks, first_refusal}
use Rattle.code_theory.specs.Operations.{Answer, refused, answered, read_unless, decode_tests, decode_answer}
use Rattle.code_theory.specs.Operations.{report, report_number, success, decode_output}
use Rattle.code_theory.proofs.Merge.{word_length}
use Rattle.code_theory.proofs.Profiles.{profiles_fit, few_levels}
use Rattle.code_theory.proofs.Whole.{none_erased, levels_received, whole_reading}
use Rattle.code_theory.proofs.Reading.{codeword_word, changed_word, reading_corrects}
use Rattle.code_theory.proofs.Columns.{q_positive}
use Rattle.code_theory.proofs.Conditions.{conditions}
use Rattle.code_theory.proofs.TriedPositions.{counts_told}
use Rattle.code_theory.proofs.Refusal.{AllPass, absent, passed, passed_every, never_refuses, past, stops, failed}
use Rattle.profiles.proofs.Refusing.{three_lengths}
use Rattle.decoding_theory.proofs.Tests.{and_three}
use Rattle.decoding_theory.proofs.Changed.{summed}
use Rattle.decoding_theory.proofs.TriedPositions.{corrected_tried}
use Rattle.decoder.specs.declared.word.Decoding.{Decoding}
use Rattle.decoder.specs.Decode.{decoded_report, Answers}
use Rattle.codec_claims.specs.Decoding.{decode_lengths_fit, decoded_number, Allowed, Carried}
use Rattle.codec_claims.specs.Decoding.{DecodesAsSent, LetThrough, OnlyLetThrough, ManyErasures, DecodeRefuses}

-- a number of 4 is that of no reading
pub none_read : (d : Reading) (t : ℕ) → report_number (report (answered d t)) ≡ 4 → d ≡ unreadable
none_read unreadable t e = refl
none_read (read f a b) t e = absurd (omega arith)

module _ (o i : ℕ) (edition : T (is_edition o)) (t : T (is_profile i)) where
  abbrev p : Parameters
  p = profile_in o i

  corrects : Reads.Corrects p
  corrects = let (s, prime) = profiles_fit.0 o i t in reading_corrects p s prime

  sized : Sized p
  sized = (profiles_fit.0 o i t).0

  -- the contract speaks of the reading and of the count
  pub admitted : (v : List ℕ) → length v ≡ codeword_length p → T (is_received p v) → erasures v ≤ 2
      → {r : Decoding} {first second : List ℕ} → (a : Allowed o i v r first second)
      → Answers (answered (received_reading p v) (tried_positions p v)) r
      a.before_first first a.before_second second
  unfolding decode_answer
  admitted v word symbols few {r} {first} {second} a =
      let k : ℕ = length a.before_first in
      let l : ℕ = length a.before_second in
      let long : T (decode_lengths_fit i v k l) =
      and_three (eqb (length v) (codeword_length p)) (eqb k (message_length p)) (eqb l (message_length p))
      (eq_test word) (eq_test a.first_long) (eq_test a.second_long) in
      let none : first_refusal (decode_tests o i v k l) ≡ 0 =
      past (decode_tests o i v k l) [] (edition, (t, (long, (symbols, (le→leb (erasures v) 2 few, tt))))) in
      let read : ℕ → Answer = λ n. read_unless n (received_reading p v) (tried_positions p v) in
      subst (λ (n : ℕ). Answers (read n) r a.before_first first a.before_second second) none a.allowed

  pub small : p.q ≤ erasure
  small = few_levels i t

  -- a word of levels has no erasures
  levels : (v : List ℕ) → T (is_word p.q (codeword_length p) v) → T (symbols_below p.q v)
  levels v w = and_right (eqb (length v) (codeword_length p)) (symbols_below p.q v) w

  whole : (v : List ℕ) → T (is_word p.q (codeword_length p) v) → erasures v ≡ 0
  whole v w = none_erased p.q small v (levels v w)

  -- and of a word of levels the contract speaks of 01's
  let_through : (v : List ℕ) → T (is_word p.q (codeword_length p) v) → {r : Decoding} {first second : List ℕ}
      → (a : Allowed o i v r first second)
      → Answers (answered (reading p v) (tried_positions p v)) r a.before_first first a.before_second second
  let_through v w {r} {first} {second} a =
      let none : erasures v ≡ 0 = whole v w in
      let below : T (symbols_below p.q v) = levels v w in
      subst (λ (d : Reading). Answers (answered d (tried_positions p v)) r a.before_first first a.before_second second)
      (whole_reading p v none)
      (admitted v (word_length p.q (codeword_length p) v w) (levels_received p.q v below) (omega arith) a)

  -- where the reading gives the pair of u, and t positions are tried, so the answer says
  pub answered_by : (u : List ℕ) {d : Reading} {f : Finding} {n t : ℕ} {r : Decoding} {bf first bs second : List ℕ}
      → d ≡ read_as p f u → n ≡ t → Answers (answered d n) r bf first bs second
      → (decoded_report r ≡ success f t) × Carried o i u first second
  answered_by u {d} {f} {n} {t} {r} {bf} {first} {bs} {second} e g a =
      let h : Answers (answered (read_as p f u) t) r bf first bs second = rw (e, g) at a in
      (h.answer, record { first_is = h.first_out; second_is = h.second_out })

  is_balanced_lem : (u : List ℕ) → weight (body p u) ≡ balancing_value p.q (balanced_length p)
      → T (is_balanced p u)
  unfolding is_balanced
  is_balanced_lem u e = eq_test e

  pub decode_corrects_at : DecodesAsSent o i
  decode_corrects_at =
      record {
        unchanged =
            λ u c r first second a.
            let word = codeword_word p sized u c in
            let weighs = (conditions p (q_positive p sized) u c).weighs in
            answered_by u (corrects.unchanged u c) ((counts_told p u).if_balanced (is_balanced_lem u weighs)) (let_through u word a);
        changed =
            λ u c j y l h n r first second a.
            let word = changed_word p sized u c j y h in
            let is = corrects.changed u c j y l h n in
            let v = set u j y in
            answered_by u is (corrected_tried p sized word (whole v word) (summed p v) _ _ _ is) (let_through v word a);
        others = corrects.others;
        refused =
            λ v w r first second a.
            let h = let_through v w a in
            let f = corrects.refused v w in
            let number : Reading → ℕ = λ d. report_number (report (answered d (tried_positions p v))) in (
              λ e. f.0 (none_read (reading p v) (tried_positions p v) (ap report_number (sym h.answer) ∙ e)),
              λ g. ap report_number h.answer ∙ ap number (f.1 g),
            );
      }

-- What refuses a call, by its answer's number.

-- a number of 4 is none of the tests'
four_read : (ts : List Test) (d : Reading) (t : ℕ) → T (absent 4 ts) → T (absent 0 ts)
    → report_number (report (read_unless (first_refusal ts) d t)) ≡ 4 → AllPass ts
four_read ts d t four none e = go (first_refusal ts) refl e
  where
    go : (n : ℕ) → first_refusal ts ≡ n → report_number (report (read_unless n d t)) ≡ 4 → AllPass ts
    go zero f e = passed_every ts none f
    go (suc n) f e = absurd (never_refuses ts four (f ∙ e))

number_told : (n : ℕ) (d : Reading) (t : ℕ) {k : ℕ} → n ≡ suc k → report_number (report (read_unless n d t)) ≡ suc k
number_told n d t e = rw e

outputs_kept : (a : Answer) → report_number (report a) ≢ 0 → (b : Bool) (out : List ℕ) → decode_output b a out ≡ out
outputs_kept (refused k) h b out = refl
outputs_kept (answered unreadable t) h b out = refl
outputs_kept (answered (read f c d) t) h b out = absurd (h refl)

-- The tests of a call, and what they say where they pass.
module _ (o i : ℕ) (v : List ℕ) (k l : ℕ) where
  abbrev parameters : Parameters
  parameters = profile_in o i

  abbrev editioned : Test
  editioned = asks (is_edition o) 12

  abbrev profiled : Test
  profiled = asks (is_profile i) 1

  abbrev long : Test
  long = asks (decode_lengths_fit i v k l) 2

  abbrev symbols : Test
  symbols = asks (is_received parameters v) 3

  abbrev few : Test
  few = asks (leb (erasures v) 2) 11

  -- those before the erasures
  abbrev before : List Test
  before = editioned ∷ profiled ∷ long ∷ symbols ∷ []

  passed_three : AllPass before → LetThrough o i v k l
  passed_three (edition, (known, (fit, (received, _)))) =
      let (word, first, second) = three_lengths (length v) k l _ _ _ fit in
      record { edition = edition; in_table = known; word_long = word; first_long = first; second_long = second; symbols = received }

  pub let_three : LetThrough o i v k l → AllPass before
  let_three t =
      let fit : T (decode_lengths_fit i v k l) =
      and_three (eqb (length v) (codeword_length parameters)) (eqb k (message_length parameters)) (eqb l (message_length parameters))
      (eq_test t.word_long) (eq_test t.first_long) (eq_test t.second_long) in
      (t.edition, (t.in_table, (fit, (t.symbols, tt))))

pub four_only : OnlyLetThrough 4
unfolding decode_answer
four_only o i v r first first' second second' h e =
    let tests : List Test = decode_tests o i v (length first) (length second) in
    let (edition, (known, (fit, (received, (most, _))))) =
    four_read tests (received_reading (profile_in o i) v) (tried_positions (profile_in o i) v) tt tt (ap report_number (sym h.answer) ∙ e) in
    (passed_three o i v (length first) (length second) (edition, (known, (fit, (received, tt)))), leb→le (erasures v) 2 most)

-- a number of 11 is that of no reading
eleven_told : (n : ℕ) (d : Reading) (t : ℕ) → report_number (report (read_unless n d t)) ≡ 11 → n ≡ 11
eleven_told zero unreadable t e = absurd (omega arith)
eleven_told zero (read f a b) t e = absurd (omega arith)
eleven_told (suc n) d t e = e

pub many_erasures : ManyErasures
unfolding decode_answer
many_erasures o i v r first first' second second' h = (to, from)
  where
    k : ℕ
    k = length first

    l : ℕ
    l = length second

    d : Reading
    d = received_reading (profile_in o i) v

    n : ℕ
    n = tried_positions (profile_in o i) v

    number : ℕ
    number = first_refusal (decode_tests o i v k l)

    told : decoded_number r ≡ report_number (report (read_unless number d n))
    told = ap report_number h.answer

    to : decoded_number r ≡ 11 → LetThrough o i v k l × (3 ≤ erasures v)
    to e =
        let is : number ≡ 11 = eleven_told number d n (sym told ∙ e) in
        let (three, last) = passed (before o i v k l) (few o i v k l ∷ []) tt is in
        let many : leb (erasures v) 2 ≡ false = failed (leb (erasures v) 2) 11 (λ z. omega arith) last in
        (passed_three o i v k l three, leb-false (erasures v) 2 many)

    from : LetThrough o i v k l × (3 ≤ erasures v) → decoded_number r ≡ 11
    from (t, many) =
        told
        ∙ number_told number d n
        (stops (before o i v k l) (few o i v k l) [] (let_three o i v k l t) (lt-leb (erasures v) 2 many))

pub decode_refuses : DecodeRefuses
unfolding decode_answer
decode_refuses o i v r first first' second second' h =
    let k : ℕ = length first in
    let l : ℕ = length second in
    let zero : Test = editioned o i v k l in
    let one : Test = profiled o i v k l in
    let two : Test = long o i v k l in
    let three : Test = symbols o i v k l in
    let more : Test = few o i v k l in
    let d : Reading = received_reading (profile_in o i) v in
    let n : ℕ = tried_positions (profile_in o i) v in
    let number : ℕ = first_refusal (decode_tests o i v k l) in
    let told : decoded_number r ≡ report_number (report (read_unless number d n)) = ap report_number h.answer in
    record {
      by_12 = λ a. told ∙ number_told number d n (stops [] zero (one ∷ two ∷ three ∷ more ∷ []) tt a);
      by_1 = λ a p. told ∙ number_told number d n (stops (zero ∷ []) one (two ∷ three ∷ more ∷ []) (a, tt) p);
      by_2 = λ a p e. told ∙ number_told number d n (stops (zero ∷ one ∷ []) two (three ∷ more ∷ []) (a, (p, tt)) e);
      by_3 = λ a p e s. told ∙ number_told number d n (stops (zero ∷ one ∷ two ∷ []) three (more ∷ []) (a, (p, (e, tt))) s);
      keeps =
          λ refuses.
          let kept = outputs_kept (read_unless number d n) (λ z. refuses (told ∙ z)) in
          (h.first_out ∙ kept true first, h.second_out ∙ kept false second);
    }
