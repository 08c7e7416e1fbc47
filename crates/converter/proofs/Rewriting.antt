-- What decoding and encoding may answer makes the answer of conversion: the report on the word gives the number, and the messages of a
-- clean word are its pair, which encoding takes.
-- Assumes nothing.
use mathlib.Core.Path.{◌≡◌, refl, sym, ap, subst, ◌∙◌}
use mathlib.Core.Logic.{◌≢◌, ⊎_elim}
use mathlib.Core.Bool.{Bool, true, false, ◌&&◌}
use mathlib.Core.List.{List, [], ◌∷◌}
use Prim.Native.Nat.{ℕ}
use lib.Dec.{T, eqb, leb, eqb→eq}
use lib.ListN.{length}
use Rattle.std.specs.Prelude.{Result, Err}
use Rattle.modular_theory.proofs.Search.{and_left, and_right, and_intro, eq_test, fails}
use Rattle.code_theory.specs.Parameters.{is_edition, Parameters, message_length, codeword_length}
use Rattle.code_theory.specs.Component.{symbols_below, is_word, is_received}
use Rattle.code_theory.specs.Codeword.{with_checks, interleaved, encoded, carried}
use Rattle.code_theory.specs.Erasures.{erasures}
use Rattle.code_theory.specs.Reading.{clean, corrected, filled, Reading, read, unreadable, received_reading}
use Rattle.code_theory.specs.TriedPositions.{tried_positions}
use Rattle.code_theory.specs.Profiles.{is_profile, profile_in}
use Rattle.code_theory.specs.Refusal.{asks, first_refusal}
use Rattle.code_theory.specs.Operations.{done, outcome, read_unless, decode_answer, report}
use Rattle.code_theory.proofs.Profiles.{edition_numbers, profiles_fit}
use Rattle.code_theory.proofs.Carried.{carried_messages}
use Rattle.code_theory.proofs.LineRule.{balanced_by_one}
use Rattle.refusals.specs.declared.Refusal.{Refusal}
use Rattle.refusals.specs.declared.Refusal.TheVariants.{Length, Profile, Edition}
use Rattle.refusals.specs.Number.{number_of}
use Rattle.refusals.proofs.Claims.{none_is_success}
use Rattle.encoder.specs.Answer.{encoded_outcome, EncodeAllows}
use Rattle.encoder.proofs.Refusing.{refused_outcome}
use Rattle.decoder.specs.declared.word.Decoding.{Decoding}
use Rattle.decoder.specs.Decode.{decoded_report, DecodeAllows}
use Rattle.codec_claims.specs.Encoding.{encode_lengths_fit, levels_fit}
use Rattle.codec_claims.specs.Decoding.{Carried}
use Rattle.codec_claims.proofs.Encoding.{encode_writes}
use Rattle.codec_claims.proofs.Decoding.{decode_corrects_at}
use Rattle.converter.specs.Conversion.{other_edition, is_read, is_clean, convert_refusal, converted}
use Rattle.converter.specs.Answer.{ConvertAllows}
use Rattle.converter.specs.Steps.{doubt, Room}
use Rattle.converter.specs.Claims.{PassedOn}
use Rattle.converter.proofs.Refusing.{output_kept, output_done, is_12, is_1, is_2, passed_all}

-- The other edition is one, and its other is the first.

pub other_known : (e : ℕ) → T (is_edition e) → T (is_edition (other_edition e))
other_known e h =
    ⊎_elim (λ (x : e ≡ 13). subst (λ (k : ℕ). T (is_edition (other_edition k))) (sym x) tt)
    (λ (x : e ≡ 18). subst (λ (k : ℕ). T (is_edition (other_edition k))) (sym x) tt) ((edition_numbers.0 e).0 h)

pub other_twice : (e : ℕ) → T (is_edition e) → other_edition (other_edition e) ≡ e
other_twice e h = ⊎_elim (λ (x : e ≡ 13). rw x) (λ (x : e ≡ 18). rw x) ((edition_numbers.0 e).0 h)

-- The number.

-- by the report it is the number by the reading, where the same tests come before
doubted : (x y a b c : Bool) (d : Reading) (t : ℕ)
    → doubt (report (read_unless (first_refusal (asks x 12 ∷ asks y 1 ∷ asks a 2 ∷ asks b 3 ∷ asks c 11 ∷ [])) d t))
    ≡ first_refusal (asks x 12 ∷ asks y 1 ∷ asks a 2 ∷ asks b 3 ∷ asks c 11 ∷ asks (is_read d) 4 ∷ asks (is_clean d) 13 ∷ [])
doubted false y a b c d t = refl
doubted true false a b c d t = refl
doubted true true false b c d t = refl
doubted true true true false c d t = refl
doubted true true true true false d t = refl
doubted true true true true true unreadable t = refl
doubted true true true true true (read clean z w) t = refl
doubted true true true true true (read (corrected v) z w) t = refl
doubted true true true true true (read (filled vs) z w) t = refl

-- a test of three lengths of which the last two are right is one of two of which the last is
lengths : (a b c d : Bool) → T b → T c → T d → (a && b && c) ≡ (a && d)
lengths true true true true x y z = refl
lengths false true true true x y z = refl
lengths a false c d x y z = absurd x
lengths a true false d x y z = absurd y
lengths a true true false x y z = absurd z

module _ (e i : ℕ) (u : List ℕ) {d : Decoding} {first first' second second' : List ℕ} (l : ℕ)
    (answer : DecodeAllows e i u d first first' second second') (first_long : length first ≡ message_length (profile_in e i))
    (second_long : length second ≡ message_length (profile_in e i)) (out_long : l ≡ codeword_length (profile_in e i)) where
  abbrev p : Parameters
  p = profile_in e i

  pub number_is : doubt (decoded_report d) ≡ convert_refusal e i u l
  unfolding decode_answer convert_refusal
  number_is =
      let n : ℕ = codeword_length p in
      let k : ℕ = message_length p in
      let same =
      lengths (eqb (length u) n) (eqb (length first) k) (eqb (length second) k) (eqb l n) (eq_test first_long) (eq_test second_long)
      (eq_test out_long) in
      ap doubt answer.answer
      ∙ rw same
      (doubted (is_edition e) (is_profile i) (eqb (length u) n && eqb l n) (is_received p u) (leb (erasures u) 2) (received_reading p u)
      (tried_positions p u))

  -- the messages of a clean word are the pair that it carries
  pub pair_read : convert_refusal e i u l ≡ 0 → Carried e i u first' second'
  pair_read none =
      let passed : PassedOn e i u l = passed_all e i u l none in
      let law = decode_corrects_at e i passed.reaches_reading.edition passed.reaches_reading.in_table in
      (law.unchanged u passed.is_codeword d first' second'
      record {
        before_first = first;
        before_second = second;
        first_long = first_long;
        second_long = second_long;
        allowed = answer;
      }).1

-- The word.

-- the messages that a word of N symbols carries are such as encoding takes, with an output of N symbols
module _ (e i : ℕ) (known : T (is_profile i)) (u : List ℕ) (long : length u ≡ codeword_length (profile_in e i)) (l : ℕ)
    (room : l ≡ codeword_length (profile_in e i)) where
  abbrev params : Parameters
  params = profile_in e i

  taken : (b : Bool) → T (is_word params.q (message_length params) (carried params b u))
  taken b = carried_messages params (profiles_fit.0 e i known).0 u long b

  below : (b : Bool) → T (symbols_below params.q (carried params b u))
  below b = and_right (eqb (length (carried params b u)) (message_length params)) (symbols_below params.q (carried params b u)) (taken b)

  size : (b : Bool) → T (eqb (length (carried params b u)) (message_length params))
  size b = and_left (eqb (length (carried params b u)) (message_length params)) (symbols_below params.q (carried params b u)) (taken b)

  pub fits : T (encode_lengths_fit i (carried params true u) (carried params false u) l)
  fits =
      let a = eqb (length (carried params true u)) (message_length params) in
      let b = eqb (length (carried params false u)) (message_length params) in
      let c = eqb l (codeword_length params) in
      and_intro (a && b) c (and_intro a b (size true) (size false)) (eq_test room)

  pub levels : T (levels_fit i (carried params true u) (carried params false u))
  levels =
      and_intro (symbols_below params.q (carried params true u)) (symbols_below params.q (carried params false u)) (below true)
      (below false)

-- what encoding may make of the pair in the other edition is the word
pub encode_converts : (e i : ℕ) (u : List ℕ) {l : ℕ} → PassedOn e i u l → {r : Result Unit Refusal} {out out' : List ℕ}
    → length out ≡ codeword_length (profile_in e i)
    → EncodeAllows (other_edition e) i 1 (carried (profile_in e i) true u) (carried (profile_in e i) false u) r out out'
    → (encoded_outcome r ≡ done) × (out' ≡ converted e i u)
unfolding converted encoded
encode_converts e i u passed {r} {out} {out'} room made =
    let t = passed.reaches_reading in
    let p : Parameters = profile_in (other_edition e) i in
    let (is-done, word) =
    encode_writes (other_edition e) i 1 _ _ r out out' made (other_known e t.edition) t.in_table tt
    (fits e i t.in_table u t.word_long (length out) room) (levels e i t.in_table u t.word_long (length out) room) in
    (is-done, word.word ∙ ap (with_checks p.q) (balanced_by_one p (interleaved p _ _)))

-- The answers of `convert` before a word is read.

module _ (e i : ℕ) (u out : List ℕ) where
  -- any refusal
  refuses_by : (r : Refusal) → convert_refusal e i u (length out) ≡ number_of r → ConvertAllows e i u (Err r) out out
  refuses_by r n =
      record { answer = refused_outcome (sym n) (none_is_success r); output = output_kept e i u out (sym n) (none_is_success r) }

  pub no_edition_lem : is_edition e ≡ false → ConvertAllows e i u (Err Edition) out out
  no_edition_lem h = refuses_by Edition (is_12 e i u (length out) h)

  pub no_profile : T (is_edition e) → is_profile i ≡ false → ConvertAllows e i u (Err Profile) out out
  no_profile edition h = refuses_by Profile (is_1 e i u (length out) edition h)

  pub other_length : T (is_edition e) → T (is_profile i) → length out ≢ codeword_length (profile_in e i)
      → ConvertAllows e i u (Err Length) out out
  other_length edition known h =
      let n : ℕ = codeword_length (profile_in e i) in
      let wrong = fails (λ t. h (eqb→eq (length out) n (and_right (eqb (length u) n) (eqb (length out) n) t))) in
      refuses_by Length (is_2 e i u (length out) edition known wrong)

-- The answers of `rewrite`, which is handed buffers with room.
module _ (e i : ℕ) (u : List ℕ) {d : Decoding} {first first' second second' : List ℕ} (out : List ℕ)
    (answer : DecodeAllows e i u d first first' second second') (room : Room e i (length first) (length second) (length out)) where
  number : doubt (decoded_report d) ≡ convert_refusal e i u (length out)
  number = number_is e i u (length out) answer room.first_long room.second_long room.out_long

  -- a word that is not clean
  pub refuses : {r : Refusal} → number_of r ≡ doubt (decoded_report d) → ConvertAllows e i u (Err r) out out
  refuses {r} is = refuses_by e i u out r (sym (is ∙ number))

  -- a clean one
  pub writes : doubt (decoded_report d) ≡ 0 → {r : Result Unit Refusal} {out' : List ℕ} → EncodeAllows (other_edition e) i 1 first' second' r out out'
      → ConvertAllows e i u r out out'
  writes is {r} {out'} made =
      let none : convert_refusal e i u (length out) ≡ 0 = sym number ∙ is in
      let pair = pair_read e i u (length out) answer room.first_long room.second_long room.out_long none in
      let (is-done, word) =
      encode_converts e i u (passed_all e i u (length out) none) room.out_long (rw (pair.first_is, pair.second_is) at made) in
      record { answer = is-done ∙ ap outcome (sym none); output = word ∙ output_done e i u out (sym none) }
