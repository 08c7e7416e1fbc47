-- A codeword is converted to the other edition's word for its pair, and there and back to its own edition's: by demand 2 the word that is
-- written is a codeword that carries the pair.
-- Assumes nothing.
use mathlib.Core.Path.{◌≡◌, refl, sym, ap, subst, ◌∙◌}
use mathlib.Core.Logic.{◌≢◌}
use mathlib.Core.Bool.{true, false}
use mathlib.Core.List.{List}
use Prim.Native.Nat.{ℕ}
use native.Mathlib.Omega.{arith}
use lib.Dec.{T, eqb}
use lib.ListN.{length}
use Rattle.std.specs.Prelude.{Result}
use Rattle.modular_theory.proofs.Search.{and_right}
use Rattle.code_theory.specs.Parameters.{is_edition, Parameters, Sized, codeword_length}
use Rattle.code_theory.specs.Component.{symbols_below, is_word}
use Rattle.code_theory.specs.Codeword.{codeword, carried}
use Rattle.code_theory.specs.Reading.{Finding, clean, corrected, filled}
use Rattle.code_theory.specs.Profiles.{is_profile, profile_in}
use Rattle.code_theory.specs.Operations.{done, outcome, Report, refusal, failure, success, report_number}
use Rattle.code_theory.proofs.Merge.{word_length}
use Rattle.code_theory.proofs.Profiles.{profiles_fit, few_levels}
use Rattle.code_theory.proofs.Whole.{levels_received}
use Rattle.code_theory.proofs.LineRule.{rule_one}
use Rattle.code_theory.proofs.Reading.{codeword_word}
use Rattle.profiles.proofs.Refusing.{accepted_by}
use Rattle.refusals.specs.declared.Refusal.{Refusal}
use Rattle.encoder.specs.Answer.{encoded_outcome}
use Rattle.decoder.specs.Decode.{decoded_report}
use Rattle.codec_claims.specs.Encoding.{WordOf}
use Rattle.codec_claims.proofs.Encoding.{word_of_pair, encode_writes}
use Rattle.converter.specs.Conversion.{other_edition, convert_refusal, converted}
use Rattle.converter.specs.Steps.{doubt}
use Rattle.converter.specs.Claims.{Answered, SamePair, ReachesReading, ConvertWrites, ThereAndBack, OwnWordBack, ConvertFollows}
use Rattle.converter.proofs.Clean.{whole}
use Rattle.converter.proofs.Refusing.{output_done, passed_all, none_refuses, refused_by_lem}
use Rattle.converter.proofs.Rewriting.{other_known, other_twice, number_is, pair_read, fits, levels, encode_converts}

-- a codeword is let through
module _ (e i : ℕ) (edition : T (is_edition e)) (known : T (is_profile i)) (u : List ℕ) (c : T (codeword (profile_in e i) u)) where
  abbrev p : Parameters
  p = profile_in e i

  sized : Sized p
  sized = (profiles_fit.0 e i known).0

  word : T (is_word p.q (codeword_length p) u)
  word = codeword_word p sized u c

  long : length u ≡ codeword_length p
  long = word_length p.q (codeword_length p) u word

  reaches_reading : (l : ℕ) → l ≡ codeword_length p → ReachesReading e i u l
  reaches_reading l room =
      record {
        edition = edition;
        in_table = known;
        word_long = long;
        out_long = room;
        symbols = levels_received p.q u (and_right (eqb (length u) (codeword_length p)) (symbols_below p.q u) word);
        few = omega (arith, whole p sized (few_levels i known) u c);
      }

-- what a call that no number refuses writes
written : (e i : ℕ) (u : List ℕ) {r : Result Unit Refusal} {out out' : List ℕ} → Answered e i u r out out' → convert_refusal e i u (length out) ≡ 0
    → (encoded_outcome r ≡ done) × (out' ≡ converted e i u)
written e i u {r} {out} a none =
    (a.allowed.answer ∙ ap outcome none, a.allowed.output ∙ sym (output_done e i u out (sym none)))

pub convert_writes : ConvertWrites
unfolding converted
convert_writes e i edition known u c r out out' a =
    let l : ℕ = length out in
    let room : l ≡ codeword_length (profile_in e i) = a.long in
    let n : length u ≡ codeword_length (profile_in e i) = long e i edition known u c in
    let (is-done, word) = written e i u a (none_refuses e i u l (reaches_reading e i edition known u c l room) c) in
    let first : List ℕ = carried (profile_in e i) true u in
    let second : List ℕ = carried (profile_in e i) false u in
    let made =
    word_of_pair (other_edition e) i 1 first second l known
    (accepted_by (other_edition e) i 1 first second l (fits e i known u n l room) (levels e i known u n l room)) in
    (is-done, rw word (subst (WordOf (other_edition e) i 1 first second) (rule_one (profile_in (other_edition e) i) first second) made))

pub there_and_back : ThereAndBack
there_and_back e i edition known u c r out there a r' out' back b =
    let w : SamePair e (other_edition e) i u there = (convert_writes e i edition known u c r out there a).1 in
    let (is-done, again) = convert_writes (other_edition e) i (other_known e edition) known there w.is_codeword r' out' back b in
    (is-done, rw (other_twice e edition, w.first, w.second) at again)

pub own_word_back : OwnWordBack
own_word_back e i a b made before u h edition known lengths below r out there x r' out' back y =
    let w : WordOf e i 1 a b u = (encode_writes e i 1 a b made before u h edition known tt lengths below).1 in
    let (is-done, again) = there_and_back e i edition known u w.is_codeword r out there x r' out' back y in
    let same : WordOf e i 1 a b back = rw (w.first, w.second) at again in
    (is-done, same.word ∙ sym w.word)

-- the number by a report that is one of a refusal, and by one of a word that is not clean
refusal_doubted : (a : Report) → report_number a ≢ 0 → doubt a ≡ report_number a
refusal_doubted (refusal k) d = refl
refusal_doubted (failure t) d = refl
refusal_doubted (success f t) d = absurd (d refl)

finding_doubted : (f : Finding) (t : ℕ) → f ≢ clean → doubt (success f t) ≡ 13
finding_doubted clean t d = absurd (d refl)
finding_doubted (corrected c) t d = refl
finding_doubted (filled cs) t d = refl

pub convert_follows : ConvertFollows
convert_follows e i u d first second a r out out' b =
    record {
      refused = λ some. refused_by_lem b.allowed (sym number ∙ refusal_doubted (decoded_report d) some) some;
      doubtful = λ f t is other. refused_by_lem b.allowed (sym number ∙ ap doubt is ∙ finding_doubted f t other) (λ z. omega arith);
      written =
          λ is made before v h room.
          let none : convert_refusal e i u (length out) ≡ 0 = sym number ∙ ap doubt is in
          let pair = pair_read e i u (length out) a.allowed a.first_long a.second_long b.long none in
          let (is-done, word) = written e i u b none in
          let (_, same) = encode_converts e i u (passed_all e i u (length out) none) room (rw (pair.first_is, pair.second_is) at h) in
          (is-done, word ∙ sym same);
    }
  where
    number : doubt (decoded_report d) ≡ convert_refusal e i u (length out)
    number = number_is e i u (length out) a.allowed a.first_long a.second_long b.long
