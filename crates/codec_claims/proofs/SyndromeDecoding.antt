-- Decoding by the syndromes agrees with decoding, since both contracts go by one answer; and what its contract allows decode's allows,
-- with the count of that answer. So what holds of decode holds of it; and the step's position is the one that decode corrects.
-- Assumes nothing.
use mathlib.Core.Path.{◌≡◌, refl, sym, ap, ap₂, ◌∙◌}
use mathlib.Core.List.{List}
use Prim.Native.Nat.{ℕ}
use lib.ListN.{length}
use Rattle.std.specs.Prelude.{Result, Ok, Err}
use Rattle.refusals.specs.declared.Refusal.{Refusal}
use Rattle.refusals.specs.declared.Refusal.TheVariants.{Profile, Length, Symbol, Unreadable, SheetLength, Unsound, BoxNumber, Full, Form, NoRecord, Erasures, Edition, NotClean, LineRule}
use Rattle.code_theory.specs.Profiles.{profile_in}
use Rattle.code_theory.specs.Operations.{decode_answer}
use Rattle.code_theory.specs.Operations.{Report, refusal, failure, success, report, report_number, report_tried}
use Rattle.locating_theory.specs.ErrorPosition.{error_position}
use Rattle.decoder.specs.declared.word.Decoded.{Decoded}
use Rattle.decoder.specs.Decode.{report_of, decoded_report}
use Rattle.decoder.specs.SyndromeDecode.{uncounted, syndrome_report}
use Rattle.codec_claims.specs.Decoding.{Allowed}
use Rattle.codec_claims.specs.SyndromeDecoding.{DecodersAgree, Counted, DecodeAllowsSo, SyndromeAllowed, syndrome_number}
use Rattle.codec_claims.specs.SyndromeDecoding.{SyndromesCorrect, SyndromesFill, LocatesCorrected}
use Rattle.codec_claims.proofs.Decoding.{decode_corrects_at}
use Rattle.codec_claims.proofs.Corrections.{correction_told}
use Rattle.codec_claims.proofs.Filling.{decode_fills_at}

pub decoders_agree : DecodersAgree
decoders_agree e i v f s r first second h d first' second' k =
    record {
      report = h.answer ∙ ap uncounted (sym k.answer);
      first_same = h.first_out ∙ sym k.first_out;
      second_same = h.second_out ∙ sym k.second_out;
    }

-- a report with the count t, where it has one
abbrev recounted : ℕ → Report → Report
recounted t (refusal k) = refusal k
recounted t (failure n) = failure t
recounted t (success f n) = success f t

-- an answer with the count t
report_counted : (t : ℕ) (r : Result Decoded Refusal) → report_of t r ≡ recounted t (syndrome_report r)
report_counted t (Ok d) = refl
report_counted t (Err Profile) = refl
report_counted t (Err Length) = refl
report_counted t (Err Symbol) = refl
report_counted t (Err Unreadable) = refl
report_counted t (Err SheetLength) = refl
report_counted t (Err Unsound) = refl
report_counted t (Err BoxNumber) = refl
report_counted t (Err Full) = refl
report_counted t (Err Form) = refl
report_counted t (Err NoRecord) = refl
report_counted t (Err Erasures) = refl
report_counted t (Err Edition) = refl
report_counted t (Err NotClean) = refl
report_counted t (Err LineRule) = refl

-- a report has its own count, whatever was left of it
own_count : (a : Report) → recounted (report_tried a) (uncounted a) ≡ a
own_count (refusal k) = refl
own_count (failure n) = refl
own_count (success f n) = refl

pub decode_allows_so : DecodeAllowsSo
decode_allows_so e i v f s r first second h =
    let a : Report = report (decode_answer e i v (length f) (length s)) in
    let t : ℕ = report_tried a in
    let is : report_of t r ≡ a = report_counted t r ∙ ap (recounted t) h.answer ∙ own_count a in
    record {
      decoded = record { answer = r; tried = t };
      report = h.answer ∙ ap uncounted (sym is);
      allowed = record { answer = is; tried = refl; first_out = h.first_out; second_out = h.second_out };
    }

-- What holds of decode.

number_kept : (a : Report) → report_number (uncounted a) ≡ report_number a
number_kept (refusal k) = refl
number_kept (failure t) = refl
number_kept (success f t) = refl

module _ (e i : ℕ) {v : List ℕ} {r : Result Decoded Refusal} {first second : List ℕ} (a : SyndromeAllowed e i v r first second) where
  so : Counted e i v a.before_first a.before_second r first second
  so = decode_allows_so e i v a.before_first a.before_second r first second a.allowed

  counted : Allowed e i v so.decoded first second
  counted =
      record {
        before_first = a.before_first;
        before_second = a.before_second;
        first_long = a.first_long;
        second_long = a.second_long;
        allowed = so.allowed;
      }

  number_same : syndrome_number r ≡ report_number (decoded_report so.decoded)
  number_same = ap report_number so.report ∙ number_kept (decoded_report so.decoded)

  said : {a : Report} → decoded_report so.decoded ≡ a → syndrome_report r ≡ uncounted a
  said g = so.report ∙ ap uncounted g

pub syndromes_correct : SyndromesCorrect
syndromes_correct e i o t =
    let decodes = decode_corrects_at e i o t in
    record {
      unchanged =
          λ u c r first second a.
          let (is, pair) = decodes.unchanged u c (so e i a).decoded first second (counted e i a) in
          (said e i a is, pair);
      changed =
          λ u c k y l h n r first second a.
          let (is, pair) = decodes.changed u c k y l h n (so e i a).decoded first second (counted e i a) in
          (said e i a is, pair);
      refused =
          λ v w r first second a.
          let (to, from) = decodes.refused v w (so e i a).decoded first second (counted e i a) in
          (λ g. to (sym (number_same e i a) ∙ g), λ g. number_same e i a ∙ from g);
    }

pub syndromes_fill : SyndromesFill
syndromes_fill e i o t =
    let fills = decode_fills_at e i o t in
    record {
      read =
          λ v w u c g r first second a.
          let (is, pair) = fills.read v w u c g (so e i a).decoded first second (counted e i a) in
          (said e i a is, pair);
      refused =
          λ v w r first second a.
          let (to, from) = fills.refused v w (so e i a).decoded first second (counted e i a) in
          (λ g. to (sym (number_same e i a) ∙ g), λ g. number_same e i a ∙ from g);
    }

-- The step that finds the position.

pub locates_corrected : LocatesCorrected
locates_corrected e i v d first first' second second' h c t r within b wrong s s' is is' l allowed =
    let (_, _, told) = correction_told e i v d first first' second second' h c t r in
    allowed ∙ ap₂ (λ (S S' : List ℕ). error_position (profile_in e i) b c.error S S') is is' ∙ told within b wrong
