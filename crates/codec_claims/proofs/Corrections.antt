-- The error and the count of a corrected word in decode's answer, and its position by the syndromes: a word is corrected only by the
-- reading of a word of levels, which tells the error, and the count by the position.
-- Assumes nothing.
use mathlib.Core.Path.{◌≡◌, refl, sym, subst, ◌∙◌}
use mathlib.Core.Bool.{Bool, false}
use mathlib.Core.List.{List}
use Prim.Native.Nat.{ℕ, zero, suc, ◌^◌, ◌≤◌}
use lib.Dec.{T, eqb, ltb}
use lib.ListN.{length}
use borrow.Author.Tests.{eqb-true}
use Rattle.modular_theory.specs.Residue.{Prime}
use Rattle.code_theory.specs.Parameters.{Parameters, Sized, balanced_length, codeword_length}
use Rattle.code_theory.specs.Component.{is_word, is_received}
use Rattle.code_theory.specs.Codeword.{check_sum_agrees}
use Rattle.code_theory.specs.Erasures.{erasures, first_filling}
use Rattle.code_theory.specs.Reading.{Correction, clean, corrected, filled}
use Rattle.code_theory.specs.Reading.{Reading, read, unreadable, reading, filled_reading, received_reading}
use Rattle.code_theory.specs.TriedPositions.{tried_positions}
use Rattle.code_theory.specs.Profiles.{profile_in}
use Rattle.code_theory.specs.Refusal.{first_refusal}
use Rattle.code_theory.specs.Operations.{Report, refusal, failure, success, answered, report, read_unless, decode_tests, decode_answer}
use Rattle.code_theory.specs.Claims.{ErrorTold}
use Rattle.code_theory.proofs.Merge.{cases, word_of}
use Rattle.code_theory.proofs.Whole.{received_levels}
use Rattle.code_theory.proofs.Errors.{errors_told}
use Rattle.code_theory.proofs.Profiles.{profiles_fit}
use Rattle.code_theory.proofs.Refusal.{passed_every}
use Rattle.decoding_theory.specs.Decoded.{sums}
use Rattle.decoding_theory.proofs.Changed.{summed}
use Rattle.decoding_theory.proofs.TriedPositions.{corrected_tried}
use Rattle.locating_theory.specs.ErrorPosition.{at, error_position}
use Rattle.locating_theory.proofs.Corrected.{position_of_corrected}
use Rattle.profiles.proofs.Refusing.{three_lengths}
use Rattle.decoder.specs.declared.word.Decoding.{Decoding}
use Rattle.decoder.specs.Decode.{decoded_report, DecodeAllows}
use Rattle.codec_claims.specs.Decoding.{tried_to, DecodeErrors}

-- the position of a corrected symbol of the body is the error's, by the syndromes
abbrev pub PositionTold : Parameters → List ℕ → Correction → Type 0
PositionTold p v c =
    c.position ≤ balanced_length p → (b : Bool) → check_sum_agrees p b v ≡ false
    → error_position p b c.error (sums p v).first (sums p v).second ≡ at c.position

-- of a report on the word v
abbrev Told : Parameters → List ℕ → Report → Type 0
Told p v (success (corrected c) t) = ErrorTold p.q v c × (t ≡ tried_to p c.position) × PositionTold p v c
Told p v (success clean t) = Unit {0}
Told p v (success (filled cs) t) = Unit {0}
Told p v (failure t) = Unit {0}
Told p v (refusal n) = Unit {0}

reading_told : (p : Parameters) → Sized p → Prime p.q → (v : List ℕ) → T (is_word p.q (codeword_length p) v) → erasures v ≡ 0
    → Told p v (report (answered (reading p v) (tried_positions p v)))
reading_told p s prime v w none = go (reading p v) refl
  where
    go : (d : Reading) → reading p v ≡ d → Told p v (report (answered d (tried_positions p v)))
    go (read (corrected c) a b) e =
        (errors_told p v w c a b e, corrected_tried p s w none (summed p v) c a b e, position_of_corrected p s prime v w c a b e)
    go (read clean a b) e = tt
    go (read (filled cs) a b) e = tt
    go unreadable e = tt

filled_told : (p : Parameters) (v : List ℕ) (t : ℕ) → Told p v (report (answered (filled_reading p v) t))
unfolding filled_reading
filled_told p v t = cases (ltb (first_filling p v) (p.q ^ erasures v)) (λ e. rw (e, filled_reading) tt) (λ e. rw (e, filled_reading) tt)

received_told : (p : Parameters) → Sized p → Prime p.q → (v : List ℕ) → length v ≡ codeword_length p → T (is_received p v)
    → Told p v (report (answered (received_reading p v) (tried_positions p v)))
unfolding received_reading
received_told p s prime v long symbols =
    cases (eqb (erasures v) 0)
    (λ e.
    let none : erasures v ≡ 0 = eqb-true _ _ e in
    let word = word_of p.q (codeword_length p) v long (received_levels p.q v symbols none) in
    rw (e, received_reading) (reading_told p s prime v word none))
    (λ e. rw (e, received_reading) (filled_told p v (tried_positions p v)))

decode_told : (o i : ℕ) (v : List ℕ) (k l : ℕ) → Told (profile_in o i) v (report (decode_answer o i v k l))
unfolding decode_answer
decode_told o i v k l = go (first_refusal (decode_tests o i v k l)) refl
  where
    p : Parameters
    p = profile_in o i

    t : ℕ
    t = tried_positions p v

    go : (n : ℕ) → first_refusal (decode_tests o i v k l) ≡ n → Told p v (report (read_unless n (received_reading p v) t))
    go zero e =
        let (edition, (known, (lengths, (symbols, rest)))) = passed_every (decode_tests o i v k l) tt e in
        let (sized, prime) = profiles_fit.0 o i known in
        received_told p sized prime v (three_lengths (length v) k l _ _ _ lengths).0 symbols
    go (suc n) e = tt

-- of whatever decode's contract allows
pub correction_told : (o i : ℕ) (v : List ℕ) (r : Decoding) (first first' second second' : List ℕ)
    → DecodeAllows o i v r first first' second second' → (c : Correction) (t : ℕ) → decoded_report r ≡ success (corrected c) t
    → ErrorTold (profile_in o i).q v c × (t ≡ tried_to (profile_in o i) c.position) × PositionTold (profile_in o i) v c
correction_told o i v r first first' second second' h c t e =
    subst (Told (profile_in o i) v) (sym h.answer ∙ e) (decode_told o i v (length first) (length second))

pub decode_errors : DecodeErrors
decode_errors o i v r first first' second second' h c t e = (correction_told o i v r first first' second second' h c t e).0
