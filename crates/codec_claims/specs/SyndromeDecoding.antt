-- Decoding by the syndromes (02, T-09), by its contract alone: it agrees with decode, and so demand 3 and 02's rule for erasures hold of
-- it; and the step that finds the position, by its own.
-- Assumes nothing.
use Rattle.std.specs.Prelude.{◌≡◌, ◌≢◌, ◌↔◌, Bool, true, false, List, ℕ, ◌+◌, ◌≤◌, ◌<◌, T, length, get_or, set, pos, ◌-ℤ◌, Option, Result}
use Rattle.code_theory.specs.Parameters.{is_edition, edition_of, message_length, balanced_length, codeword_length}
use Rattle.code_theory.specs.Component.{is_word}
use Rattle.code_theory.specs.Codeword.{check_sum_agrees, codeword, received}
use Rattle.code_theory.specs.Erasures.{Agrees}
use Rattle.code_theory.specs.Reading.{distance, Correction, clean, corrected, filled, changes_at}
use Rattle.code_theory.specs.Profiles.{is_profile, profile_in}
use Rattle.code_theory.specs.Operations.{success, report_number}
use Rattle.refusals.specs.declared.Refusal.{Refusal}
use Rattle.decoding_theory.specs.Syndromes.{syndromes}
use Rattle.locating_theory.specs.ErrorPosition.{at}
use Rattle.symbols.specs.declared.sums.Syndrome.{Syndrome}
use Rattle.symbols.specs.Syndromes.{rows}
use Rattle.syndromes.specs.Rows.{rows_among}
use Rattle.locator.specs.Location.{location_of, ErrorPositionAllows}
use Rattle.decoder.specs.declared.word.Decoded.{Decoded}
use Rattle.decoder.specs.declared.word.Decoding.{Decoding}
use Rattle.decoder.specs.Decode.{decoded_report, DecodeAllows}
use Rattle.decoder.specs.SyndromeDecode.{uncounted, syndrome_report, SyndromeDecodeAllows}
use Rattle.codec_claims.specs.Decoding.{Carried}
use Rattle.codec_claims.specs.Filling.{WithErasures}

-- an answer of syndrome_decode and one of decode, with their outputs, are the same, the count aside
pub record Alike (r : Result Decoded Refusal) (first second : List ℕ) (d : Decoding) (first' second' : List ℕ) : Type 0 where
  pub report : syndrome_report r ≡ uncounted (decoded_report d)
  pub first_same : first ≡ first'
  pub second_same : second ≡ second'

-- 02: "It must agree with the present reader on every input, refusals included, in both editions": whatever the two contracts allow of one
-- call, with outputs that held `f` and `s`
abbrev pub DecodersAgree : Type 0
DecodersAgree =
    (e i : ℕ) (v f s : List ℕ) (r : Result Decoded Refusal) (first second : List ℕ) → SyndromeDecodeAllows e i v r f first s second
    → (d : Decoding) (first' second' : List ℕ) → DecodeAllows e i v d f first' s second' → Alike r first second d first' second'

-- and whatever its contract allows decode's allows, with a count
pub record Counted (e i : ℕ) (v f s : List ℕ) (r : Result Decoded Refusal) (first second : List ℕ) : Type 0 where
  pub decoded : Decoding
  pub report : syndrome_report r ≡ uncounted (decoded_report decoded)
  pub allowed : DecodeAllows e i v decoded f first s second

abbrev pub DecodeAllowsSo : Type 0
DecodeAllowsSo =
    (e i : ℕ) (v f s : List ℕ) (r : Result Decoded Refusal) (first second : List ℕ) → SyndromeDecodeAllows e i v r f first s second
    → Counted e i v f s r first second

-- an answer r to the word v in edition e and profile i, with outputs of the right lengths, that its contract allows
pub record SyndromeAllowed (e i : ℕ) (v : List ℕ) (r : Result Decoded Refusal) (first second : List ℕ) : Type 0 where
  -- what the outputs held before
  pub before_first : List ℕ
  pub before_second : List ℕ
  pub first_long : length before_first ≡ message_length (profile_in e i)
  pub second_long : length before_second ≡ message_length (profile_in e i)
  pub allowed : SyndromeDecodeAllows e i v r before_first first before_second second

-- 01's number of an answer, 0 where the word is read
abbrev pub syndrome_number : Result Decoded Refusal → ℕ
syndrome_number r = report_number (syndrome_report r)

-- demand 3 (that every other codeword is two positions off is of words alone: `DecodesAsSent`)
pub record SyndromesAsSent (e i : ℕ) : Type 0 where
  -- a codeword as sent is read as its pair
  pub unchanged : (u : List ℕ) → T (codeword (profile_in e i) u) → (r : Result Decoded Refusal) (first second : List ℕ)
      → SyndromeAllowed e i u r first second → (syndrome_report r ≡ success clean 0) × Carried e i u first second
  -- and so it is with any one symbol changed
  pub changed : (u : List ℕ) → T (codeword (profile_in e i) u) → (k y : ℕ) → k < codeword_length (profile_in e i)
      → y < (profile_in e i).q → y ≢ get_or u k 0
      → (r : Result Decoded Refusal) (first second : List ℕ) → SyndromeAllowed e i (set u k y) r first second
      → (syndrome_report r
      ≡ success (corrected (record { position = k + 1; symbol = get_or u k 0; error = pos y -ℤ pos (get_or u k 0) })) 0)
      × Carried e i u first second
  -- a word of levels is refused by 4 exactly when every codeword differs from it in two positions or more
  pub refused : (v : List ℕ) → T (is_word (profile_in e i).q (codeword_length (profile_in e i)) v)
      → (r : Result Decoded Refusal) (first second : List ℕ) → SyndromeAllowed e i v r first second
      → (syndrome_number r ≡ 4) ↔ ((u : List ℕ) → T (codeword (profile_in e i) u) → 2 ≤ distance u v)

abbrev pub SyndromesCorrect : Type 0
SyndromesCorrect = (e i : ℕ) → T (is_edition e) → T (is_profile i) → SyndromesAsSent e i

-- 02's rule for a word with one or two erasures (that the codeword is the only one is of words alone: `FillsErasures`)
pub record SyndromesFillErasures (e i : ℕ) : Type 0 where
  -- it is read as filled, and as the pair of a codeword that agrees with it at every position that is not erased
  pub read : (v : List ℕ) → WithErasures e i v → (u : List ℕ) → T (codeword (profile_in e i) u) → Agrees v u
      → (r : Result Decoded Refusal) (first second : List ℕ) → SyndromeAllowed e i v r first second
      → (syndrome_report r ≡ success (filled (changes_at 1 v u)) 0) × Carried e i u first second
  -- and refused by 4 exactly when there is none
  pub refused : (v : List ℕ) → WithErasures e i v → (r : Result Decoded Refusal) (first second : List ℕ) → SyndromeAllowed e i v r first second
      → (syndrome_number r ≡ 4) ↔ ((u : List ℕ) → T (codeword (profile_in e i) u) → Agrees v u → ⊥)

abbrev pub SyndromesFill : Type 0
SyndromesFill = (e i : ℕ) → T (is_edition e) → T (is_profile i) → SyndromesFillErasures e i

-- s is the syndrome of the first component (true) of the word v, or of the second, as the code has it: four rows, of which r count
abbrev pub SyndromeOf : ℕ → ℕ → Bool → List ℕ → Syndrome → Type 0
SyndromeOf e i c v s = rows_among (profile_in e i).r (rows s) ≡ syndromes (profile_in e i) (received (profile_in e i) c v)

-- 02: "for every word that the present reader mends in w, its answer is the place mended": of whatever the contracts of decode and of the
-- step allow, where the step is handed the two syndromes, the error and the check sum that disagrees
abbrev pub LocatesCorrected : Type 0
LocatesCorrected =
    (e i : ℕ) (v : List ℕ) (d : Decoding) (first first' second second' : List ℕ) → DecodeAllows e i v d first first' second second'
    → (c : Correction) (t : ℕ) → decoded_report d ≡ success (corrected c) t → c.position ≤ balanced_length (profile_in e i)
    → (b : Bool) → check_sum_agrees (profile_in e i) b v ≡ false
    → (s s' : Syndrome) → SyndromeOf e i true v s → SyndromeOf e i false v s'
    → (l : Option ℕ) → ErrorPositionAllows (edition_of e) i b c.error s s' l → location_of l ≡ at c.position
