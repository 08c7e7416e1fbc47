-- Demand 3 of decode, by its contract alone: whatever answer and outputs the contract allows are those that the demand states.
-- Assumes nothing.
use Rattle.std.specs.Prelude.{◌≡◌, ◌≢◌, ◌↔◌, Bool, true, false, ◌&&◌, List, ℕ, ◌+◌, ◌/◌, ◌≤◌, ◌<◌, T, eqb, leb, length, get_or, set, pos, ◌-ℤ◌}
use Rattle.code_theory.specs.Parameters.{is_edition, Parameters, message_length, balanced_length, codeword_length}
use Rattle.code_theory.specs.Component.{is_word, is_received}
use Rattle.code_theory.specs.Codeword.{codeword, carried}
use Rattle.code_theory.specs.Erasures.{erasures}
use Rattle.code_theory.specs.Reading.{distance, Correction, clean, corrected}
use Rattle.code_theory.specs.Profiles.{is_profile, profile, profile_in}
use Rattle.code_theory.specs.TriedPositions.{tried_positions}
use Rattle.code_theory.specs.Operations.{success, report_number, report_tried}
use Rattle.code_theory.specs.Claims.{ErrorTold}
use Rattle.decoder.specs.declared.word.Decoding.{Decoding}
use Rattle.decoder.specs.Decode.{decoded_report, DecodeAllows}

-- an answer r to the word v in edition e and profile i, with outputs of the right lengths, that decode's contract allows
pub record Allowed (e i : ℕ) (v : List ℕ) (r : Decoding) (first second : List ℕ) : Type 0 where
  -- what the outputs held before
  pub before_first : List ℕ
  pub before_second : List ℕ
  pub first_long : length before_first ≡ message_length (profile_in e i)
  pub second_long : length before_second ≡ message_length (profile_in e i)
  pub allowed : DecodeAllows e i v r before_first first before_second second

-- 01's number of an answer, 0 where the word is read
abbrev pub decoded_number : Decoding → ℕ
decoded_number r = report_number (decoded_report r)

-- how many positions it says were tried (02, T-08)
abbrev pub decoded_tried : Decoding → ℕ
decoded_tried r = report_tried (decoded_report r)

-- the outputs are the pair that u carries
pub record Carried (e i : ℕ) (u first second : List ℕ) : Type 0 where
  pub first_is : first ≡ carried (profile_in e i) true u
  pub second_is : second ≡ carried (profile_in e i) false u

-- 02: how many positions are tried up to the corrected position k: those of its parity, and none where it is a check symbol's
abbrev pub tried_to : Parameters → ℕ → ℕ
tried_to p k = elim (leb k (balanced_length p)) [ true ↦ (k + 1) / 2 | false ↦ 0 ]

-- demand 3
pub record DecodesAsSent (e i : ℕ) : Type 0 where
  -- a codeword as sent is read as its pair
  pub unchanged : (u : List ℕ) → T (codeword (profile_in e i) u) → (r : Decoding) (first second : List ℕ) → Allowed e i u r first second
      → (decoded_report r ≡ success clean 0) × Carried e i u first second
  -- and so it is with any one symbol changed, with the position, the symbol sent, the error, received minus sent, and the count
  pub changed : (u : List ℕ) → T (codeword (profile_in e i) u) → (k y : ℕ) → k < codeword_length (profile_in e i)
      → y < (profile_in e i).q → y ≢ get_or u k 0
      → (r : Decoding) (first second : List ℕ) → Allowed e i (set u k y) r first second
      → (decoded_report r
      ≡ success (corrected (record { position = k + 1; symbol = get_or u k 0; error = pos y -ℤ pos (get_or u k 0) }))
      (tried_to (profile_in e i) (k + 1)))
      × Carried e i u first second
  -- every other codeword differs from what arrived in at least two positions
  pub others : (u v : List ℕ) → T (codeword (profile_in e i) u) → T (codeword (profile_in e i) v) → v ≢ u → (k y : ℕ)
      → k < codeword_length (profile_in e i) → y < (profile_in e i).q → 2 ≤ distance v (set u k y)
  -- a word of levels, that numbers 12 and 1 to 3 let through, is refused by 4 exactly when every codeword does
  pub refused : (v : List ℕ) → T (is_word (profile_in e i).q (codeword_length (profile_in e i)) v) → (r : Decoding) (first second : List ℕ)
      → Allowed e i v r first second → (decoded_number r ≡ 4) ↔ ((u : List ℕ) → T (codeword (profile_in e i) u) → 2 ≤ distance u v)

abbrev pub DecodeCorrects : Type 0
DecodeCorrects = (e i : ℕ) → T (is_edition e) → T (is_profile i) → DecodesAsSent e i

-- 02: the error of an answer is what arrived at the position found minus the symbol sent there, from -(q - 1) to q - 1, and never 0
abbrev pub DecodeErrors : Type 0
DecodeErrors =
    (e i : ℕ) (v : List ℕ) (r : Decoding) (first first' second second' : List ℕ) → DecodeAllows e i v r first first' second second'
    → (c : Correction) (t : ℕ) → decoded_report r ≡ success (corrected c) t → ErrorTold (profile_in e i).q v c

-- a call that numbers 12 and 1 to 3 let through
pub record LetThrough (e i : ℕ) (v : List ℕ) (k l : ℕ) : Type 0 where
  pub edition : T (is_edition e)
  pub in_table : T (is_profile i)
  pub word_long : length v ≡ codeword_length (profile_in e i)
  pub first_long : k ≡ message_length (profile_in e i)
  pub second_long : l ≡ message_length (profile_in e i)
  pub symbols : T (is_received (profile_in e i) v)

-- the number k is given for nothing else, and for no word with more than two erasures
abbrev pub OnlyLetThrough : ℕ → Type 0
OnlyLetThrough k =
    (e i : ℕ) (v : List ℕ) (r : Decoding) (first first' second second' : List ℕ) → DecodeAllows e i v r first first' second second'
    → decoded_number r ≡ k → LetThrough e i v (length first) (length second) × (erasures v ≤ 2)

-- 02: number 11 is given exactly for a call that they let through and whose word has more
abbrev pub ManyErasures : Type 0
ManyErasures =
    (e i : ℕ) (v : List ℕ) (r : Decoding) (first first' second second' : List ℕ) → DecodeAllows e i v r first first' second second'
    → (decoded_number r ≡ 11) ↔ (LetThrough e i v (length first) (length second) × (3 ≤ erasures v))

-- 02: where a word is read or refused by 4, the answer carries its count; that of a corrected word goes up to its position, and none passes
-- the profile's n + 1
pub record CountCarried (e i : ℕ) (v : List ℕ) (k l : ℕ) (r : Decoding) : Type 0 where
  pub let_through : LetThrough e i v k l → erasures v ≤ 2 → decoded_tried r ≡ tried_positions (profile_in e i) v
  pub to_corrected : (c : Correction) (t : ℕ) → decoded_report r ≡ success (corrected c) t → t ≡ tried_to (profile_in e i) c.position
  pub most : decoded_tried r ≤ (profile_in e i).n + 1

abbrev pub DecodeCounts : Type 0
DecodeCounts =
    (e i : ℕ) (v : List ℕ) (r : Decoding) (first first' second second' : List ℕ) → DecodeAllows e i v r first first' second second'
    → CountCarried e i v (length first) (length second) r

-- the lengths of the word and of the outputs are the profile's
abbrev pub decode_lengths_fit : ℕ → List ℕ → ℕ → ℕ → Bool
decode_lengths_fit i v k l =
    eqb (length v) (codeword_length (profile i)) && eqb k (message_length (profile i)) && eqb l (message_length (profile i))

-- numbers 12 (02, T-03) and 1 to 3, by the first that applies; and no refusal changes an output
pub record RefusesDecoding (e i : ℕ) (v : List ℕ) (r : Decoding) (first first' second second' : List ℕ) : Type 0 where
  pub by_12 : is_edition e ≡ false → decoded_number r ≡ 12
  pub by_1 : T (is_edition e) → is_profile i ≡ false → decoded_number r ≡ 1
  pub by_2 : T (is_edition e) → T (is_profile i) → decode_lengths_fit i v (length first) (length second) ≡ false → decoded_number r ≡ 2
  pub by_3 : T (is_edition e) → T (is_profile i) → T (decode_lengths_fit i v (length first) (length second))
      → is_received (profile_in e i) v ≡ false → decoded_number r ≡ 3
  pub keeps : decoded_number r ≢ 0 → (first' ≡ first) × (second' ≡ second)

abbrev pub DecodeRefuses : Type 0
DecodeRefuses =
    (e i : ℕ) (v : List ℕ) (r : Decoding) (first first' second second' : List ℕ) → DecodeAllows e i v r first first' second second'
    → RefusesDecoding e i v r first first' second second'
