-- What is claimed of conversion (02, T-04), of whatever answer and output convert's contract allows; all of it fields of one record.
-- proofs/Claims.antt has a term of it.
-- Assumes nothing.
use Rattle.std.specs.Prelude.{◌≡◌, ◌≢◌, ◌↔◌, Bool, true, false, ◌&&◌, List, ℕ, ◌≤◌, T, eqb, length, Result}
use Rattle.code_theory.specs.Parameters.{is_edition, Parameters, codeword_length}
use Rattle.code_theory.specs.Component.{is_received}
use Rattle.code_theory.specs.Codeword.{codeword, carried}
use Rattle.code_theory.specs.Erasures.{erasures, Agrees}
use Rattle.code_theory.specs.Reading.{distance, Finding, clean}
use Rattle.code_theory.specs.Profiles.{is_profile, profile, profile_in}
use Rattle.code_theory.specs.Operations.{done, success}
use Rattle.refusals.specs.declared.Refusal.{Refusal}
use Rattle.encoder.specs.Answer.{encoded_outcome, EncodeAllows}
use Rattle.decoder.specs.declared.word.Decoding.{Decoding}
use Rattle.decoder.specs.Decode.{decoded_report}
use Rattle.codec_claims.specs.Encoding.{WordOf, encode_lengths_fit, levels_fit, RefusedBy}
use Rattle.codec_claims.specs.Decoding.{Allowed, decoded_number}
use Rattle.converter.specs.Conversion.{other_edition}
use Rattle.converter.specs.Answer.{ConvertAllows}
use Rattle.converter.specs.Cases.{CasesHold, passed_on, kept_back}

-- 02: "a word of one edition .. the other edition's writer"
abbrev pub OtherEdition : Type 0
OtherEdition = (other_edition 13 ≡ 18) × (other_edition 18 ≡ 13)

-- an answer r to the word u of edition e in profile i, with an output of N symbols, that convert's contract allows
pub record Answered (e i : ℕ) (u : List ℕ) (r : Result Unit Refusal) (out out' : List ℕ) : Type 0 where
  pub long : length out ≡ codeword_length (profile_in e i)
  pub allowed : ConvertAllows e i u r out out'

-- v is the word that 01, or 02 for edition 18, asks for in edition e', for the pair that u carries in edition e; 02, T-06: by line rule 1
abbrev pub SamePair : ℕ → ℕ → ℕ → List ℕ → List ℕ → Type 0
SamePair e e' i u v = WordOf e' i 1 (carried (profile_in e i) true u) (carried (profile_in e i) false u) v

-- a codeword is converted to the word of the other edition for its pair, whatever choice it was made by
abbrev pub ConvertWrites : Type 0
ConvertWrites =
    (e i : ℕ) → T (is_edition e) → T (is_profile i) → (u : List ℕ) → T (codeword (profile_in e i) u)
    → (r : Result Unit Refusal) (out out' : List ℕ) → Answered e i u r out out' → (encoded_outcome r ≡ done) × SamePair e (other_edition e) i u out'

-- 02: "Converting there and back gives the writer's own word for that pair"
abbrev pub ThereAndBack : Type 0
ThereAndBack =
    (e i : ℕ) → T (is_edition e) → T (is_profile i) → (u : List ℕ) → T (codeword (profile_in e i) u)
    → (r : Result Unit Refusal) (out there : List ℕ) → Answered e i u r out there
    → (r' : Result Unit Refusal) (out' back : List ℕ) → Answered (other_edition e) i there r' out' back
    → (encoded_outcome r' ≡ done) × SamePair e e i u back

-- so a word that encode made by line rule 1 comes back
abbrev pub OwnWordBack : Type 0
OwnWordBack =
    (e i : ℕ) (a b : List ℕ) (made : Result Unit Refusal) (before u : List ℕ) → EncodeAllows e i 1 a b made before u
    → T (is_edition e) → T (is_profile i) → T (encode_lengths_fit i a b (length before)) → T (levels_fit i a b)
    → (r : Result Unit Refusal) (out there : List ℕ) → Answered e i u r out there
    → (r' : Result Unit Refusal) (out' back : List ℕ) → Answered (other_edition e) i there r' out' back
    → (encoded_outcome r' ≡ done) × (back ≡ u)

-- The answer by what decode and encode may answer: d to the same word, with the messages `first` and `second`.
pub record FollowsReading (e i : ℕ) (d : Decoding) (first second : List ℕ) (r : Result Unit Refusal) (out out' : List ℕ) : Type 0 where
  -- 02: "The order of reading applies"
  pub refused : decoded_number d ≢ 0 → RefusedBy (decoded_number d) r out out'
  -- 02: "13, the word reads but as mended or filled"
  pub doubtful : (f : Finding) (t : ℕ) → decoded_report d ≡ success f t → f ≢ clean → RefusedBy 13 r out out'
  -- and a clean word is written as encode writes its messages in the other edition, by line rule 1
  pub written : decoded_report d ≡ success clean 0 → (made : Result Unit Refusal) (before v : List ℕ)
      → EncodeAllows (other_edition e) i 1 first second made before v → length before ≡ codeword_length (profile_in e i)
      → (encoded_outcome r ≡ done) × (out' ≡ v)

abbrev pub ConvertFollows : Type 0
ConvertFollows =
    (e i : ℕ) (u : List ℕ) (d : Decoding) (first second : List ℕ) → Allowed e i u d first second
    → (r : Result Unit Refusal) (out out' : List ℕ) → Answered e i u r out out' → FollowsReading e i d first second r out out'

-- 02: "It must not pass a doubtful word on"

-- v is a codeword that may have been sent where u arrived: it differs from u in one position at most or, where symbols of u are erased,
-- agrees with it at all others
pub record MayBeSent (p : Parameters) (u v : List ℕ) : Type 0 where
  pub is_codeword : T (codeword p v)
  pub near : elim (eqb (erasures u) 0) as (λ _. Type 0) [ true ↦ distance v u ≤ 1 | false ↦ Agrees u v ]

-- a call that numbers 12, 1 to 3 and 11 let through, so that its word is read, with an output of l symbols
pub record ReachesReading (e i : ℕ) (u : List ℕ) (l : ℕ) : Type 0 where
  pub edition : T (is_edition e)
  pub in_table : T (is_profile i)
  pub word_long : length u ≡ codeword_length (profile_in e i)
  pub out_long : l ≡ codeword_length (profile_in e i)
  pub symbols : T (is_received (profile_in e i) u)
  pub few : erasures u ≤ 2

-- only a call with a codeword is done, whatever codewords its word is near
pub record PassedOn (e i : ℕ) (u : List ℕ) (l : ℕ) : Type 0 where
  pub reaches_reading : ReachesReading e i u l
  pub is_codeword : T (codeword (profile_in e i) u)

abbrev pub OnlyCodewords : Type 0
OnlyCodewords =
    (e i : ℕ) (u : List ℕ) (r : Result Unit Refusal) (out out' : List ℕ) → ConvertAllows e i u r out out'
    → encoded_outcome r ≡ done → PassedOn e i u (length out)

-- the lengths of the word and of the output are the profile's
abbrev pub convert_lengths_fit : ℕ → List ℕ → ℕ → Bool
convert_lengths_fit i u l = eqb (length u) (codeword_length (profile i)) && eqb l (codeword_length (profile i))

-- any other call is refused, by the first number that applies, and leaves the output
pub record RefusesConverting (e i : ℕ) (u : List ℕ) (r : Result Unit Refusal) (out out' : List ℕ) : Type 0 where
  pub by_12 : is_edition e ≡ false → RefusedBy 12 r out out'
  pub by_1 : T (is_edition e) → is_profile i ≡ false → RefusedBy 1 r out out'
  pub by_2 : T (is_edition e) → T (is_profile i) → convert_lengths_fit i u (length out) ≡ false → RefusedBy 2 r out out'
  pub by_3 : T (is_edition e) → T (is_profile i) → T (convert_lengths_fit i u (length out)) → is_received (profile_in e i) u ≡ false
      → RefusedBy 3 r out out'
  pub by_11 : T (is_edition e) → T (is_profile i) → T (convert_lengths_fit i u (length out)) → T (is_received (profile_in e i) u)
      → 3 ≤ erasures u → RefusedBy 11 r out out'
  -- 4 exactly where no codeword may have been sent
  pub by_4 : ReachesReading e i u (length out) → (RefusedBy 4 r out out') ↔ ((v : List ℕ) → MayBeSent (profile_in e i) u v → ⊥)
  -- and 13 where one may have been, and another word arrived
  pub by_13 : ReachesReading e i u (length out) → (v : List ℕ) → MayBeSent (profile_in e i) u v → u ≢ v → RefusedBy 13 r out out'

abbrev pub ConvertRefuses : Type 0
ConvertRefuses =
    (e i : ℕ) (u : List ℕ) (r : Result Unit Refusal) (out out' : List ℕ) → ConvertAllows e i u r out out' → RefusesConverting e i u r out out'

pub record Claims : Type 0 where
  pub other_edition_lem : OtherEdition
  pub convert_writes : ConvertWrites
  pub there_and_back : ThereAndBack
  pub own_word_back : OwnWordBack
  pub convert_follows : ConvertFollows
  pub only_codewords : OnlyCodewords
  pub convert_refuses : ConvertRefuses
  pub passed_on_hold : CasesHold passed_on
  pub kept_back_hold : CasesHold kept_back
