-- The round trip of encode and decode, by their contracts alone.
-- Assumes nothing.
use Rattle.std.specs.Prelude.{◌≡◌, List, ℕ, T, length, Result}
use Rattle.code_theory.specs.Parameters.{is_edition, message_length}
use Rattle.code_theory.specs.LineRule.{is_line_rule}
use Rattle.code_theory.specs.Reading.{clean}
use Rattle.code_theory.specs.Profiles.{is_profile, profile_in}
use Rattle.code_theory.specs.Operations.{success}
use Rattle.refusals.specs.declared.Refusal.{Refusal}
use Rattle.encoder.specs.Answer.{EncodeAllows}
use Rattle.decoder.specs.declared.word.Decoding.{Decoding}
use Rattle.decoder.specs.Decode.{decoded_report, DecodeAllows}
use Rattle.codec_claims.specs.Encoding as Encode

-- the word that encode makes of a pair of the right lengths and levels, by either line rule, is decoded as clean, and gives the pair back;
-- decode is told no rule
pub record GivesBack (a b : List ℕ) (r : Decoding) (first second : List ℕ) : Type 0 where
  pub report : decoded_report r ≡ success clean 0
  pub first_is : first ≡ a
  pub second_is : second ≡ b

abbrev pub RoundTrip : Type 0
RoundTrip =
    (e i l : ℕ) (a b : List ℕ) (made : Result Unit Refusal) (out word : List ℕ) → EncodeAllows e i l a b made out word
    → T (is_edition e) → T (is_profile i) → T (is_line_rule l) → T (Encode.encode_lengths_fit i a b (length out)) → T (Encode.levels_fit i a b)
    → (r : Decoding) (before_first first before_second second : List ℕ) → DecodeAllows e i word r before_first first before_second second
    → length before_first ≡ message_length (profile_in e i) → length before_second ≡ message_length (profile_in e i)
    → GivesBack a b r first second
