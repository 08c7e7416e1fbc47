-- What the steps of conversion promise each other. How the proof gets there: ConvertAllows rests on none of it.
-- Assumes nothing.
use Rattle.std.specs.Prelude.{◌≡◌, ℕ, T}
use Rattle.code_theory.specs.Parameters.{is_edition, message_length, codeword_length}
use Rattle.code_theory.specs.Reading.{clean, corrected, filled}
use Rattle.code_theory.specs.Profiles.{is_profile, profile_in}
use Rattle.code_theory.specs.Operations.{Report, refusal, failure, success}

-- the number that keeps a word from being converted, by the report on it; 0 where it is clean
abbrev pub doubt : Report → ℕ
doubt (refusal k) = k
doubt (failure t) = 4
doubt (success clean t) = 0
doubt (success (corrected c) t) = 13
doubt (success (filled cs) t) = 13

-- edition and profile are known, buffers of j and of k symbols hold a message each, and one of l symbols a word
pub record Room (e i j k l : ℕ) : Type 0 where
  pub edition : T (is_edition e)
  pub known : T (is_profile i)
  pub first_long : j ≡ message_length (profile_in e i)
  pub second_long : k ≡ message_length (profile_in e i)
  pub out_long : l ≡ codeword_length (profile_in e i)
