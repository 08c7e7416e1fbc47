-- 02's rule for words with one or two erasures (02, T-01: marks), of whatever answer and outputs decode's contract allows.
-- Assumes nothing.
use Rattle.std.specs.Prelude.{◌≡◌, ◌↔◌, List, [], ◌∷◌, ℕ, ◌+◌, ◌≤◌, ◌<◌, T, length, get_or, set}
use Rattle.code_theory.specs.Parameters.{is_edition, codeword_length}
use Rattle.code_theory.specs.Component.{erasure, is_received}
use Rattle.code_theory.specs.Codeword.{codeword}
use Rattle.code_theory.specs.Erasures.{erasures, Agrees}
use Rattle.code_theory.specs.Reading.{filled, changes_at}
use Rattle.code_theory.specs.Profiles.{is_profile, profile_in}
use Rattle.code_theory.specs.Operations.{success}
use Rattle.decoder.specs.declared.word.Decoding.{Decoding}
use Rattle.decoder.specs.Decode.{decoded_report}
use Rattle.codec_claims.specs.Decoding.{Allowed, decoded_number, Carried}

-- a word that numbers 12, 1 to 3 and 11 let through, in which a symbol is erased
pub record WithErasures (e i : ℕ) (v : List ℕ) : Type 0 where
  pub long : length v ≡ codeword_length (profile_in e i)
  pub symbols : T (is_received (profile_in e i) v)
  pub some : 1 ≤ erasures v
  pub few : erasures v ≤ 2

pub record FillsErasures (e i : ℕ) : Type 0 where
  -- a codeword with any one symbol erased is read as filled, with the position and the symbol sent there
  pub one : (u : List ℕ) → T (codeword (profile_in e i) u) → (k : ℕ) → k < codeword_length (profile_in e i)
      → (r : Decoding) (first second : List ℕ) → Allowed e i (set u k erasure) r first second
      → (decoded_report r ≡ success (filled (record { position = k + 1; symbol = get_or u k 0 } ∷ [])) 0) × Carried e i u first second
  -- and so it is with any two, in rising order
  pub two : (u : List ℕ) → T (codeword (profile_in e i) u) → (j k : ℕ) → j < k → k < codeword_length (profile_in e i)
      → (r : Decoding) (first second : List ℕ) → Allowed e i (set (set u j erasure) k erasure) r first second
      → (decoded_report r
      ≡ success (filled (record { position = j + 1; symbol = get_or u j 0 } ∷ record { position = k + 1; symbol = get_or u k 0 } ∷ [])) 0)
      × Carried e i u first second
  -- a word is read as filled, and as the pair of a codeword that agrees with it at every position that is not erased
  pub read : (v : List ℕ) → WithErasures e i v → (u : List ℕ) → T (codeword (profile_in e i) u) → Agrees v u
      → (r : Decoding) (first second : List ℕ) → Allowed e i v r first second
      → (decoded_report r ≡ success (filled (changes_at 1 v u)) 0) × Carried e i u first second
  -- that codeword is the only one
  pub only : (v : List ℕ) → erasures v ≤ 2 → (u u' : List ℕ) → T (codeword (profile_in e i) u) → T (codeword (profile_in e i) u')
      → Agrees v u → Agrees v u' → u ≡ u'
  -- and a word is refused by 4 exactly when there is none
  pub refused : (v : List ℕ) → WithErasures e i v → (r : Decoding) (first second : List ℕ) → Allowed e i v r first second
      → (decoded_number r ≡ 4) ↔ ((u : List ℕ) → T (codeword (profile_in e i) u) → Agrees v u → ⊥)

abbrev pub DecodeFills : Type 0
DecodeFills = (e i : ℕ) → T (is_edition e) → T (is_profile i) → FillsErasures e i
