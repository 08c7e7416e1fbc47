-- Words that are converted, and words that are refused, a row each.
-- Assumes nothing.
use Rattle.std.specs.Prelude.{◌≡◌, List, [], ◌∷◌, ◌++◌, ℕ, length, replicate, set}
use Rattle.code_theory.specs.Cases.{zeros, shown, shown18, erase}
use Rattle.converter.specs.Conversion.{convert_refusal, convert_output}

pub record ConversionCase : Type 0 where
  pub edition : ℕ
  pub profile : ℕ
  pub word : List ℕ
  -- what the output holds before
  pub before : List ℕ
  -- the number that refuses the call, or 0
  pub number : ℕ
  -- what the output holds afterwards
  pub after : List ℕ

abbrev pub CaseHolds : ConversionCase → Type 0
CaseHolds c =
    (convert_refusal c.edition c.profile c.word (length c.before) ≡ c.number)
    × (convert_output c.edition c.profile c.word c.before ≡ c.after)

abbrev pub CasesHold : List ConversionCase → Type 0
CasesHold [] = Unit {0}
CasesHold (c ∷ cs) = CaseHolds c × CasesHold cs

-- a word of edition e and profile i is converted to v
abbrev pub converting : ℕ → ℕ → List ℕ → List ℕ → ConversionCase
converting e i u v = record { edition = e; profile = i; word = u; before = replicate (length v) 170; number = 0; after = v }

-- a word is refused by n, and an output of l symbols stays as it was
abbrev pub refusing : ℕ → ℕ → List ℕ → ℕ → ℕ → ConversionCase
refusing e i u l n = record { edition = e; profile = i; word = u; before = replicate l 170; number = n; after = replicate l 170 }

abbrev pub three_erased : List ℕ
three_erased = erase (erase (erase shown 0) 1) 2

abbrev pub passed_on : List ConversionCase
passed_on =
    -- the word of 01's example, there and back
    converting 13 1 shown shown18
    ∷ converting 18 1 shown18 shown
    -- words that another encoder made for that pair: s = 1, v = 12, and in edition 18 s = 2, v = 10
    ∷ converting 13 1 (1 ∷ 2 ∷ 2 ∷ 2 ∷ 2 ∷ replicate 6 0 ++ (1 ∷ 1 ∷ 1 ∷ 1 ∷ 2 ∷ 2 ∷ 0 ∷ 2 ∷ [])) shown18
    ∷ converting 18 1 (0 ∷ 2 ∷ 2 ∷ 2 ∷ 2 ∷ replicate 5 1 ++ (replicate 5 0 ++ (2 ∷ 2 ∷ 2 ∷ 0 ∷ []))) shown
    -- a word of our encoder in profile 3, of which w in edition 18 is not the complement
    ∷ converting 13 3 (2 ∷ 2 ∷ 3 ∷ 1 ∷ 4 ∷ 4 ∷ 0 ∷ 0 ∷ 0 ∷ replicate 38 2 ++ (3 ∷ 3 ∷ 1 ∷ 3 ∷ []))
    (1 ∷ 1 ∷ 0 ∷ 2 ∷ 4 ∷ 4 ∷ 3 ∷ 3 ∷ 3 ∷ replicate 38 2 ++ (1 ∷ 0 ∷ 0 ∷ 4 ∷ []))
    ∷ []

abbrev pub kept_back : List ConversionCase
kept_back =
    -- a symbol wrong, a check symbol wrong, one erased, two erased
    refusing 13 1 (set shown 5 2) 19 13
    ∷ refusing 18 1 (set shown18 18 2) 19 13
    ∷ refusing 18 1 (erase shown18 5) 19 13
    ∷ refusing 13 1 (erase (erase shown 0) 2) 19 13
    -- both check symbols wrong, and one symbol erased beside a wrong one
    ∷ refusing 13 1 (replicate 17 1 ++ (1 ∷ 1 ∷ [])) 19 4
    ∷ refusing 13 1 (erase (set shown 5 2) 3) 19 4
    -- the order: three erased, then also a symbol that is none, an output too short, no profile, no edition
    ∷ refusing 13 1 three_erased 19 11
    ∷ refusing 13 1 (set three_erased 3 3) 19 3
    ∷ refusing 13 1 (set three_erased 3 3) 18 2
    ∷ refusing 13 5 (set three_erased 3 3) 18 1
    ∷ refusing 12 5 (set three_erased 3 3) 18 12
    -- a word too short, and one of N symbols with an output too long
    ∷ refusing 18 1 (zeros 18) 19 2
    ∷ refusing 18 1 shown18 20 2
    ∷ []
