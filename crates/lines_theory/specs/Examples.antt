-- Document 01's example of the line program, byte for byte, with the errors that 02 adds; words with 02's question marks; and short inputs
-- that end in every way.
-- Assumes nothing.
use Rattle.std.specs.Prelude.{◌≡◌, List, [], ◌∷◌, ◌++◌, ℕ, replicate}
use Rattle.lines_theory.specs.Stream.{stream_output}

-- seven lines, the last of them empty but ended
abbrev pub example_input : List ℕ
example_input =
    (49 ∷ 32 ∷ 49 ∷ 49 ∷ 49 ∷ 49 ∷ 49 ∷ 49 ∷ 49 ∷ 49 ∷ 49 ∷ 49 ∷ 49 ∷ 49 ∷ 49 ∷ 49 ∷ 49 ∷ 49 ∷ 49 ∷ 48 ∷ 50 ∷ 10 ∷ [])
    ++ (49 ∷ 32 ∷ 49 ∷ 50 ∷ 48 ∷ 48 ∷ 48 ∷ 50 ∷ 49 ∷ 49 ∷ 49 ∷ 49 ∷ 49 ∷ 49 ∷ 49 ∷ 49 ∷ 49 ∷ 50 ∷ 50 ∷ 50 ∷ 48 ∷ 10 ∷ [])
    ++ (49 ∷ 32 ∷ 50 ∷ 50 ∷ 49 ∷ 49 ∷ 49 ∷ 49 ∷ 49 ∷ 49 ∷ 49 ∷ 49 ∷ 49 ∷ 49 ∷ 49 ∷ 49 ∷ 49 ∷ 49 ∷ 49 ∷ 48 ∷ 50 ∷ 10 ∷ [])
    ++ (49 ∷ 32 ∷ 51 ∷ 49 ∷ 49 ∷ 49 ∷ 49 ∷ 49 ∷ 49 ∷ 49 ∷ 49 ∷ 49 ∷ 49 ∷ 49 ∷ 49 ∷ 49 ∷ 49 ∷ 49 ∷ 49 ∷ 48 ∷ 50 ∷ 10 ∷ [])
    ++ (53 ∷ 32 ∷ 49 ∷ 49 ∷ 10 ∷ [])
    ++ (49 ∷ 32 ∷ 49 ∷ 49 ∷ 49 ∷ 10 ∷ [])
    ++ (10 ∷ [])

-- and what is printed for each
abbrev pub example_output : List ℕ
example_output =
    (49 ∷ 32 ∷ 67 ∷ 32 ∷ 48 ∷ 32 ∷ 48 ∷ 32 ∷ 48 ∷ 32 ∷ 48 ∷ 48 ∷ 48 ∷ 48 ∷ 48 ∷ 32 ∷ 48 ∷ 48 ∷ 48 ∷ 48 ∷ 48 ∷ 10 ∷ [])
    ++ (49 ∷ 32 ∷ 77 ∷ 32 ∷ 54 ∷ 32 ∷ 49 ∷ 32 ∷ 43 ∷ 49 ∷ 32 ∷ 48 ∷ 48 ∷ 48 ∷ 48 ∷ 49 ∷ 32 ∷ 48 ∷ 48 ∷ 48 ∷ 48 ∷ 48 ∷ 10 ∷ [])
    ++ (82 ∷ 32 ∷ 52 ∷ 10 ∷ [])
    ++ (82 ∷ 32 ∷ 51 ∷ 10 ∷ [])
    ++ (82 ∷ 32 ∷ 49 ∷ 10 ∷ [])
    ++ (82 ∷ 32 ∷ 50 ∷ 10 ∷ [])
    ++ (82 ∷ 32 ∷ 57 ∷ 10 ∷ [])

-- 02's question marks in a word: one, two, one where another symbol is wrong, three, and nothing else; then one for the profile, and
-- byte 47, which less 48 would be 255 in a byte
abbrev pub erased_input : List ℕ
erased_input =
    (49 ∷ 32 ∷ 49 ∷ 50 ∷ 48 ∷ 48 ∷ 48 ∷ 63 ∷ 49 ∷ 49 ∷ 49 ∷ 49 ∷ 49 ∷ 49 ∷ 49 ∷ 49 ∷ 49 ∷ 50 ∷ 50 ∷ 50 ∷ 48 ∷ 10 ∷ [])
    ++ (49 ∷ 32 ∷ 63 ∷ 50 ∷ 63 ∷ 48 ∷ 48 ∷ 49 ∷ 49 ∷ 49 ∷ 49 ∷ 49 ∷ 49 ∷ 49 ∷ 49 ∷ 49 ∷ 49 ∷ 50 ∷ 50 ∷ 50 ∷ 48 ∷ 10 ∷ [])
    ++ (49 ∷ 32 ∷ 63 ∷ 50 ∷ 48 ∷ 48 ∷ 48 ∷ 50 ∷ 49 ∷ 49 ∷ 49 ∷ 49 ∷ 49 ∷ 49 ∷ 49 ∷ 49 ∷ 49 ∷ 50 ∷ 50 ∷ 50 ∷ 48 ∷ 10 ∷ [])
    ++ (49 ∷ 32 ∷ 63 ∷ 63 ∷ 63 ∷ 48 ∷ 48 ∷ 49 ∷ 49 ∷ 49 ∷ 49 ∷ 49 ∷ 49 ∷ 49 ∷ 49 ∷ 49 ∷ 49 ∷ 50 ∷ 50 ∷ 50 ∷ 48 ∷ 10 ∷ [])
    ++ (49 ∷ 32 ∷ 63 ∷ 10 ∷ [])
    ++ (63 ∷ 32 ∷ 49 ∷ 10 ∷ [])
    ++ (49 ∷ 32 ∷ 47 ∷ 10 ∷ [])

-- and what is printed for each
abbrev pub erased_output : List ℕ
erased_output =
    (49 ∷ 32 ∷ 70 ∷ 32 ∷ 54 ∷ 32 ∷ 49 ∷ 32 ∷ 48 ∷ 32 ∷ 48 ∷ 48 ∷ 48 ∷ 48 ∷ 49 ∷ 32 ∷ 48 ∷ 48 ∷ 48 ∷ 48 ∷ 48 ∷ 10 ∷ [])
    ++ (49 ∷ 32 ∷ 70 ∷ 32 ∷ 49 ∷ 32 ∷ 49 ∷ 32 ∷ 51 ∷ 32 ∷ 48 ∷ 32 ∷ 48 ∷ 32 ∷ 48 ∷ 48 ∷ 48 ∷ 48 ∷ 49 ∷ 32 ∷ replicate 5 48 ++ 10 ∷ [])
    ++ (82 ∷ 32 ∷ 52 ∷ 10 ∷ [])
    ++ (82 ∷ 32 ∷ 49 ∷ 49 ∷ 10 ∷ [])
    ++ (82 ∷ 32 ∷ 50 ∷ 10 ∷ [])
    ++ (82 ∷ 32 ∷ 57 ∷ 10 ∷ [])
    ++ (82 ∷ 32 ∷ 57 ∷ 10 ∷ [])

-- a symbol that rose by two levels: place 4 of 01's second line, without its fault
abbrev pub risen_input : List ℕ
risen_input = 49 ∷ 32 ∷ 49 ∷ 50 ∷ 48 ∷ 50 ∷ 48 ∷ replicate 10 49 ++ (50 ∷ 50 ∷ 50 ∷ 48 ∷ [])

abbrev pub risen_output : List ℕ
risen_output = 49 ∷ 32 ∷ 77 ∷ 32 ∷ 52 ∷ 32 ∷ 48 ∷ 32 ∷ 43 ∷ 50 ∷ 32 ∷ replicate 4 48 ++ 49 ∷ 32 ∷ replicate 5 48 ++ 10 ∷ []

-- a check symbol that fell by two: the zero word of profile 1 with its last symbol as 0
abbrev pub fallen_input : List ℕ
fallen_input = 49 ∷ 32 ∷ replicate 17 49 ++ (48 ∷ 48 ∷ [])

abbrev pub fallen_output : List ℕ
fallen_output = 49 ∷ 32 ∷ 77 ∷ 32 ∷ 49 ∷ 57 ∷ 32 ∷ 50 ∷ 32 ∷ 45 ∷ 50 ∷ 32 ∷ replicate 5 48 ++ 32 ∷ replicate 5 48 ++ 10 ∷ []

-- "R 9" and byte 10
abbrev pub nine : List ℕ
nine = 82 ∷ 32 ∷ 57 ∷ 10 ∷ []

-- an input and all that is printed for it
pub record Example : Type 0 where
  pub input : List ℕ
  pub output : List ℕ

abbrev pub AllPrint : List Example → Type 0
AllPrint [] = Unit {0}
AllPrint (c ∷ cs) = (stream_output c.input ≡ c.output) × AllPrint cs

abbrev example : List ℕ → List ℕ → Example
example s o = record { input = s; output = o }

-- 01's example; question marks; errors of +2 and -2; no input; one byte 10 and two; an unended line; a line of 101 bytes (refused by 4) and
-- lines of 102, ended and not
abbrev pub examples : List Example
examples =
    example example_input example_output
    ∷ example erased_input erased_output
    ∷ example risen_input risen_output
    ∷ example fallen_input fallen_output
    ∷ example [] []
    ∷ example (10 ∷ []) nine
    ∷ example (10 ∷ 10 ∷ []) (nine ++ nine)
    ∷ example (49 ∷ []) nine
    ∷ example (53 ∷ 32 ∷ 49 ∷ []) (82 ∷ 32 ∷ 49 ∷ 10 ∷ [])
    ∷ example (52 ∷ 32 ∷ replicate 99 48) (82 ∷ 32 ∷ 52 ∷ 10 ∷ [])
    ∷ example (52 ∷ 32 ∷ replicate 100 48) nine
    ∷ example (52 ∷ 32 ∷ replicate 100 48 ++ 10 ∷ 49 ∷ []) (nine ++ nine)
    ∷ []
