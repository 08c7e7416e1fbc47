-- What a function that writes into a line's buffer leaves there.
-- Assumes nothing.
use Rattle.std.specs.Prelude.{◌≡◌, ℕ, ◌+◌, ◌≤◌, List, [], ◌∷◌, ◌++◌, length, take, drop}
use Rattle.code_theory.specs.Component.{Below}
use Rattle.code_theory.specs.Reading.{Change, changes_of, error_of}
use Rattle.code_theory.specs.Operations.{Report, refusal, failure, success}
use Rattle.lines_theory.specs.Line.{digit_byte, letter, refusal_line, changes_before, reading_line}
use Rattle.lines_theory.specs.Sizes.{FindingWithin}
use Rattle.answers.specs.declared.text.Writer.{Writer}

-- bytes stand from index at on, up to end, and all else is as it was
pub record Written (old new : List ℕ) (at end : ℕ) (bytes : List ℕ) : Type 0 where
  pub text : new ≡ take at old ++ (bytes ++ drop end old)
  pub ends : end ≡ at + length bytes
  pub fits : end ≤ length old

-- a writer has put bytes into its buffer, and stands after them
pub record Wrote (old new : Writer) (bytes : List ℕ) : Type 0 where
  pub written : Written old.out.now new.out.now old.at new.at bytes
  pub same : new.out.ghost_name ≡ old.out.ghost_name

-- the fields of a reading before its error, each with a space: profile, the kind's letter, place and sent symbol of each change
unfoldable pub heading_of : ℕ → ℕ → List Change → List ℕ
heading_of i c cs = digit_byte i ∷ 32 ∷ c ∷ 32 ∷ changes_before cs []

-- the output line from what decoding reports and leaves in its two outputs
abbrev pub shown_line : ℕ → Report → List ℕ → List ℕ → List ℕ
shown_line i (refusal n) a b = refusal_line n
shown_line i (failure t) a b = refusal_line 4
shown_line i (success f t) a b = reading_line i (letter f) (changes_of f) (error_of f) a b

-- at most two digits for a refusal's number and for a position, one for a symbol and for the error
abbrev pub Small : Report → List ℕ → List ℕ → Type 0
Small (refusal n) a b = n ≤ 99
Small (failure t) a b = Unit {0}
Small (success f t) a b = FindingWithin 99 9 f × Below 10 a × Below 10 b
