-- How large the changes and the error of an answer are.
-- Assumes nothing.
use Rattle.std.specs.Prelude.{List, [], ◌∷◌, ℕ, ◌≤◌, nat_abs}
use Rattle.code_theory.specs.Reading.{Change, Finding, changes_of, error_of}

-- positions up to n and symbols up to q
abbrev pub ChangesWithin : ℕ → ℕ → List Change → Type 0
ChangesWithin n q [] = Unit {0}
ChangesWithin n q (c ∷ cs) = (c.position ≤ n) × (c.symbol ≤ q) × ChangesWithin n q cs

-- and an error from -q to q
abbrev pub FindingWithin : ℕ → ℕ → Finding → Type 0
FindingWithin n q f = ChangesWithin n q (changes_of f) × (nat_abs (error_of f) ≤ q)
