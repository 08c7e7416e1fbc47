-- Orders of refusals (01: Operations and their numbers): tests one after the other, of which the first that fails counts.
-- Assumes nothing.
use Rattle.std.specs.Prelude.{Bool, true, false, List, [], ◌∷◌, ℕ, zero, suc}

-- a test, and the number that refuses where it fails
pub record Test : Type 0 where
  pub passes : Bool
  pub number : ℕ

abbrev pub asks : Bool → ℕ → Test
asks b n = record { passes = b; number = n }

-- the number of the first test that fails; 0 where all pass
abbrev pub first_refusal : List Test → ℕ
first_refusal [] = 0
first_refusal (t ∷ ts) = elim t.passes [ true ↦ first_refusal ts | false ↦ t.number ]

-- a buffer at exit: written where no number refuses, and otherwise as it was
abbrev pub on_success {ℓ} : {A : Type ℓ} → ℕ → A → A → A
on_success zero written before = written
on_success (suc n) written before = before
