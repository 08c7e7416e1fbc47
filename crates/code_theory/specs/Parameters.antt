-- The parameters of the code, and the numbers that follow from them.
-- Assumes nothing.
use Rattle.std.specs.Prelude.{◌≡◌, Bool, true, false, ◌||◌, ℕ, ◌+◌, ◌-◌, ◌*◌, ◌/◌, ◌%◌, ◌^◌, ◌≤◌, ◌<◌, eqb, pos, ◌-ℤ◌, ◌*ℤ◌}
use Rattle.modular_theory.specs.Residue.{remainder}

-- 02, T-03: the edition that a box follows, of 2013 (01) or of 2018
pub data Edition : Type 0 where
  edition13 edition18 : Edition

-- the number is an edition's
abbrev pub is_edition : ℕ → Bool
is_edition k = eqb k 13 || eqb k 18

-- the edition of that number; 13 also where the number is none's
abbrev pub edition_of : ℕ → Edition
edition_of k = elim (eqb k 18) [ true ↦ edition18 | false ↦ edition13 ]

pub record Parameters : Type 0 where
  -- the number of levels
  pub q : ℕ
  -- the check symbols of a component (01: of a half)
  pub r : ℕ
  -- the length of a component
  pub n : ℕ
  pub edition : Edition

-- the same numbers in an edition
abbrev pub in_edition : Edition → Parameters → Parameters
in_edition e p = record { q = p.q; r = p.r; n = p.n; edition = e }

-- 01: k, the length of a message (01: user word)
abbrev pub message_length : Parameters → ℕ
message_length p = p.n - p.r

-- 01: m, the length of the word that is balanced
abbrev pub balanced_length : Parameters → ℕ
balanced_length p = 2 * p.n + 1

-- 01: N, the symbols on the line
abbrev pub codeword_length : Parameters → ℕ
codeword_length p = balanced_length p + 2

-- 01: middle
unfoldable pub balancing_value : ℕ → ℕ → ℕ
balancing_value q m = m * (q - 1) / 2

-- 01: δ; 2 - m is below 0, so it is an integer
unfoldable pub delta : ℕ → ℕ → ℕ
delta q m = remainder (pos ((q - 1) / 2) *ℤ (pos 2 -ℤ pos m)) q

-- what the proofs ask of the parameters, besides that q is prime
pub record Sized (p : Parameters) : Type 0 where
  pub odd : p.q % 2 ≡ 1
  pub levels : 3 ≤ p.q
  -- so the columns 1 to n differ
  pub columns : p.n < p.q ^ (p.r - 1)
  -- so a component holds the check positions
  pub second : 2 ≤ p.n
  pub highest : p.q ^ (p.r - 2) ≤ p.n
