-- The numbers that refuse a call in a profile before a word is encoded or read, by a row's numbers (01: Write and Read, numbers 2 and 3;
-- 02, T-06: number 14, T-01: number 11), and what a received word is that none refuses.
-- Assumes nothing.
use Rattle.std.specs.Prelude.{◌≡◌, ℕ, ◌+◌, ◌<◌, ◌&&◌, List, [], ◌∷◌, length, drop, ◌==◌, nat_le, Option, Some, None, Result, Ok, Err}
use Rattle.code_theory.specs.Refusal.{asks, first_refusal, on_success}
use Rattle.code_theory.specs.Component.{symbols_below, levels_or_erasures}
use Rattle.code_theory.specs.LineRule.{is_line_rule}
use Rattle.code_theory.specs.Erasures.{erasures, erased_indices, most_erasures}
use Rattle.profiles.specs.declared.row.Row.{Row}
use Rattle.refusals.specs.declared.Refusal.{Refusal}
use Rattle.refusals.specs.Number.{number_of}
use Rattle.profiles.specs.declared.erased.Erasures.{Erasures}
use Rattle.profiles.specs.declared.erased.Erasures.TheVariants.{Whole, One, Two}
use Rattle.profiles.specs.Row.{parameters}

-- line rule r, messages a and b, an output of l symbols
unfoldable pub encode_number : Row → ℕ → List ℕ → List ℕ → ℕ → ℕ
encode_number t r a b l =
    first_refusal
    (asks (is_line_rule r) 14
    ∷ asks (length a == t.message && length b == t.message && l == t.codeword) 2
    ∷ asks (symbols_below t.q a && symbols_below t.q b) 3
    ∷ [])

-- received word u, outputs of k and l symbols
unfoldable pub decode_number : Row → List ℕ → ℕ → ℕ → ℕ
decode_number t u k l =
    first_refusal
    (asks (length u == t.codeword && k == t.message && l == t.message) 2
    ∷ asks (levels_or_erasures t.q u) 3
    ∷ asks (nat_le (erasures u) (most_erasures (parameters t))) 11
    ∷ [])

-- where `most` symbols may be erased, and only this is left to test
abbrev pub erasure_number : ℕ → List ℕ → ℕ
erasure_number most u = first_refusal (asks (nat_le (erasures u) most) 11 ∷ [])

-- the indices of the erased symbols
abbrev pub indices : Erasures → List ℕ
indices Whole = []
indices (One i) = i ∷ []
indices (Two i j) = i ∷ j ∷ []

-- what a received word is: the number that refuses it, or 0, and, where none does, the indices of its erased symbols
pub record Screening : Type 0 where
  pub number : ℕ
  pub indices : List ℕ

abbrev pub screening : ℕ → List ℕ → Screening
screening n is = record { number = n; indices = on_success n is [] }

-- what the code says of it
abbrev pub screened : Result Erasures Refusal → Screening
screened (Ok e) = record { number = 0; indices = indices e }
screened (Err r) = record { number = number_of r; indices = [] }

-- the indices of the erased symbols from index i on
abbrev pub erased_from : ℕ → List ℕ → List ℕ
erased_from i u = erased_indices i (drop i u)

-- r is the index of the first of them, if there is one
abbrev pub NextErased : List ℕ → ℕ → Option ℕ → Type 0
NextErased u i (Some r) = (r < length u) × (erased_from i u ≡ r ∷ erased_from (r + 1) u)
NextErased u i None = erased_from i u ≡ []
