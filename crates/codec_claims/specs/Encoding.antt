-- Demand 2 of encode, by its contract alone: whatever answer and output the contract allows are those that the demand states.
-- Assumes nothing.
use Rattle.std.specs.Prelude.{◌≡◌, Bool, true, false, ◌&&◌, List, ℕ, T, eqb, length, Result}
use Rattle.code_theory.specs.Parameters.{is_edition, Parameters, message_length, codeword_length}
use Rattle.code_theory.specs.Component.{symbols_below}
use Rattle.code_theory.specs.Balance.{balanced}
use Rattle.code_theory.specs.Codeword.{interleaved, with_checks, codeword, carried}
use Rattle.code_theory.specs.LineRule.{LineRule, rule1, rule2, is_line_rule, line_rule_of, balanced_by}
use Rattle.code_theory.specs.Profiles.{is_profile, profile, profile_in}
use Rattle.code_theory.specs.Operations.{done, refused_by}
use Rattle.code_theory.specs.Claims.{Balanced, LeastPeak}
use Rattle.refusals.specs.declared.Refusal.{Refusal}
use Rattle.encoder.specs.Answer.{encoded_outcome, EncodeAllows}

-- the lengths of the messages and of the output are the profile's
abbrev pub encode_lengths_fit : ℕ → List ℕ → List ℕ → ℕ → Bool
encode_lengths_fit i a b l =
    eqb (length a) (message_length (profile i)) && eqb (length b) (message_length (profile i)) && eqb l (codeword_length (profile i))

-- the symbols of the messages are below the profile's levels
abbrev pub levels_fit : ℕ → List ℕ → List ℕ → Bool
levels_fit i a b = symbols_below (profile i).q a && symbols_below (profile i).q b

-- a choice balances x, and the earliest is taken (01), so that rule 1's w is that one's; 02: under rule 2 the earliest of those with the
-- least peak
abbrev pub Takes : LineRule → Parameters → List ℕ → Type 0
Takes rule1 p x = Balanced p x × (balanced_by rule1 p x ≡ balanced p x)
Takes rule2 p x = LeastPeak p x

-- u is the word that 01 asks for, by line rule l (02, T-06)
pub record WordOf (e i l : ℕ) (a b u : List ℕ) : Type 0 where
  pub choice : Takes (line_rule_of l) (profile_in e i) (interleaved (profile_in e i) a b)
  -- w of that choice, α, β
  pub word : u ≡ with_checks (profile_in e i).q (balanced_by (line_rule_of l) (profile_in e i) (interleaved (profile_in e i) a b))
  pub is_codeword : T (codeword (profile_in e i) u)
  -- the pair that it carries
  pub first : carried (profile_in e i) true u ≡ a
  pub second : carried (profile_in e i) false u ≡ b

-- a pair of the right lengths and levels is written, by either rule
abbrev pub EncodeWrites : Type 0
EncodeWrites =
    (e i l : ℕ) (a b : List ℕ) (r : Result Unit Refusal) (out out' : List ℕ) → EncodeAllows e i l a b r out out'
    → T (is_edition e) → T (is_profile i) → T (is_line_rule l) → T (encode_lengths_fit i a b (length out)) → T (levels_fit i a b)
    → (encoded_outcome r ≡ done) × WordOf e i l a b out'

-- any other call is refused by the first number that applies, and leaves the output
abbrev pub RefusedBy : ℕ → Result Unit Refusal → List ℕ → List ℕ → Type 0
RefusedBy k r out out' = (encoded_outcome r ≡ refused_by k) × (out' ≡ out)

pub record RefusesEncoding (e i l : ℕ) (a b : List ℕ) (r : Result Unit Refusal) (out out' : List ℕ) : Type 0 where
  pub by_12 : is_edition e ≡ false → RefusedBy 12 r out out'
  pub by_1 : T (is_edition e) → is_profile i ≡ false → RefusedBy 1 r out out'
  pub by_14 : T (is_edition e) → T (is_profile i) → is_line_rule l ≡ false → RefusedBy 14 r out out'
  pub by_2 : T (is_edition e) → T (is_profile i) → T (is_line_rule l) → encode_lengths_fit i a b (length out) ≡ false → RefusedBy 2 r out out'
  pub by_3 : T (is_edition e) → T (is_profile i) → T (is_line_rule l) → T (encode_lengths_fit i a b (length out)) → levels_fit i a b ≡ false
      → RefusedBy 3 r out out'

abbrev pub EncodeRefuses : Type 0
EncodeRefuses =
    (e i l : ℕ) (a b : List ℕ) (r : Result Unit Refusal) (out out' : List ℕ) → EncodeAllows e i l a b r out out'
    → RefusesEncoding e i l a b r out out'
