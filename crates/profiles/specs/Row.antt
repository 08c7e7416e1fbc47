-- What the rows of the table of profiles hold.
-- Assumes nothing.
use Rattle.std.specs.Prelude.{◌≡◌, ℕ, ◌-◌, ◌≤◌, true, false, T, ◌⊎◌, List, [], ◌∷◌, slice_index_or, Option, Some, None}
use Rattle.std.proofs.Common.{inl, inr}
use Rattle.code_theory.specs.Parameters.{Edition, Parameters, in_edition, Sized, message_length, balanced_length, codeword_length}
use Rattle.code_theory.specs.Parameters.{balancing_value, delta}
use Rattle.code_theory.specs.Profiles.{row, is_profile, profile, table}
use Rattle.profiles.specs.declared.edition.Edition as declared
use Rattle.profiles.specs.declared.row.Row.{Row}
use Rattle.profiles.specs.declared.row.Entry.{Entry}
use Rattle.profiles.specs.Edition.{edition_is}

abbrev pub parameters : Row → Parameters
parameters t = in_edition (edition_is t.edition) (row t.q t.r t.n)

-- a row's numbers in the order of 01's table, without the profile's own
abbrev pub numbers : Row → List ℕ
numbers t = t.q ∷ t.r ∷ t.n ∷ t.message ∷ t.balanced ∷ t.codeword ∷ t.target ∷ t.delta ∷ []

-- the same of a row as the table has it
abbrev pub entries : Entry → List ℕ
entries e = e.q ∷ e.r ∷ e.n ∷ e.message ∷ e.balanced ∷ e.codeword ∷ e.target ∷ e.delta ∷ []

-- t is that row in the edition e
pub record Widened (o : declared.Edition) (e : Entry) (t : Row) : Type 0 where
  pub edition : t.edition ≡ o
  pub are : numbers t ≡ entries e

-- what a number was looked up as: the edition and the row of 01's table, or 01's number 1
abbrev pub looked_up : ℕ → Option Row → ℕ ⊎ (Edition × List ℕ)
looked_up i (Some t) = inr (edition_is t.edition, i ∷ numbers t)
looked_up i None = inl 1

-- the edition o and 01's table at a number, or 01's number 1 where the number is no profile's
unfoldable pub table_at : Edition → ℕ → ℕ ⊎ (Edition × List ℕ)
table_at o i = elim (is_profile i) [ true ↦ inr (o, slice_index_or table (i - 1) []) | false ↦ inl 1 ]

-- the derived columns follow from q, r and n, and these fit the arrays and the bytes that the code has for them
pub record Valid (t : Row) : Type 0 where
  pub sized : Sized (parameters t)
  pub levels : t.q ≤ 15
  pub checks : t.r ≤ 4
  pub length : t.n ≤ 48
  pub message : t.message ≡ message_length (parameters t)
  pub balanced : t.balanced ≡ balanced_length (parameters t)
  pub codeword : t.codeword ≡ codeword_length (parameters t)
  pub target : t.target ≡ balancing_value t.q t.balanced
  pub delta : t.delta ≡ delta t.q t.balanced

-- the row of profile i in the edition o
pub record RowOf (o : Edition) (i : ℕ) (t : Row) : Type 0 where
  pub known : T (is_profile i)
  pub same : parameters t ≡ in_edition o (profile i)
  pub valid : Valid t
