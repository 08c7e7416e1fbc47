-- The position of an error in a profile of an edition, by the profile's row and reduced syndromes.
-- Assumes nothing.
use mathlib.Core.Path.{◌≡◌, refl, sym, ap, ◌∙◌}
use mathlib.Core.Bool.{Bool, true, false}
use mathlib.Core.List.{List}
use Prim.Native.Nat.{ℕ, ◌+◌, ◌≤◌}
use lib.Dec.{T}
use lib.IntN.{ℤ}
use borrow.Author.Tests.{le-ltb}
use Rattle.std.proofs.Common.{Some, None}
use Rattle.modular_theory.specs.Residue.{Prime}
use Rattle.modular_theory.proofs.Search.{holds}
use Rattle.code_theory.specs.Parameters.{Edition, Parameters, in_edition}
use Rattle.code_theory.specs.Profiles.{is_profile, profile}
use Rattle.code_theory.proofs.Profiles.{profiles_fit, profile_none}
use Rattle.decoding_theory.specs.Decoded.{position_count}
use Rattle.decoding_theory.specs.Syndromes.{index}
use Rattle.profiles.specs.declared.row.Row.{Row}
use Rattle.profiles.specs.Row.{parameters, RowOf}
use Rattle.profiles.proofs.Table.{levels_are}
use Rattle.syndromes.specs.Rows.{rows_among, rows_of}
use Rattle.locating_theory.specs.ErrorPosition as model
use Rattle.locating_theory.specs.ErrorPosition.{is_error, error_index, at, nowhere, error_position}
use Rattle.locating_theory.proofs.Position.{position_of_no_error, position_found}
use Rattle.locating_theory.proofs.Reduced.{Reduced, position_reduced}
use Rattle.locator.specs.Steps.{ReducedRows, LocatedIndex}
use Rattle.locator.proofs.Erring.{no_levels}

-- a profile's row has a prime number of levels
pub row_prime : {o : Edition} {i : ℕ} {t : Row} → RowOf o i t → Prime t.q
row_prime {o} {i} of = rw (levels_are of) (profiles_fit.0 13 i of.known).1

-- s and s' are four rows of each syndrome
module _ (o : Edition) (i : ℕ) (odd : Bool) (e : ℤ) (s s' : List ℕ) where
  abbrev answer : model.Location
  answer = error_position (in_edition o (profile i)) odd e (rows_among (profile i).r s) (rows_among (profile i).r s')

  pub no_profile : is_profile i ≡ false → nowhere ≡ answer
  no_profile h =
      sym (position_of_no_error (in_edition o (profile i)) odd e (rows_among (profile i).r s) (rows_among (profile i).r s')
      (no_levels e (ap (λ (p : Parameters). p.q) (profile_none i h))))

  module _ {t : Row} (of : RowOf o i t) where
    of_row : error_position (parameters t) odd e (rows_of t s) (rows_of t s') ≡ answer
    unfolding rows_of rows_among
    of_row = ap (λ (p : Parameters). error_position p odd e (rows_among p.r s) (rows_among p.r s')) of.same

    reduced : {s d : List ℕ} → ReducedRows t s d → Reduced (parameters t) (rows_of t d) (rows_of t s)
    reduced a = record { row = a.row }

    -- the code reads the error as z, and tests it
    module _ {z : ℤ} (read : z ≡ e) {tested : Bool} (test : tested ≡ is_error t.q z) where
      test_is : is_error t.q e ≡ tested
      test_is = sym (test ∙ ap (is_error t.q) read)

      pub no_error : tested ≡ false → nowhere ≡ answer
      no_error h = sym (position_of_no_error (parameters t) odd e (rows_of t s) (rows_of t s') (test_is ∙ h)) ∙ of_row

      module _ (h : tested ≡ true) {d d' : List ℕ} (a : ReducedRows t s d) (a' : ReducedRows t s' d') where
        error : T (is_error t.q e)
        error = holds _ (test_is ∙ h)

        reduced_answer : error_position (parameters t) odd e (rows_of t d) (rows_of t d') ≡ answer
        reduced_answer = position_reduced (reduced a) (reduced a') odd e ∙ of_row

        pub at_located : {k : ℕ} → LocatedIndex (parameters t) odd z (rows_of t d) (rows_of t d') (Some k) → at (index odd k + 1) ≡ answer
        at_located {k} f =
            let (is, within) = rw read at f in
            rw is (sym (position_found (parameters t) odd e (rows_of t d) (rows_of t d') error (rw is at within))) ∙ reduced_answer

        pub none_located : LocatedIndex (parameters t) odd z (rows_of t d) (rows_of t d') None → nowhere ≡ answer
        unfolding error_position
        none_located f =
            let none : position_count (parameters t) odd ≤ error_index (parameters t) odd e (rows_of t d) (rows_of t d') = rw read at f in
            let is : is_error t.q e ≡ true = test_is ∙ h in
            rw (is, le-ltb _ _ none, error_position) refl ∙ reduced_answer
