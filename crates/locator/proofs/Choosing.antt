-- The index of the error, by its candidates and their tests.
-- Assumes nothing.
use mathlib.Core.Path.{◌≡◌, refl, sym, ap, ◌∙◌}
use mathlib.Core.Bool.{Bool, true, false, not}
use mathlib.Core.List.{List}
use Prim.Native.Nat.{ℕ, ◌+◌, ◌≤◌, ◌<◌}
use native.Mathlib.Nat.{not-le_of_lt}
use native.Mathlib.Omega.{arith}
use lib.Dec.{T, ltb, ltb→lt}
use lib.IntN.{ℤ}
use Rattle.std.proofs.Common.{Some, None}
use Rattle.std.specs.Bool.{then_some}
use Rattle.modular_theory.specs.Residue.{Prime}
use Rattle.modular_theory.proofs.Search.{holds, and_left, and_right}
use Rattle.code_theory.specs.Parameters.{Parameters, Sized}
use Rattle.code_theory.proofs.Columns.{q_positive}
use Rattle.decoding_theory.specs.Decoded.{position_count}
use Rattle.profiles.specs.declared.row.Row.{Row}
use Rattle.profiles.specs.Row.{parameters}
use Rattle.locating_theory.specs.ErrorPosition.{is_error, gain_without, near_without}
use Rattle.locating_theory.specs.Candidates.{inverse_of, candidate, holds_with, choose, syndrome_of, located}
use Rattle.locating_theory.specs.Claims.{UnitError}
use Rattle.locating_theory.proofs.Candidates.{located_error}
use Rattle.locating_theory.proofs.Gain.{error_within, error_unit, gain_unit}
use Rattle.locating_theory.proofs.Index.{index_is}
use Rattle.locating_theory.proofs.Inverse.{inverse_below}
use Rattle.locator.specs.Steps.{Inverse, LocatedIndex}

-- the choice where neither passes
choose_neither : (t : ℕ → Bool) (k l none : ℕ) → t k ≡ false → t l ≡ false → choose t k l none ≡ none
unfolding choose
choose_neither t k l none f h = rw (f, choose, h)

-- the code reads the error e as z, and the components gain g without it
module _ (p : Parameters) (sized : Sized p) (prime : Prime p.q) {e z : ℤ} (read : z ≡ e) (error : T (is_error p.q e)) {g : ℕ}
    (gain : g ≡ gain_without p z) where
  gained : g ≡ gain_without p e
  gained = gain ∙ ap (gain_without p) read

  unit : UnitError p e
  unit = error_unit prime e error

  -- which has an inverse
  pub some_inverse : Inverse p.q g None → ⊥
  some_inverse h =
      not-le_of_lt (inverse_below p.q g prime.large (rw gained (gain_unit p (q_positive p sized) e (error_within p.q e error) unit))) h

  module _ (b : Bool) (S S' : List ℕ) where
    -- a candidate that passes is the index
    pub index_holds : (k : ℕ) {t : Bool} → t ≡ holds_with p b g S S' k → t ≡ true → LocatedIndex p b e S S' (Some k)
    unfolding holds_with near_without
    index_holds k h t =
        let test : T (holds_with p b (gain_without p e) S S' k) = holds _ (rw (← gained) (sym h ∙ t)) in
        let within : k < position_count p b = ltb→lt _ _ (and_left (ltb k (position_count p b)) (near_without p b e S S' k) test) in
        let near = and_right (ltb k (position_count p b)) (near_without p b e S S' k) test in
        (sym (index_is p b e S S' sized (error_within p.q e error) unit k within near), within)

    -- the two candidates, in the order o, of which the first does not pass
    pub index_last : {i : ℕ} → i ≡ inverse_of p.q g → (o : Bool)
        → {k l : ℕ} → k ≡ candidate p o b i (syndrome_of o S S') → l ≡ candidate p (not o) b i (syndrome_of (not o) S S')
        → {t : Bool} → t ≡ holds_with p b g S S' k → t ≡ false → (t' : Bool) → t' ≡ holds_with p b g S S' l
        → LocatedIndex p b e S S' (then_some t' l)
    unfolding located
    index_last inverse o {k} {l} first second h f true h' = index_holds l h' refl
    index_last {i} inverse o {k} {l} first second h f false h' =
        let chosen : choose (holds_with p b g S S') k l (position_count p b) ≡ located o p b e S S' = rw (first, second, inverse, gained) refl in
        let none = choose_neither (holds_with p b g S S') k l (position_count p b) (sym h ∙ f) (sym h') in
        omega (arith, sym none ∙ chosen ∙ located_error o p sized prime b e error S S')

-- how many positions a parity has at most
pub count_upto : (t : Row) (b : Bool) → position_count (parameters t) b ≤ t.n + 1
count_upto t true = omega arith
count_upto t false = omega arith
