-- `locator::position::error_position` meets its contract: where q is prime, as in every profile, the two candidates are enough, and
-- syndromes count mod q.
-- Assumes nothing.
use mathlib.Core.Path.{sym, ◌∙◌, refl}
use native.Mathlib.Omega.{arith}
use Rattle.std.proofs.Common.{to_z-of_z}
use Rattle.modular_theory.proofs.Search.{holds}
use Rattle.profiles.proofs.Table.{row_found, none_found}
use Rattle.locator.proofs.Answering.{row_prime, no_profile, no_error, at_located, none_located}
use Rattle.locator.proofs.Choosing.{count_upto}
use Rattle.locator.proofs.position.error_position.Goals as goal

pub returns-in_err-row : goal.returns-in_err-row
returns-in_err-row c = rw c.from_residual.ensures (no_profile _ _ _ _ _ _ (none_found _ _ c.in_err-row.ensures refl))

pub returns-then-not-is_error : goal.returns-then-not-is_error
returns-then-not-is_error c =
    no_error _ _ _ _ _ _ (row_found _ _ c.in_ok-row.ensures refl) (to_z-of_z c.ranges.error) c.is_error.ensures c.if-not-is_error.true

pub reduced-requires : goal.reduced-requires
reduced-requires c = (row_found _ _ c.in_ok-row.ensures refl).valid

pub reduced-requires-2 : goal.reduced-requires-2
reduced-requires-2 c = (row_found _ _ c.in_ok-row.ensures refl).valid

pub invariant_of-clues : goal.invariant_of-clues
invariant_of-clues c =
    record {
      valid = (row_found _ _ c.in_ok-row.ensures refl).valid;
      first_levels = c.reduced.ensures.levels;
      second_levels = c.reduced-2.ensures.levels;
    }

pub error_index-requires : goal.error_index-requires
error_index-requires c =
    (row_prime (row_found _ _ c.in_ok-row.ensures refl), holds _ (sym c.is_error.ensures ∙ c.if-not-is_error.false))

pub returns-in_err-k : goal.returns-in_err-k
returns-in_err-k c =
    rw c.from_residual-in_err-k.ensures
    (none_located _ _ _ _ _ _ (row_found _ _ c.in_ok-row.ensures refl) (to_z-of_z c.ranges.error) c.is_error.ensures c.if-not-is_error.false
    c.reduced.ensures c.reduced-2.ensures c.in_err-k.ensures)

pub position_of-requires : goal.position_of-requires
position_of-requires c =
    let of = row_found _ _ c.in_ok-row.ensures refl in
    omega (arith, c.in_ok-k.ensures.1, count_upto c.in_ok-row.row c.args.odd, of.valid.length)

pub returns : goal.returns
returns c =
    rw c.position_of.ensures
    (at_located _ _ _ _ _ _ (row_found _ _ c.in_ok-row.ensures refl) (to_z-of_z c.ranges.error) c.is_error.ensures c.if-not-is_error.false
    c.reduced.ensures c.reduced-2.ensures c.in_ok-k.ensures)
