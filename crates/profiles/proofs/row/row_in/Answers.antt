-- `profiles::row::row_in` meets its contract: one test, computed over the table, says of each row that it is its number's.
-- Assumes nothing.
use Rattle.std.proofs.Common.{◌≤◌, T, arith}
use Rattle.modular_theory.proofs.Search.{holds}
use Rattle.code_theory.specs.Profiles.{is_profile}
use Rattle.profiles.proofs.Table.{in_range_lem, lookup_found, lookup_none}
use Rattle.profiles.proofs.row.row_in.Goals as goal
use Rattle.profiles.proofs.row.row_in.Goals.{Else-not-profile}

-- past the test the number is a profile's
known : (c : Else-not-profile) → T (is_profile c.args.profile)
known c = holds (is_profile c.args.profile) (c.if-not-profile.false)

range : (c : Else-not-profile) → (1 ≤ c.args.profile) × (c.args.profile ≤ 4)
range c = in_range_lem _ (known c)

pub returns-then-not-profile : goal.returns-then-not-profile
returns-then-not-profile c = lookup_none _ _ (c.if-not-profile.true)

pub overflow_sub-i : goal.overflow_sub-i
overflow_sub-i c = omega (arith, range (goal.at.overflow_sub-i c).Else-not-profile)

pub offset_bounds-rows-i : goal.offset_bounds-rows-i
offset_bounds-rows-i c = omega (arith, range (goal.at.offset_bounds-rows-i c).Else-not-profile)

pub bounds-rows-i : goal.bounds-rows-i
bounds-rows-i c = omega (arith, range (goal.at.bounds-rows-i c).Else-not-profile)

pub returns : goal.returns
returns c = lookup_found _ _ (known (goal.at.returns c).Else-not-profile) _ c.widened.ensures
