-- `components::components` meets its contract: its tests are those of the definition, and past them the row is the profile's.
-- Assumes nothing.
use Rattle.code_theory.specs.Parameters.{edition13}
use Rattle.profiles.specs.Row.{RowOf}
use Rattle.profiles.proofs.Table.{row_found, none_found}
use Rattle.components.proofs.Lengths.{no_profile, no_fit, right_length, right_components}
use Rattle.components.proofs.components.Goals as goal
use Rattle.components.proofs.components.Goals.{In-Some}

-- the row that is found
of : (c : In-Some) → RowOf edition13 c.args.profile c.in-Some.row
of c = row_found _ _ c.row_of.ensures c.in-Some.is

pub returns-in_default : goal.returns-in_default
returns-in_default c = no_profile _ _ _ (none_found _ _ c.row_of.ensures c.in_default.is)

pub returns-then-first-row : goal.returns-then-first-row
returns-then-first-row c = no_fit _ _ _ (of (goal.at.returns-then-first-row c).In-Some) c.then-first-row.either

pub interleaved-requires : goal.interleaved-requires
interleaved-requires c =
    right_length _ c.args.first.now c.args.second.now (of (goal.at.interleaved-requires c).In-Some) c.if-first-row.false
    c.if-second-row.false

pub returns : goal.returns
returns c =
    right_components _ _ _ (of (goal.at.returns c).In-Some) c.if-first-row.false c.if-second-row.false c.interleaved.ensures
