-- `decoder::message::restore` meets its contract: a near syndrome that is not zero names the symbol that is too high.
-- Assumes nothing.
use mathlib.Core.Path.{◌≡◌, sym, ◌∙◌}
use mathlib.Core.Bool.{false}
use mathlib.Core.List.{List}
use Prim.Native.Nat.{ℕ, ◌+◌, ◌-◌, ◌*◌, ◌≤◌, ◌<◌}
use native.Mathlib.Omega.{arith}
use Rattle.decoding_theory.specs.Syndromes.{zero_syndrome, column_position}
use Rattle.profiles.specs.Row.{parameters}
use Rattle.modular.proofs.Bytes.{byte_difference_lem}
use Rattle.symbols.specs.Syndromes.{rows}
use Rattle.syndromes.specs.Rows.{rows_of}
use Rattle.syndromes.proofs.FourRows.{zero_same, position_same}
use Rattle.decoder.proofs.Differencing.{short}
use Rattle.decoder.proofs.Restoring.{restored_same, lowered_some, lowered_within, restored_lowered}
use Rattle.decoder.proofs.message.restore.Goals as goal
use Rattle.decoder.proofs.message.restore.Goals.{After-is_zero, After-position, Start}

-- the test of four rows is that of the r rows
module _ (c : After-is_zero) where
  abbrev start : Start
  start = (goal.at.After-is_zero c).Start

  -- the syndrome
  abbrev S : List ℕ
  S = rows_of start.args.row (rows start.args.s)

  tested : zero_syndrome (parameters start.args.row) S ≡ c.is_zero.result
  tested = sym (zero_same _ start.requires.0.valid _ start.requires.1) ∙ sym c.is_zero.ensures

-- what is known of the position that the syndrome names
module _ (c : After-position) where
  abbrev asked : Start
  asked = start (goal.at.After-position c).After-is_zero

  is_false : zero_syndrome (parameters asked.args.row) (S (goal.at.After-position c).After-is_zero) ≡ false
  is_false = tested (goal.at.After-position c).After-is_zero ∙ c.if-is_zero.false

  position_is : c.position.result ≡ column_position (parameters asked.args.row) (S (goal.at.After-position c).After-is_zero)
  position_is = c.position.ensures ∙ position_same _ asked.requires.0.valid _ asked.requires.1

  some : 1 ≤ c.position.result
  some = lowered_some asked.requires.0 _ is_false asked.requires.2 position_is asked.requires.3

  within : 2 * c.position.result - 1 + asked.args.side < asked.args.row.balanced
  within = lowered_within asked.requires.0 _ is_false asked.requires.2 position_is asked.requires.3

  -- and fits the array
  small : 2 * c.position.result - 1 + asked.args.side < 97
  small = omega (arith, within, short asked.requires.0.valid)

pub returns-then-is_zero : goal.returns-then-is_zero
returns-then-is_zero c = restored_same (start (goal.at.returns-then-is_zero c).After-is_zero).requires.0 _ (start (goal.at.returns-then-is_zero c).After-is_zero).args.side (tested (goal.at.returns-then-is_zero c).After-is_zero ∙ c.if-is_zero.true)

pub overflow_mul-i : goal.overflow_mul-i
overflow_mul-i c = omega (arith, small (goal.at.overflow_mul-i c).After-position)

pub overflow_sub-i : goal.overflow_sub-i
overflow_sub-i c = omega (arith, some (goal.at.overflow_sub-i c).After-position)

pub overflow_add-i : goal.overflow_add-i
overflow_add-i c = omega (arith, small (goal.at.overflow_add-i c).After-position)

pub bounds-x-i : goal.bounds-x-i
bounds-x-i c = omega (arith, small (goal.at.bounds-x-i c).After-position)

pub bounds-x-i-2 : goal.bounds-x-i-2
bounds-x-i-2 c = omega (arith, small (goal.at.bounds-x-i-2 c).After-position)

pub returns : goal.returns
returns c =
    let given = (asked (goal.at.returns c).After-position).requires in
    let valid = given.0.valid in
    let below = given.0.below _ (within (goal.at.returns c).After-position) in
    let lowered = byte_difference_lem below (omega (arith, valid.sized.levels)) (omega (arith, valid.levels)) c.sub.ensures in
    restored_lowered given.0 _ (is_false (goal.at.returns c).After-position) given.2 (position_is (goal.at.returns c).After-position) given.3 lowered
