-- `locator::position::reduced` meets its contract: rows that are levels stay, others are taken mod q, and 0 stands for the digit rows
-- that the profile does not have.
-- Assumes nothing.
use Rattle.locator.proofs.Scaling.{reduced_is, levels_kept}
use Rattle.locator.proofs.position.reduced.Goals as goal

pub returns-then-has_levels : goal.returns-then-has_levels
returns-then-has_levels c =
    levels_kept _ c.requires c.args.s c.digit_row.ensures c.digit_row-2.ensures c.has_levels.ensures c.if-has_levels.true

pub returns-else-has_levels : goal.returns-else-has_levels
returns-else-has_levels c = reduced_is _ c.requires c.args.s c.digit_row.ensures c.digit_row-2.ensures c.syndrome_plus.ensures
