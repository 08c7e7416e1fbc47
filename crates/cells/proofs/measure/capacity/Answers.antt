-- `capacity` meets its contract: the definition's difference is 0 where there is no cell.
-- Assumes nothing.
use Rattle.queue_theory.specs.Layout.{capacity}
use Rattle.cells.proofs.measure.capacity.Goals as goal

pub returns : goal.returns
unfolding capacity
returns c = c.saturating_sub.ensures
