-- `differences::neighbour_difference` meets its contract: it is that of `sub`, by the direction.
-- Assumes nothing.
use Rattle.std.proofs.Common.{rules}
use Rattle.differences.specs.Overlaid.{difference_of}
use Rattle.differences.proofs.neighbour_difference.Goals as goal

pub returns-then-backward : goal.returns-then-backward
unfolding difference_of
returns-then-backward c = search rules

pub returns-else-backward : goal.returns-else-backward
unfolding difference_of
returns-else-backward c = search rules
