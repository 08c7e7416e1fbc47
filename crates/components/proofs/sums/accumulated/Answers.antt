-- `components::sums::accumulated` meets its contract: with nine levels at most nothing passes 255, and the sum is below twice q.
-- Assumes nothing.
use Rattle.components.proofs.PartialSums.{accumulated_once}
use Rattle.components.proofs.sums.accumulated.Goals as goal

pub returns : goal.returns
returns c = accumulated_once _ _ c.requires.1 c.product_residue-product.ensures c.less_once.ensures
