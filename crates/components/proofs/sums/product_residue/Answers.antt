-- `components::sums::product_residue` meets its contract: 4q, 2q and q are taken off where they can be, and the product is below 8q.
-- Assumes nothing.
use Rattle.components.proofs.PartialSums.{taken_thrice}
use Rattle.components.proofs.sums.product_residue.Goals as goal

pub returns : goal.returns
returns c =
    taken_thrice _ _ c.requires.1 c.less_once.ensures c.less_once-2.ensures c.less_once-3.ensures
