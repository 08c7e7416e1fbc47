-- `locator::candidate::inverse` meets its contract: another multiple, and it is not 1.
-- Assumes nothing.
use Rattle.locator.proofs.Inverting.{next_multiple}
use Rattle.locator.proofs.candidate.inverse.Goals as goal

pub loop-i-preserved : goal.loop-i-preserved
loop-i-preserved c =
    let (some, levels, upto) = c.requires in
    next_multiple c.loop-i.invariant levels upto c.if-product-eq1.false c.add-product.ensures
