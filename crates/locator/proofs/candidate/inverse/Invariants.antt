-- `locator::candidate::inverse` meets its contract. The invariant: the product is the multiple by i, and none before it is 1.
-- Assumes nothing.
use Rattle.locator.proofs.Inverting.{NoInverseBefore}
use Rattle.locator.proofs.candidate.inverse.Given as goal

abbrev pub invariant-loop-i : goal.invariant-loop-i
invariant-loop-i l = NoInverseBefore l.q l.g l.product l.i
