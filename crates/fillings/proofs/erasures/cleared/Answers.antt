-- `fillings::erasures::cleared` meets its contract. The invariant: the symbols passed are cleared, and the others as in the word.
-- Assumes nothing.
use Rattle.fillings.proofs.Clearing.{cleared_none, cleared_more, cleared_all}
use Rattle.fillings.proofs.erasures.cleared.Goals as goal

pub loop-x-init : goal.loop-x-init
loop-x-init c = cleared_none _ c.min-end.ensures c.copy_from_slice.ensures.after

pub loop-x-preserved : goal.loop-x-preserved
loop-x-preserved c = cleared_more c.loop-x.invariant c.loop-x-test.true c.unless_erased.ensures

pub returns : goal.returns
returns c = cleared_all c.loop-x.invariant c.loop-x-test.false
