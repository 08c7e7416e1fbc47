-- `fillings::fill::one_if_near` meets its contract: its test is that of the definition.
-- Assumes nothing.
use Rattle.fillings.specs.Steps.{one_if_near}
use Rattle.fillings.proofs.fill.one_if_near.Goals as goal

pub returns : goal.returns
unfolding one_if_near
returns c = rw c.near.ensures at c.then_some.ensures
