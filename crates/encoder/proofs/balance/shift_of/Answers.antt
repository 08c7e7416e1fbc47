-- `encoder::balance::shift_of` meets its contract: the cases of the definition.
-- Assumes nothing.
use Rattle.encoder.proofs.Editions.{shift_18}
use Rattle.encoder.proofs.balance.shift_of.Goals as goal

pub returns-in-Of2018 : goal.returns-in-Of2018
returns-in-Of2018 c = shift_18 c.args.row c.args.s c.in-Of2018.is c.requires.1 c.requires.0.levels c.sub.ensures
