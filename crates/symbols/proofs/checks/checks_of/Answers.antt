-- `symbols::checks::checks_of` meets its contract: a remainder for each of the two weights.
-- Assumes nothing.
use Rattle.std.proofs.Common.{rules}
use Rattle.symbols.specs.Weight.{checks_of}
use Rattle.symbols.proofs.checks.checks_of.Goals as goal

pub returns : goal.returns
unfolding checks_of
returns c = search rules
