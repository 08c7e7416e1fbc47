-- `lines::start` meets its contract.
-- Assumes nothing.
use Rattle.std.proofs.Common.{refl}
use Rattle.lines.specs.States.{model_of}
use Rattle.lines.proofs.start.Goals as goal

pub returns : goal.returns
unfolding model_of
returns c = rw (c.empty.ensures, c.none.ensures) refl
