-- `is_length` meets its contract, test by test.
-- Assumes nothing.
use mathlib.Core.Path.{refl}
use Rattle.queue_theory.specs.Layout.{is_queue_length}
use Rattle.cells.proofs.measure.is_length.Goals as goal

pub returns : goal.returns
unfolding is_queue_length
returns c = refl
