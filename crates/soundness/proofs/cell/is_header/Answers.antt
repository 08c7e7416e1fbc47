-- `is_header` meets its contract: a queue has bytes 2 to 103, and they are tested.
-- Assumes nothing.
use native.Mathlib.Omega.{arith}
use Rattle.queue_theory.specs.Sound.{is_header}
use Rattle.queue_theory.proofs.Lists.{size_of}
use Rattle.soundness.proofs.cell.is_header.Goals as goal

pub slice_bounds-all_zero-end : goal.slice_bounds-all_zero-end
slice_bounds-all_zero-end c = let z = size_of c.args.queue.now c.requires in omega (arith, z.long, z.some)

pub returns : goal.returns
unfolding is_header
returns c = c.all_zero.ensures
