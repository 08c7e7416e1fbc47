-- `link` meets its contract. The invariant: what is left to link makes of the queue what all links make of it at the start.
-- Assumes nothing.
use mathlib.Core.Path.{sym, subst, ◌∙◌}
use Prim.Native.Nat.{◌+◌, ◌*◌}
use native.Mathlib.Omega.{arith}
use lib.ListN.{length-set}
use Rattle.queue_theory.specs.Layout.{cell_size, Size}
use Rattle.queue_theory.proofs.Lists.{size_of}
use Rattle.cells.proofs.Cells.{link_on}
use Rattle.cells.proofs.link.Goals as goal
use Rattle.cells.proofs.link.Goals.{In-loop-i}

size : (c : In-loop-i) → Size c.args.queue.now c.capacity-i-end.result
size c = subst (Size c.args.queue.now) (sym c.capacity-i-end.ensures) (size_of c.args.queue.now c.requires)

pub overflow_mul-queue : goal.overflow_mul-queue
overflow_mul-queue c = omega (arith, (size (goal.at.overflow_mul-queue c).In-loop-i).few)

pub overflow_cast-queue : goal.overflow_cast-queue
overflow_cast-queue c = omega (arith, (size (goal.at.overflow_cast-queue c).In-loop-i).few)

pub bounds-queue-i : goal.bounds-queue-i
bounds-queue-i c = omega (arith, (size (goal.at.bounds-queue-i c).In-loop-i).long)

pub loop-i-preserved : goal.loop-i-preserved
loop-i-preserved c =
    let l = c.loop-i in (
      l.invariant.0 ∙ link_on l.queue l.i c.capacity-i-end.result c.loop-i-test.true,
      length-set l.queue (l.i * cell_size) (l.i + 1) ∙ l.invariant.1,
    )
