-- `encoder::balance::complemented` meets its contract. The invariant: the symbols passed are complemented, and the others are as they were.
-- Assumes nothing.
use native.Mathlib.Omega.{arith}
use Rattle.encoder.proofs.Changing.{changed_next}
use Rattle.encoder.proofs.balance.complemented.Goals as goal

pub overflow_sub-y-in-loop-y : goal.overflow_sub-y-in-loop-y
overflow_sub-y-in-loop-y c =
    let inv = c.loop-y.invariant in
    omega (arith, changed_next inv, c.requires.below c.loop-y.y-index, c.loop-y-test.true, inv.size, c.requires.size)
