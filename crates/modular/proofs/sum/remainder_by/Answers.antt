-- `modular::sum::remainder_by` meets its contract: what the quotient leaves is the remainder, or q more.
-- Assumes nothing.
use Rattle.std.proofs.Common.{◌≤◌, arith}
use Rattle.modular.proofs.Dividing.{quotient_fits, left_small, left_kept, left_wrapped}
use Rattle.modular.proofs.sum.remainder_by.Goals as goal

pub overflow_sub-left : goal.overflow_sub-left
overflow_sub-left c = rw (c.from.ensures, c.from-2.ensures) (quotient_fits c.requires.0 c.requires.2 (omega arith))

pub overflow_cast-result-else-left-q : goal.overflow_cast-result-else-left-q
overflow_cast-result-else-left-q c =
    let narrow : c.args.sum ≤ 65535 = omega arith in
    rw (c.from.ensures, c.from-2.ensures) (record { fits = omega (arith, left_small c.requires.0 c.requires.2 narrow) })

pub returns-then-left-q : goal.returns-then-left-q
returns-then-left-q c =
    rw (c.from.ensures, c.from-2.ensures)
    (left_kept c.requires.0 c.requires.2 (omega arith) (rw (c.from.ensures, c.from-2.ensures) at c.if-left-q.true))

pub returns-else-left-q : goal.returns-else-left-q
returns-else-left-q c =
    rw (c.from.ensures, c.from-2.ensures)
    (left_wrapped c.requires.0 c.requires.2 (omega arith) (rw (c.from.ensures, c.from-2.ensures) at c.if-left-q.false))
