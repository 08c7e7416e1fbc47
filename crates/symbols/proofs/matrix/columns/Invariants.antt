-- `symbols::matrix::columns` meets its contract. The invariant: the rows of the positions passed are built, and the last of them is
-- counted.
-- Assumes nothing.
use Rattle.symbols.proofs.Counting.{Built}
use Rattle.symbols.proofs.matrix.columns.Given as goal

abbrev pub invariant-loop-i : goal.invariant-loop-i
invariant-loop-i l = Built l.q l.table l.digits l.i
