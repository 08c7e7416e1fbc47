-- `symbols::matrix::columns` meets its contract. The invariant: the rows of the positions passed are built, and the last of them is
-- counted.
-- Assumes nothing.
use mathlib.Core.Path.{◌≡◌, ◌∙◌}
use native.Mathlib.Omega.{arith}
use Rattle.symbols.proofs.Counting.{built_digits, built_more, built_all, positions_levels}
use Rattle.symbols.proofs.matrix.columns.Goals as goal

pub next-column-requires : goal.next-column-requires
next-column-requires c =
    built_digits c.loop-i.invariant (positions_levels _ _ c.positions-i-end.ensures.0 c.loop-i-test.true)

pub loop-i-preserved : goal.loop-i-preserved
loop-i-preserved c = built_more c.loop-i.invariant (omega arith) c.next-column.ensures

pub returns : goal.returns
returns c =
    let i : c.loop-i.i ≡ c.positions-i-end.result = omega arith in
    built_all c.loop-i.invariant _ (i ∙ c.positions-i-end.ensures.0)
