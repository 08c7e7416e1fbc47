-- `copy` meets its contract: at the end of the loop as much is copied as both have.
-- Assumes nothing.
use mathlib.Core.Path.{◌≡◌, ◌∙◌}
use native.Mathlib.Omega.{arith}
use Rattle.cells.proofs.Bytes.{copied_both}
use Rattle.cells.proofs.slices.copy.Goals as goal

pub returns : goal.returns
returns c =
    let to = c.args.to.now in
    let from = c.args.from.now in
    let l = c.loop-i in
    let n : l.i ≡ c.min-i-end.result = omega arith in
    l.invariant.0 ∙ copied_both to from l.i (n ∙ c.min-i-end.ensures)
