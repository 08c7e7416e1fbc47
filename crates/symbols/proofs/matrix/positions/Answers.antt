-- `symbols::matrix::positions` meets its contract: its test is that of the definition.
-- Assumes nothing.
use mathlib.Core.Path.{◌∙◌}
use native.Mathlib.Omega.{arith}
use Rattle.symbols.proofs.Counting.{positions_none, positions_some}
use Rattle.symbols.proofs.matrix.positions.Goals as goal

pub returns-then-q-eq0 : goal.returns-then-q-eq0
returns-then-q-eq0 c = (positions_none _ _ c.if-q-eq0.true, omega arith)

pub returns-else-q-eq0 : goal.returns-else-q-eq0
returns-else-q-eq0 c = (c.min.ensures ∙ positions_some _ _ c.if-q-eq0.false, omega arith)
