-- `peaks::rows::raised_rows` meets its contract. The invariant: the rows passed are made.
-- Assumes nothing.
use mathlib.Core.Path.{◌≡◌}
use lib.ListN.{length}
use Rattle.peaks.specs.Lanes.{RowsAre, raised_lane}
use Rattle.peaks.proofs.rows.raised_rows.Given as goal

abbrev pub invariant-loop-y : goal.invariant-loop-y
invariant-loop-y l = RowsAre (raised_lane l.q l.first l.step) l.y l.rows × (length l.rows ≡ 9)
