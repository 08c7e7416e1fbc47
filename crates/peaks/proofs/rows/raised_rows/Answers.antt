-- `peaks::rows::raised_rows` meets its contract. The invariant: the rows passed are made.
-- Assumes nothing.
use mathlib.Core.Path.{◌≡◌}
use Prim.Native.Nat.{ℕ, ◌+◌}
use lib.ListN.{set, length-set}
use Rattle.peaks.specs.Lanes.{RowsAre, raised_lane}
use Rattle.peaks.proofs.Tables.{raised_lanes, rows_more}
use native.Mathlib.Omega.{arith}
use Rattle.peaks.proofs.rows.raised_rows.Goals as goal
use Rattle.peaks.proofs.rows.raised_rows.Goals.{After-raised_row}

-- the rows with that of a turn, y
made : (c : After-raised_row) → {n y : ℕ} → n ≡ c.loop-y.y + 1 → y ≡ c.loop-y.y
    → RowsAre (raised_lane c.args.q c.args.first c.args.step) n (set c.loop-y.rows y c.raised_row.result)
made c e is =
    let a = c.args in
    rw (e, is)
    (rows_more c.loop-y.invariant.0 (omega (arith, c.loop-y.invariant.1, c.loop-y-test.true, c.requires.0))
    (raised_lanes a.q a.first a.step c.progression-symbols.ensures c.loop-y.y c.raised_row.ensures))

pub loop-y-preserved : goal.loop-y-preserved
loop-y-preserved c = (made (goal.at.loop-y-preserved c).After-raised_row (omega arith) c.from.ensures, simp length-set c.loop-y.invariant.1)

pub returns-2 : goal.returns-2
returns-2 c = made (goal.at.returns-2 c).After-raised_row (omega arith) c.from.ensures
