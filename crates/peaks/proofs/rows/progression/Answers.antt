-- `peaks::rows::progression` meets its contract. The invariant: the lanes passed have so many steps added, mod q.
-- Assumes nothing.
use Rattle.modular.proofs.Filling.{filled_more}
use Rattle.peaks.proofs.Tables.{steps_more}
use native.Mathlib.Omega.{arith}
use Rattle.peaks.proofs.rows.progression.Goals as goal

pub loop-lane-preserved : goal.loop-lane-preserved
loop-lane-preserved c =
    let inv = c.loop-lane.invariant in
    let a = c.args in (
      filled_more inv.0 (omega (arith, c.loop-lane-test.true, inv.0.size)) inv.1,
      steps_more a.q a.first a.step c.loop-lane.lane-index inv.1 c.raised-y.ensures.0,
      c.raised-y.ensures.1,
    )
