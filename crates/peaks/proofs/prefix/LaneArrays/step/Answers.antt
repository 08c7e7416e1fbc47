-- `peaks::prefix::LaneArrays::step` meets its contract. The invariant: the lanes passed have made the step, and the others are as they were.
-- Assumes nothing.
use mathlib.Core.Path.{ap, ◌∙◌}
use Prim.Native.Nat.{ℕ}
use lib.ListN.{get_or}
use Rattle.peaks.specs.declared.prefix.Lane.{Lane}
use Rattle.peaks.specs.Steps.{step_lane}
use Rattle.peaks.proofs.Stepping.{lane_next, stepped_more}
use Rattle.peaks.proofs.prefix.LaneArrays.step.Goals as goal

-- The lane of a turn is still what it was at entry.
pub loop-t-preserved : goal.loop-t-preserved
loop-t-preserved c =
    let t : ℕ = c.loop-t.t in
    let a = c.args in
    let step : Lane → Lane =
    λ s. step_lane a.here s a.h (get_or a.up.now t 0) (get_or a.next.now t 0) (get_or a.tails.now t 0) (get_or a.checks.now t 0) in
    stepped_more c.loop-t.invariant c.loop-t-test.true (c.stepped-r.ensures ∙ ap step (lane_next c.loop-t.invariant))
