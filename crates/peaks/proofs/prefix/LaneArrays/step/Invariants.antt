-- `peaks::prefix::LaneArrays::step` meets its contract. The invariant: the lanes passed have made the step, and the others are as they were.
-- Assumes nothing.
use lib.ListN.{get_or}
use Rattle.peaks.specs.Steps.{step_lane, lane_at}
use Rattle.peaks.proofs.Stepping.{SteppedTo}
use Rattle.peaks.proofs.prefix.LaneArrays.step.Given as goal

abbrev pub invariant-loop-t : goal.invariant-loop-t
invariant-loop-t l =
    SteppedTo
    (λ k. step_lane l.here (lane_at l.initial.self k) l.h (get_or l.up k 0) (get_or l.next k 0) (get_or l.tails k 0) (get_or l.checks k 0))
    l.initial.self l.self l.t
