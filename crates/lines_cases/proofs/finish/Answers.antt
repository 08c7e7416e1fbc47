-- `lines_cases::finish` is safe: what a call put out is within its output.
-- Assumes nothing.
use Rattle.std.proofs.Common.{◌≤◌, length, sym, arith, length-take-le}
use Rattle.lines.specs.States.{model_of}
use Rattle.lines_theory.proofs.Progress.{FinishCall, finish_within}
use Rattle.lines_cases.proofs.finish.Goals as goal
use Rattle.lines_cases.proofs.finish.Goals.{After-finish-finished}

within : (c : After-finish-finished) → c.finish-finished.result.produced ≤ length c.finish-finished.new.output
within c =
    let e = c.finish-finished.ensures in
    let r = c.finish-finished.result in
    let call : FinishCall (length c.loop.output) (model_of c.loop.state) (model_of r.state) r.produced r.answered =
    record { model = e.state; put = e.produced; counted = e.answered }
    in
    omega (arith, finish_within call, c.finish-finished.auto.output)

pub slice_bounds-write_all-end : goal.slice_bounds-write_all-end
slice_bounds-write_all-end c = within (goal.at.slice_bounds-write_all-end c).After-finish-finished

pub slice_bounds-write_all-end-in-loop : goal.slice_bounds-write_all-end-in-loop
slice_bounds-write_all-end-in-loop c =
    sym (length-take-le _ _ (within (goal.at.slice_bounds-write_all-end-in-loop c).After-finish-finished))
