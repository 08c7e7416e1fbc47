-- `boxlines::answer` meets its contract: each turn but the last puts out a whole buffer, what is still to come gets shorter, and the last
-- leaves nothing pending and nothing to take.
-- Assumes nothing.
use Rattle.std.proofs.Common.{◌+◌, length, refl, sym, arith, length-take-le}
use Rattle.lines.specs.States.{model_of}
use Rattle.lines_theory.proofs.Progress.{StepCall, step_fits, step_less}
use Rattle.lines_theory.proofs.Counting.{ends_few}
use Rattle.boxlines.specs.Turns.{AnswersPiece}
use Rattle.boxlines.proofs.Answering.{Sofar, further, settles}
use Rattle.boxlines.proofs.answer.Goals as goal
use Rattle.boxlines.proofs.answer.Goals.{After-step-stepped}

call : (c : After-step-stepped)
    → StepCall c.args.input.now c.loop-state.at (length c.loop-state.output) (model_of c.loop-state.state)
    (model_of c.step-stepped.result.state) c.step-stepped.result.consumed c.step-stepped.result.produced c.step-stepped.result.answered
call c =
    let e = c.step-stepped.ensures in
    record { model = e.state; taken = e.consumed; put = e.produced; counted = e.answered }

after : (c : After-step-stepped)
    → Sofar (model_of c.args.start) c.args.input.now (c.loop-state.at + c.step-stepped.result.consumed) (model_of c.step-stepped.result.state)
    (c.loop-state.lines + c.step-stepped.result.answered)
after c = further (call c) c.loop-state.invariant

pub overflow_add-at : goal.overflow_add-at
overflow_add-at c = omega (arith, (after (goal.at.overflow_add-at c).After-step-stepped).within)

pub overflow_add-lines : goal.overflow_add-lines
overflow_add-lines c =
    let s = after (goal.at.overflow_add-lines c).After-step-stepped in
    omega (arith, s.within, s.counted, ends_few (c.loop-state.at + c.step-stepped.result.consumed) c.args.input.now)

pub slice_bounds-write_all-end : goal.slice_bounds-write_all-end
slice_bounds-write_all-end c =
    omega (arith, step_fits (call (goal.at.slice_bounds-write_all-end c).After-step-stepped), c.step-stepped.auto.output)

pub slice_bounds-write_all-end-in-loop-state : goal.slice_bounds-write_all-end-in-loop-state
slice_bounds-write_all-end-in-loop-state c =
    let f = step_fits (call (goal.at.slice_bounds-write_all-end-in-loop-state c).After-step-stepped) in
    sym (length-take-le _ _ (omega (arith, f, c.step-stepped.auto.output)))

pub returns-then-not-write_all : goal.returns-then-not-write_all
unfolding AnswersPiece
returns-then-not-write_all c = refl

pub returns-then-produced-output : goal.returns-then-produced-output
unfolding AnswersPiece
returns-then-produced-output c =
    settles (call (goal.at.returns-then-produced-output c).After-step-stepped) c.loop-state.invariant
    (omega (arith, c.step-stepped.auto.output, c.if-produced-output.true))

pub loop-state-smaller : goal.loop-state-smaller
loop-state-smaller c =
    step_less (call (goal.at.loop-state-smaller c).After-step-stepped)
    (omega (arith, c.requires, c.loop-state.auto.output, c.step-stepped.auto.output, c.if-produced-output.false))

pub loop-state-preserved : goal.loop-state-preserved
loop-state-preserved c = after (goal.at.loop-state-preserved c).After-step-stepped
