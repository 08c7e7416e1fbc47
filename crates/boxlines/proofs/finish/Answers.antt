-- `boxlines::finish` meets its contract: a call that is not done puts out a whole buffer, and the calls together answer the last line once.
-- Assumes nothing.
use Rattle.std.proofs.Common.{length, ◌∙◌, refl, sym, arith, length-take-le}
use Rattle.lines.specs.States.{model_of}
use Rattle.lines_theory.proofs.Progress.{FinishCall, finish_within, finish_goes_on}
use Rattle.boxlines.specs.Turns.{AnswersEnd}
use Rattle.boxlines.proofs.Answering.{last_further, last_few, last_done}
use Rattle.boxlines.proofs.finish.Goals as goal
use Rattle.boxlines.proofs.finish.Goals.{After-finish-finished}

call : (c : After-finish-finished)
    → FinishCall (length c.loop-state.output) (model_of c.loop-state.state) (model_of c.finish-finished.result.state)
    c.finish-finished.result.produced c.finish-finished.result.answered
call c = let e = c.finish-finished.ensures in record { model = e.state; put = e.produced; counted = e.answered }

pub overflow_add-lines : goal.overflow_add-lines
overflow_add-lines c =
    omega (arith, last_few (call (goal.at.overflow_add-lines c).After-finish-finished) c.loop-state.invariant)

pub slice_bounds-write_all-end : goal.slice_bounds-write_all-end
slice_bounds-write_all-end c =
    omega (arith, finish_within (call (goal.at.slice_bounds-write_all-end c).After-finish-finished), c.finish-finished.auto.output)

pub slice_bounds-write_all-end-in-loop-state : goal.slice_bounds-write_all-end-in-loop-state
slice_bounds-write_all-end-in-loop-state c =
    let w = finish_within (call (goal.at.slice_bounds-write_all-end-in-loop-state c).After-finish-finished) in
    sym (length-take-le _ _ (omega (arith, w, c.finish-finished.auto.output)))

pub returns-then-not-write_all : goal.returns-then-not-write_all
unfolding AnswersEnd
returns-then-not-write_all c = refl

pub returns-then-finished : goal.returns-then-finished
unfolding AnswersEnd
returns-then-finished c =
    last_done (call (goal.at.returns-then-finished c).After-finish-finished) c.loop-state.invariant
    (sym c.if-finished.true ∙ c.finish-finished.ensures.done)

pub loop-state-smaller : goal.loop-state-smaller
loop-state-smaller c =
    finish_goes_on (call (goal.at.loop-state-smaller c).After-finish-finished) (sym c.if-finished.false ∙ c.finish-finished.ensures.done)
    (omega (arith, c.requires, c.loop-state.auto.output))

pub loop-state-preserved : goal.loop-state-preserved
loop-state-preserved c = last_further (call (goal.at.loop-state-preserved c).After-finish-finished) c.loop-state.invariant
