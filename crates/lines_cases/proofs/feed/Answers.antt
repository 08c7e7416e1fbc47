-- `lines_cases::feed` is safe: what a call took is within the input, and what it put out is within its output.
-- Assumes nothing.
use Rattle.std.proofs.Common.{◌≡◌, ◌+◌, ◌≤◌, List, ℕ, length, take, sym, arith, length-take-le}
use Rattle.lines.specs.States.{model_of}
use Rattle.lines_theory.proofs.Progress.{piece, piece_length, call_fits}
use Rattle.lines_cases.proofs.feed.Goals as goal
use Rattle.lines_cases.proofs.feed.Goals.{After-step-stepped}

-- what a call takes and puts out
within : (c : After-step-stepped)
    → (c.loop-turn.at + c.step-stepped.result.consumed ≤ length c.args.input.now)
    × (c.step-stepped.result.produced ≤ length c.step-stepped.new.output)
within c =
    let i = c.args.input.now in
    let at = c.loop-turn.at in
    let e = c.step-stepped.ensures in
    let r = c.step-stepped.result in
    let n = c.min-cut.result in
    let cut : List ℕ = take n (piece i at) in
    let long : length cut ≡ n = length-take-le n (piece i at) (omega (arith, c.min-cut.ensures, piece_length i at)) in
    let f = call_fits (model_of c.loop-turn.state) cut (length c.loop-turn.output) r.consumed r.produced e.consumed e.produced in (
      omega (arith, f.0, long, c.min-cut.ensures, piece_length i at, c.loop-turn.invariant),
      omega (arith, f.1, c.step-stepped.auto.output),
    )

pub overflow_add-at : goal.overflow_add-at
overflow_add-at c = omega (arith, (within (goal.at.overflow_add-at c).After-step-stepped).0)

pub slice_bounds-write_all-end : goal.slice_bounds-write_all-end
slice_bounds-write_all-end c = (within (goal.at.slice_bounds-write_all-end c).After-step-stepped).1

pub slice_bounds-write_all-end-in-loop-turn : goal.slice_bounds-write_all-end-in-loop-turn
slice_bounds-write_all-end-in-loop-turn c =
    sym (length-take-le _ _ (within (goal.at.slice_bounds-write_all-end-in-loop-turn c).After-step-stepped).1)

pub loop-turn-preserved : goal.loop-turn-preserved
loop-turn-preserved c = (within (goal.at.loop-turn-preserved c).After-step-stepped).0
