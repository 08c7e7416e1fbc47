-- `lines::step` meets its contract: the invariant says what is left to do, and each way out leaves nothing.
-- Assumes nothing.
use Rattle.std.proofs.Common.{◌≡◌, ℕ, ◌+◌, ◌<◌, Some, List, [], length, drop, refl, sym, ◌∙◌, arith, length-drop}
use Rattle.std.proofs.lemmas.List.{take_rest}
use Rattle.lines_theory.specs.Feed.{Fed, feed_from, feed}
use Rattle.lines_theory.proofs.Counting.{ends_few}
use Rattle.lines.specs.Ends.{first_end}
use Rattle.lines.specs.States.{model_of}
use Rattle.lines.proofs.Ends.{end_at, counts_none, counts_one}
use Rattle.lines.proofs.PendingBytes.{empty_is, some_is}
use Rattle.lines.proofs.Stepping.{Turn, Done, with_slice, emitted, full, answered, exhausted, no_room, no_input}
use Rattle.lines.proofs.step.Goals as goal
use Rattle.lines.proofs.step.Goals.{After-emit-produced, In-Some, Joined-not-is_empty, then-not-is_empty, else-not-is_empty+in_default}

-- what the call comes to
abbrev call : After-emit-produced → Fed
call c = feed_from c.args.state.line c.args.state.pending c.args.input.now (length c.args.output.now)

-- the output, after pending bytes were put out
abbrev output : After-emit-produced → List ℕ
output c = with_slice c.loop-rest.output c.loop-rest.produced c.emit-produced.new.output

-- the turn
turn_out : (c : After-emit-produced)
    → let l = c.loop-rest in
    let e = c.emit-produced in
    Turn (call c) c.args.input.now c.args.output.now l.line e.new.self l.consumed (l.produced + e.result) (output c)
turn_out c =
    let e = c.emit-produced.ensures in
    rw (e.left, e.output) (emitted c.loop-rest.invariant.turn e.count)

-- they had no room
is_full : (c : After-emit-produced) → 0 < length c.emit-produced.new.self
    → c.loop-rest.produced + c.emit-produced.result ≡ length c.args.output.now
is_full c h =
    let e = c.emit-produced.ensures in full c.loop-rest.invariant.turn e.count (rw e.left at h)

-- byte 10 stands in the rest of the piece
found : (c : In-Some) → Some c.in-Some.end ≡ first_end (drop c.loop-rest.consumed c.args.input.now)
found c = rw take_rest at c.in-Some.ensures

further : (c : In-Some) → c.loop-rest.consumed + c.in-Some.end < length c.args.input.now
further c =
    let rest = drop c.loop-rest.consumed c.args.input.now in
    let f = end_at rest c.in-Some.end (sym (found c)) in
    omega (arith, f.0, length-drop c.loop-rest.consumed c.args.input.now)

pub overflow_add-answered : goal.overflow_add-answered
overflow_add-answered c =
    let few = ends_few c.loop-rest.consumed c.args.input.now in
    omega (arith, c.loop-rest.invariant.counted, few, further (goal.at.overflow_add-answered c).In-Some)

pub loop-rest-preserved : goal.loop-rest-preserved
loop-rest-preserved c =
    let put = (goal.at.loop-rest-preserved c).After-emit-produced in
    let some = (goal.at.loop-rest-preserved c).In-Some in
    let i = c.loop-rest.invariant in
    let none : c.emit-produced.new.self ≡ [] = empty_is _ (sym c.is_empty.ensures ∙ c.if-not-is_empty.false) in
    record {
      turn = rw (c.end.ensures.next, c.end.ensures.answer, c.hold-in-loop-rest.ensures, take_rest) (answered (turn_out put) none (found some));
      counted = omega (arith, i.counted, counts_one c.args.input.now c.loop-rest.consumed c.in-Some.end (found some));
    }

-- either way out
done : (c : Joined-not-is_empty)
    → Done (call (goal.at.Joined-not-is_empty c).After-emit-produced)
    (record { line = c.if-not-is_empty.line; pending = c.emit-produced.new.self }) c.if-not-is_empty.consumed
    (c.loop-rest.produced + c.emit-produced.result) c.args.output.now (output (goal.at.Joined-not-is_empty c).After-emit-produced)
done c =
    let put = (goal.at.Joined-not-is_empty c).After-emit-produced in
    elim c.if-not-is_empty.branch [
      | then-not-is_empty w ↦
          let some = some_is _ (sym c.is_empty.ensures ∙ w.if-not-is_empty.true) in
          rw (w.line-is, w.consumed-is) (no_room (turn_out put) some (is_full put some))
      | else-not-is_empty+in_default w ↦
          let none : c.emit-produced.new.self ≡ [] = empty_is _ (sym c.is_empty.ensures ∙ w.if-not-is_empty.false) in
          rw (w.line-is, w.consumed-is, w.hold.ensures, take_rest)
          (no_input (exhausted (turn_out put) none (rw take_rest at w.in_default.ensures)) none refl)
    ]

pub returns : goal.returns
unfolding model_of feed
returns c =
    let d = done c in
    let i = c.loop-rest.invariant in
    record {
      state = d.model;
      consumed = d.consumed_is;
      produced = d.produced_is;
      answered = elim c.if-not-is_empty.branch [
        | then-not-is_empty w ↦ rw w.consumed-is i.counted
        | else-not-is_empty+in_default w ↦
            rw w.consumed-is (i.counted ∙ sym (counts_none _ c.loop-rest.consumed i.turn.taken (rw take_rest at w.in_default.ensures)))
      ];
      output = d.output;
    }
