-- `lines::finish` meets its contract: the pending bytes, and where they had room the answer to a line that no byte 10 ended.
-- Assumes nothing.
use Rattle.std.proofs.Common.{◌≡◌, true, [], length, drop, sym, ap, ◌∙◌}
use Rattle.lines_theory.specs.Feed.{held, Model, finishing, is_empty, is_done, lines_finished}
use Rattle.lines_theory.proofs.Counting.{counts_on, counts_stop}
use Rattle.lines.specs.States.{model_of}
use Rattle.lines.proofs.PendingBytes.{empty_is, some_is}
use Rattle.lines.proofs.Stepping.{Turn, Done, emitted, full}
use Rattle.lines.proofs.Finishing.{stops, cut_short, room, answers, ends, all_done, one_line, no_line}
use Rattle.lines.proofs.finish.Goals as goal
use Rattle.lines.proofs.finish.Goals.{After-is_empty-done, then-is_empty+then-not-is_empty, else-is_empty, else-is_empty-via-then-is_empty+else-not-is_empty, else-is_empty-via-else-is_empty}

abbrev model : After-is_empty-done → Model
model c = record { line = c.args.state.line; pending = c.args.state.pending }

all_out : (c : After-is_empty-done) → c.is_empty.result ≡ true → drop c.emit-produced.result c.args.state.pending ≡ []
all_out c t = sym c.emit-produced.ensures.left ∙ empty_is _ (sym c.is_empty.ensures ∙ t)

done : (c : After-is_empty-done)
    → Done (finishing (model c) (length c.args.output.now)) (record { line = c.if-is_empty.line; pending = c.if-is_empty.pending }) 0
    c.if-is_empty.produced c.args.output.now c.if-is_empty.output
    × (c.if-is_empty.answered ≡ lines_finished (model c) (length c.args.output.now))
done c =
    let p = c.args.state.line in
    let o = c.args.state.pending in
    let out = c.args.output.now in
    let e = c.emit-produced.ensures in
    elim c.if-is_empty.branch [
      | then-is_empty+then-not-is_empty w ↦
          let none = all_out c w.if-is_empty.true in
          let some = sym w.is_empty-then-is_empty.ensures ∙ w.if-not-is_empty.true in
          let f = w.emit-produced-then-not-is_empty.ensures in
          let t : Turn (finishing (model c) (length out)) [] out (held []) w.end.new.pending 0 c.emit-produced.result c.emit-produced.new.output =
          rw (e.output, w.end.ensures.answer) (answers p o out e.count none some) in (
            rw (w.line-is, w.end.ensures.next, w.pending-is, f.left, w.produced-is, w.output-is, f.output)
                (all_done (emitted t f.count) (full t f.count)),
            w.answered-is ∙ one_line p some ∙ sym (counts_on (model c) (length out) (room p o out e.count none)),
          )
      | else-is_empty w ↦ elim w.else-is_empty.branch [
        | else-is_empty-via-then-is_empty+else-not-is_empty w' ↦
            let none = all_out c w'.if-is_empty.true in
            let fresh = sym w'.is_empty-then-is_empty.ensures ∙ w'.if-not-is_empty.false in (
              rw (w.line-is, w.pending-is, e.left, w.produced-is, w.output-is, e.output) (ends p o out e.count none fresh),
              w.answered-is ∙ no_line p fresh ∙ sym (counts_on (model c) (length out) (room p o out e.count none)),
            )
        | else-is_empty-via-else-is_empty w' ↦
            let some = rw e.left at (some_is _ (sym c.is_empty.ensures ∙ w'.if-is_empty.false)) in (
              rw (w.line-is, w.pending-is, e.left, w.produced-is, w.output-is, e.output) (stops p o out e.count some),
              w.answered-is ∙ sym (counts_stop (model c) (length out) (cut_short p o out e.count some)),
            )
      ]
    ]

pub returns : goal.returns
unfolding model_of is_done
returns c =
    let (d, lines) = done c in
    record {
      state = d.model;
      produced = d.produced_is;
      answered = lines;
      done = c.is_empty-done.ensures ∙ ap (λ (m : Model). is_empty m.pending) d.model;
      output = d.output;
    }
