-- `lines::line::Line::end` meets its contract: the bytes held are answered, or, of a line that has run over, none.
-- Assumes nothing.
use Rattle.std.proofs.Common.{refl, ap, ◌∙◌}
use Rattle.lines_theory.specs.Feed.{answer_to}
use Rattle.lines.proofs.LineSoFar.{partial_held, partial_over, over_answer}
use Rattle.lines.proofs.line.Line.end.Goals as goal
use Rattle.lines.proofs.line.Line.end.Goals.{in-Some, in_default, in_default-2}

pub returns-clause-answer : goal.returns-clause-answer
returns-clause-answer c =
    let bytes = c.self.inside.bytes in
    c.answer.ensures
    ∙ (elim c.match-self.branch [
      | in-Some w ↦ rw (w.len-is, partial_held bytes w.in-Some.is w.if-len-le101.true) refl
      | in_default-2 w ↦ rw (w.len-is, partial_over bytes w.in-Some.is w.if-len-le101.false) over_answer
      | in_default w ↦ rw (w.len-is, w.in_default.is) over_answer
    ])
    ∙ ap answer_to c.self.view_is
