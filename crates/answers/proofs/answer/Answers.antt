-- `answers::answer` meets its contract: the form decides between refusal 9 and Read, which gets the symbols of the line.
-- Assumes nothing.
use Rattle.std.proofs.Common.{sym, arith, rules}
use Rattle.lines_theory.proofs.Order.{line_bad}
use Rattle.answers.proofs.Forms.{GoodLine, bad_line, good_line}
use Rattle.answers.proofs.Writing.{reworded, overwrites}
use Rattle.answers.proofs.Answers.{line_read}
use Rattle.answers.proofs.answer.Goals as goal
use Rattle.answers.proofs.answer.Goals.{In-Some, Joined-parsed, in-Some, in-None}
use Rattle.answers.specs.Writing.{Written}
use Rattle.lines_theory.specs.Line.{line_answer}

good : (c : In-Some) → GoodLine c.args.line.now c.in-Some.profile c.parse-parsed.new.word
good c = good_line c.parse-parsed.ensures c.in-Some.is

pub overflow_sub-n : goal.overflow_sub-n
overflow_sub-n c = omega (arith, (good (goal.at.overflow_sub-n c).In-Some).low)

pub respond-requires : goal.respond-requires
respond-requires c = ((good (goal.at.respond-requires c).In-Some).small, omega arith)

-- either way
line_written : (c : Joined-parsed)
    → Written c.args.out.now c.match-parsed.answer.out.now 0 c.match-parsed.answer.at (line_answer c.args.line.now)
line_written c =
    elim c.match-parsed.branch [
      | in-Some w ↦
          rw w.answer-is (reworded (line_read (good_line c.parse-parsed.ensures w.in-Some.is)) w.respond.ensures.written)
      | in-None w ↦
          rw w.answer-is (reworded (sym (line_bad _ (bad_line c.parse-parsed.ensures w.in-None.is))) w.refusal_line.ensures.written)
    ]

pub returns : goal.returns
returns c =
    let written = overwrites (search rules) (line_written c) in
    record { length = written.0; fits = written.1.0; bytes = written.1.1 }
