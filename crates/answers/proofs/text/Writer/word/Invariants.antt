-- `answers::text::Writer::word` meets its contract: after i turns the digits of the first i symbols are written.
-- Assumes nothing.
use Rattle.answers.proofs.Writing.{Filled}
use Rattle.answers.proofs.text.Writer.word.Given as goal

abbrev pub invariant-loop-i : goal.invariant-loop-i
invariant-loop-i l = Filled l.initial.self l.symbols l.self l.i
