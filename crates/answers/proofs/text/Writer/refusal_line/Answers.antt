-- `answers::text::Writer::refusal_line` meets its contract: two bytes, then the number.
-- Assumes nothing.
use Rattle.answers.proofs.Writing.{refusal_written}
use Rattle.answers.proofs.text.Writer.refusal_line.Goals as goal

pub returns : goal.returns
returns c = refusal_written _ c.pair.ensures (rw (c.from-2.ensures, c.from.ensures) at c.decimal.ensures.text)
