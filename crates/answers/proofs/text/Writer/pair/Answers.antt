-- `answers::text::Writer::pair` meets its contract: one byte, and the other.
-- Assumes nothing.
use Rattle.answers.proofs.Writing.{◌followed_by◌}
use Rattle.answers.proofs.text.Writer.pair.Goals as goal

pub returns : goal.returns
returns c = c.byte.ensures followed_by c.byte-2.ensures
