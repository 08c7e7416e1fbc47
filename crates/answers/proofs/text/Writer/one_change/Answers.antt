-- `answers::text::Writer::one_change` meets its contract: the position, then the symbol, which is one digit.
-- Assumes nothing.
use Rattle.decoder.specs.Decode.{change_of}
use Rattle.answers.proofs.Writing.{change_written}
use Rattle.answers.proofs.text.Writer.one_change.Goals as goal

pub returns-clause-text : goal.returns-clause-text
returns-clause-text c = change_written (change_of c.args.c) c.requires.1.1 c.decimal.ensures.text c.pair.ensures
