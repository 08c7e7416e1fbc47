-- `answers::text::Writer::heading` meets its contract: its fields, one after another.
-- Assumes nothing.
use Rattle.decoder.specs.Decode.{changes_in}
use Rattle.answers.proofs.Writing.{heading_written}
use Rattle.answers.proofs.text.Writer.heading.Goals as goal

pub returns-clause-text : goal.returns-clause-text
returns-clause-text c = heading_written _ _ (changes_in c.args.changes) c.pair.ensures c.pair-2.ensures c.all_changes.ensures.text
