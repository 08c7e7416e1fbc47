-- `answers::text::Writer::reading_line` meets its contract: the heading, then the error, then the two words.
-- Assumes nothing.
use Rattle.std.proofs.Common.{w16}
use Rattle.std.proofs.lemmas.Int.{to_z-of_z}
use Rattle.answers.proofs.Writing.{reading_written}
use Rattle.answers.proofs.text.Writer.reading_line.Goals as goal

pub returns : goal.returns
returns c =
    let error = rw (to_z-of_z w16 c.args.error c.ranges.error) at c.signed_decimal.ensures.text in
    reading_written _ _ _ c.args.error _ _ c.heading.ensures.text error c.word.ensures c.word-2.ensures
