-- `answers::text::Writer::all_changes` meets its contract: one change, or one after the other.
-- Assumes nothing.
use Rattle.answers.proofs.Writing.{changes_written}
use Rattle.answers.proofs.text.Writer.all_changes.Goals as goal

pub returns-in-Two-clause-text : goal.returns-in-Two-clause-text
returns-in-Two-clause-text c =
    rw c.in-Two.is (changes_written _ _ c.one_change-in-Two.ensures.text c.one_change-in-Two-2.ensures.text)
