-- `decoder::column::plus_column` meets its contract: the four rows move as the rows of the definition do, and a column outside the matrix
-- moves none.
-- Assumes nothing.
use Rattle.syndromes.proofs.Moving.{moved_still}
use Rattle.decoder.proofs.Moving.{plus_moved}
use Rattle.decoder.proofs.column.plus_column.Goals as goal

pub returns-in-None : goal.returns-in-None
returns-in-None c = let asked = c.requires in moved_still _ asked.0 _ asked.2 _ _ c.in-None.ensures

pub returns-in-Some : goal.returns-in-Some
returns-in-Some c =
    let (valid, columns, levels) = c.requires in
    let (some, within, is) = c.in-Some.ensures in
    plus_moved _ valid c.args.s levels c.args.f columns c.args.a some within (rw is at c.syndrome_plus.ensures)
