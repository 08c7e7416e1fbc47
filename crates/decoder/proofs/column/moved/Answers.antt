-- `decoder::column::moved` meets its contract: the four rows move as the rows of the definition do, and a column outside the matrix moves
-- none.
-- Assumes nothing.
use Rattle.syndromes.proofs.Moving.{moved_still}
use Rattle.decoder.proofs.Moving.{movable, moved_column, four_equal}
use Rattle.decoder.proofs.column.moved.Goals as goal

pub moved_rows-requires : goal.moved_rows-requires
moved_rows-requires c =
    let (valid, columns, levels, table) = c.requires in
    let (some, within, is) = c.in-Some.ensures in
    rw is (movable _ valid columns levels table _ some within)

pub returns-in-None : goal.returns-in-None
returns-in-None c = let asked = c.requires in moved_still _ asked.0 _ asked.2 _ _ c.in-None.ensures

pub returns-in-Some : goal.returns-in-Some
returns-in-Some c =
    let (valid, columns, levels, _) = c.requires in
    let (some, within, is) = c.in-Some.ensures in
    let made = c.moved_rows.ensures in
    let same = four_equal made.low made.mid made.high made.ones in
    moved_column _ valid _ levels _ columns _ some within (rw is at same)
