-- `decoder::column::moves_to_zero` meets its contract: the four rows are zero where the rows of the definition are, and a column outside
-- the matrix moves none.
-- Assumes nothing.
use mathlib.Core.Path.{◌∙◌}
use Rattle.decoder.proofs.Moving.{movable, zero_none, zero_column}
use Rattle.decoder.proofs.column.moves_to_zero.Goals as goal

pub rows_to_zero-requires : goal.rows_to_zero-requires
rows_to_zero-requires c =
    let (valid, columns, levels, table) = c.requires in
    let (some, within, is) = c.in-Some.ensures in
    rw is (movable _ valid columns levels table _ some within)

pub returns-in-None : goal.returns-in-None
returns-in-None c = let asked = c.requires in c.is_zero.ensures ∙ zero_none _ asked.0 _ asked.2 _ _ c.in-None.ensures

pub returns-in-Some : goal.returns-in-Some
returns-in-Some c =
    let (valid, columns, levels, _) = c.requires in
    let (some, within, is) = c.in-Some.ensures in
    (rw is at c.rows_to_zero.ensures) ∙ zero_column _ valid _ levels _ columns _ some within
