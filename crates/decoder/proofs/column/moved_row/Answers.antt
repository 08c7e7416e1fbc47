-- `decoder::column::moved_row` meets its contract: a multiple of a digit counts mod q.
-- Assumes nothing.
use Rattle.decoder.proofs.Multiplying.{row_moved}
use Rattle.decoder.proofs.column.moved_row.Goals as goal

pub returns : goal.returns
returns c = let p = c.requires in row_moved p.3 p.2 p.1 c.multiple.ensures p.0 c.add.ensures
