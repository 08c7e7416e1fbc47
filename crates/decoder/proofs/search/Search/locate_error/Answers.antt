-- `decoder::search::Search::locate_error` meets its contract: the row is the profile's, so the position is that of the row's parameters.
-- Assumes nothing.
use mir.Syntax.{w32}
use Rattle.modular.proofs.Signed.{fits_within, value, read}
use Rattle.decoder.proofs.Locating.{located_by}
use Rattle.decoder.proofs.search.Search.locate_error.Goals as goal

pub returns : goal.returns
returns c =
    let x = c.args.self in
    located_by x c.requires c.is_odd.ensures (read {w = w32} (value {w = w32} (fits_within 1358 tt x.totalled.light))) c.error_position.ensures
