-- `decoder::totals::sums_of` meets its contract: the differences are those of the word, and so are the sums.
-- Assumes nothing.
use Rattle.decoder.proofs.totals.sums_of.Goals as goal

pub take_components-requires : goal.take_components-requires
take_components-requires c = let (word, _, array) = c.requires in (word, array)

pub total-requires : goal.total-requires
total-requires c =
    let (word, table, _) = c.requires in
    (word, c.take_components.ensures, table)

pub returns : goal.returns
returns c =
    let (totalled, are) = c.total.ensures in
    record { totalled = totalled; are = are; held = c.take_components.ensures }
