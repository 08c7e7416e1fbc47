-- `peaks::search::searchable` meets its contract: its tests are those of the definition, in the same order.
-- Assumes nothing.
use mathlib.Core.Path.{ap}
use mathlib.Core.Bool.{Bool, ◌&&◌}
use lib.Dec.{leb, ltb}
use Rattle.peaks.specs.LeastPeaks.{searchable}
use Rattle.peaks.proofs.search.searchable.Goals as goal

pub returns : goal.returns
unfolding searchable
returns c =
    let a = c.args in
    ap (λ (b : Bool). leb a.q 8 && leb a.m 97 && ltb a.first a.q && ltb a.step a.q && b) c.symbols_below.ensures
