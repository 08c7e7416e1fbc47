-- `decoder::search::Search::locate` meets its contract. The invariant: no index passed fits.
-- Assumes nothing.
use native.Mathlib.Omega.{arith}
use mathlib.Core.Path.{sym, ◌∙◌}
use Rattle.decoder.proofs.Fitting.{first_found, none_found, none_off, fits_all}
use Rattle.decoder.proofs.search.Search.locate.Goals as goal

pub returns-then-not-off_by_lack : goal.returns-then-not-off_by_lack
returns-then-not-off_by_lack c = none_off _ _ _ _ (sym c.off_by_lack.ensures ∙ c.if-not-off_by_lack.true)

pub returns-then-near_after : goal.returns-then-near_after
returns-then-near_after c =
    let range = rw c.index.ensures at (sym c.in_range.ensures ∙ c.if-in_range.true) in
    let off = sym c.off_by_lack.ensures ∙ c.if-not-off_by_lack.false in
    let near = sym c.near_after.ensures ∙ c.if-near_after.true in
    first_found _ _ _ _ _ (rw c.position_count-k-end.ensures at c.loop-k-test.true) c.loop-k.invariant (fits_all _ _ _ _ _ range off near)

pub returns : goal.returns
returns c = none_found _ _ _ _ (λ j l. c.loop-k.invariant j (omega (arith, l, c.loop-k-test.false, c.position_count-k-end.ensures)))
