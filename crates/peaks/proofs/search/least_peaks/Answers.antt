-- `peaks::search::least_peaks` meets its contract: what passes the tests is searched, and of the rest nothing is said.
-- Assumes nothing.
use Rattle.peaks.proofs.Fitting.{tests_passed, answered_found, answered_none}
use Rattle.peaks.proofs.search.least_peaks.Goals as goal

pub searched-requires : goal.searched-requires
searched-requires c =
    let a = c.args in
    rw (c.from.ensures, c.from-then-searchable.ensures, c.from-then-searchable-2.ensures)
    (tests_passed a.q a.m a.first a.step a.d.now c.searchable.ensures c.if-searchable.true)

pub returns-then-searchable : goal.returns-then-searchable
returns-then-searchable c =
    let a = c.args in
    answered_found a.q a.m a.first a.step a.d.now c.searchable.ensures c.if-searchable.true c.from.ensures
    c.from-then-searchable.ensures c.from-then-searchable-2.ensures c.searched.ensures

pub returns-else-searchable : goal.returns-else-searchable
returns-else-searchable c =
    let a = c.args in
    answered_none a.q a.m a.first a.step a.d.now c.searchable.ensures c.if-searchable.false
