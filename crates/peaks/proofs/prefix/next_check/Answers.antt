-- `peaks::prefix::next_check` meets its contract: an even index takes 1 more off, mod q.
-- Assumes nothing.
use Rattle.peaks.proofs.Costing.{taken_round, taken_more}
use Rattle.peaks.proofs.prefix.next_check.Goals as goal

pub returns-then-k-eq0 : goal.returns-then-k-eq0
returns-then-k-eq0 c =
    taken_round c.args.q c.args.i c.requires.0 c.requires.1 c.if-i-eq1.false c.if-k-eq0.true

pub returns-else-k-eq0 : goal.returns-else-k-eq0
returns-else-k-eq0 c =
    taken_more c.args.q c.args.i c.requires.0 c.requires.1 c.if-i-eq1.false c.if-k-eq0.false
