-- `profiles::erased::next_erased` meets its contract. The invariant: the symbols passed are not erased.
-- Assumes nothing.
use Rattle.std.proofs.Common.{◌∙◌}
use Rattle.profiles.proofs.Received.{erased_here, erased_later, erased_none}
use Rattle.profiles.proofs.erased.next_erased.Goals as goal

pub returns-then-word-i : goal.returns-then-word-i
returns-then-word-i c = (c.loop-i-test.true, c.loop-i.invariant ∙ erased_here _ c.loop-i.i c.loop-i-test.true c.if-word-i.true)

pub loop-i-preserved : goal.loop-i-preserved
loop-i-preserved c = c.loop-i.invariant ∙ erased_later _ c.loop-i.i c.loop-i-test.true c.if-word-i.false

pub returns : goal.returns
returns c = c.loop-i.invariant ∙ erased_none _ c.loop-i.i c.loop-i-test.false
