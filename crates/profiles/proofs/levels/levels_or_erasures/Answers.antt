-- `profiles::levels::levels_or_erasures` meets its contract. The invariant: the symbols passed are levels or erasures where the highest of
-- the numbers after them is at most q.
-- Assumes nothing.
use Rattle.std.proofs.Common.{refl}
use Rattle.profiles.proofs.Received.{after_none, after_more, after_all}
use Rattle.profiles.proofs.levels.levels_or_erasures.Goals as goal

pub loop-x-init : goal.loop-x-init
loop-x-init c = after_none _

pub loop-x-preserved : goal.loop-x-preserved
loop-x-preserved c =
    rw c.max-highest.ensures (after_more c.loop-x.invariant c.loop-x-test.true (c.type_inv.word c.loop-x.x-index).fits refl)

pub returns : goal.returns
returns c = after_all c.loop-x.invariant c.loop-x-test.false c.args.q
