-- `profiles::levels::symbols_below` meets its contract. The invariant: `highest` is the highest of the symbols passed.
-- Assumes nothing.
use Rattle.std.proofs.Common.{◌≡◌, length, arith}
use Rattle.profiles.proofs.Highest.{highest_none, highest_more, highest_decides, none_below}
use Rattle.profiles.proofs.levels.symbols_below.Goals as goal

pub loop-x-init : goal.loop-x-init
loop-x-init c = highest_none _

pub loop-x-preserved : goal.loop-x-preserved
loop-x-preserved c = rw c.max-highest.ensures (highest_more c.loop-x.invariant)

pub returns-then-word-eq0 : goal.returns-then-word-eq0
returns-then-word-eq0 c = rw c.if-word-eq0.true (none_below c.args.q c.args.word.now c.if-word-eq0.true)

pub returns-else-word-eq0 : goal.returns-else-word-eq0
returns-else-word-eq0 c =
    let e : length c.args.word.now ≡ c.loop-x.x-index = omega arith in
    highest_decides c.loop-x.invariant _ e (omega arith)
