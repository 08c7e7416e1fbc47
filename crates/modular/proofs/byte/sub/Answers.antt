-- `modular::byte::sub` meets its contract: the difference is not below 0, or has q put on.
-- Assumes nothing.
use Rattle.std.proofs.Common.{refl, arith}
use Rattle.modular.proofs.Bytes.{difference_low, difference_high}
use Rattle.modular.proofs.byte.sub.Goals as goal

pub returns-then-a-x : goal.returns-then-a-x
returns-then-a-x c = difference_low _ _ _ _ c.if-a-x.true (omega arith) (omega arith) refl

pub returns-else-a-x : goal.returns-else-a-x
returns-else-a-x c = difference_high _ _ _ c.if-a-x.false
