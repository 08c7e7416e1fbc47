-- `modular::byte::add` meets its contract: the sum is below q, or has q taken off.
-- Assumes nothing.
use Rattle.std.proofs.Common.{refl}
use Rattle.modular.proofs.Bytes.{sum_low, sum_high}
use Rattle.modular.proofs.byte.add.Goals as goal

pub returns-then-sum-q : goal.returns-then-sum-q
returns-then-sum-q c = sum_low _ _ _ refl c.if-sum-q.true

pub returns-else-sum-q : goal.returns-else-sum-q
returns-else-sum-q c = sum_high _ _ _ refl c.if-sum-q.false
