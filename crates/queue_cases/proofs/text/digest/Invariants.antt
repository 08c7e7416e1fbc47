-- `digest` is safe. The invariant: the digest is below 65,521.
-- Assumes nothing.
use Prim.Native.Nat.{◌<◌}
use Rattle.queue_cases.proofs.text.digest.Given as goal

abbrev pub invariant-loop-b : goal.invariant-loop-b
invariant-loop-b l = l.h < 65521
