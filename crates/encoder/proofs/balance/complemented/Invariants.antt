-- `encoder::balance::complemented` meets its contract. The invariant: the symbols passed are complemented, and the others are as they were.
-- Assumes nothing.
use Prim.Native.Nat.{◌-◌}
use lib.ListN.{get_or}
use Rattle.encoder.proofs.Changing.{ChangedTo}
use Rattle.encoder.proofs.balance.complemented.Given as goal

abbrev pub invariant-loop-y : goal.invariant-loop-y
invariant-loop-y l = ChangedTo (λ k. l.q - 1 - get_or l.fn.w k 0) l.fn.w l.y-items l.y-index
