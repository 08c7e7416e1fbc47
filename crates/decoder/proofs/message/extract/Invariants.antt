-- `decoder::message::extract` meets its contract. The invariant: the symbols before the next power of q are passed. The measure is what the
-- power lacks of n.
-- Assumes nothing.
use Prim.Native.Nat.{◌+◌, ◌-◌, ◌≤◌}
use Rattle.decoder.proofs.Messaging.{Passed}
use Rattle.decoder.proofs.message.extract.Given as goal

abbrev pub invariant-loop-power : goal.invariant-loop-power
invariant-loop-power l = (l.i ≤ l.n) × Passed l.q l.n l.x l.initial.first l.initial.second l.first l.second l.power l.i l.next

abbrev pub decreases-loop-power : goal.decreases-loop-power
decreases-loop-power l = l.n + 1 - l.power
