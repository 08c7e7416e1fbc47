-- `decoder::message::copy_run` meets its contract. The invariant: the symbols passed stand in both outputs.
-- Assumes nothing.
use Prim.Native.Nat.{◌-◌}
use Rattle.decoder.proofs.Running.{Running}
use Rattle.decoder.proofs.message.copy_run.Given as goal

abbrev pub invariant-loop-k : goal.invariant-loop-k
invariant-loop-k l = Running l.x l.i l.next (l.end - l.i) l.initial.first l.initial.second l.first l.second l.k
