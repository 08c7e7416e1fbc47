-- `encoder::balance::Integral::raised` meets its contract. The invariant: the symbols passed are raised, and the others are as they were.
-- Assumes nothing.
use Prim.Native.Nat.{◌+◌, ◌%◌}
use lib.ListN.{get_or}
use Rattle.encoder.specs.Symbols.{rise_at}
use Rattle.encoder.proofs.Changing.{ChangedTo}
use Rattle.encoder.proofs.balance.Integral.raised.Given as goal

abbrev pub invariant-loop-i : goal.invariant-loop-i
invariant-loop-i l = ChangedTo (λ k. (get_or l.self.symbols k 0 + rise_at l.from l.s k) % l.self.row.q) l.self.symbols l.y-items l.i
