-- `encoder::balance::Integral::earliest` meets its contract. The invariants: no choice with a smaller s balances, and none with this s's shift and a
-- smaller v; the excess is that of the choice tried. A balancing choice exists, so some s below q has it.
-- Assumes nothing.
use lib.ListN.{take}
use Rattle.profiles.specs.Row.{parameters}
use Rattle.encoder.proofs.Searching.{Missed, Trying}
use Rattle.encoder.proofs.balance.Integral.earliest.Given as goal

abbrev pub invariant-loop-v : goal.invariant-loop-v
invariant-loop-v l = Trying l.self.row.q (take l.self.row.balanced l.self.symbols) l.shift l.v l.excess

abbrev pub invariant-loop-s : goal.invariant-loop-s
invariant-loop-s l = Missed (parameters l.self.row) (take l.self.row.balanced l.self.symbols) l.s
