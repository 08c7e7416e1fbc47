-- `fillings::erasures::cleared` meets its contract. The invariant: the symbols passed are cleared, and the others as in the word.
-- Assumes nothing.
use Rattle.fillings.proofs.Clearing.{ClearedTo}
use Rattle.fillings.proofs.erasures.cleared.Given as goal

abbrev pub invariant-loop-x : goal.invariant-loop-x
invariant-loop-x l = ClearedTo l.word l.x-items l.x-index
