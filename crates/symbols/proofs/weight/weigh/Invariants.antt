-- `symbols::weight::weigh` meets its contract. The invariant: what is summed and what is left of the symbols that are weighed make the
-- whole.
-- Assumes nothing.
use Rattle.symbols.proofs.Weighing.{Weighing}
use Rattle.symbols.proofs.weight.weigh.Given as goal

abbrev pub invariant-loop-index : goal.invariant-loop-index
invariant-loop-index l = Weighing l.x-items l.all l.even l.index
