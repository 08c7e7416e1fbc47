-- `modular::sum::remainders` meets its contract. The invariant: the sums passed are reduced.
-- Assumes nothing.
use Rattle.std.proofs.Common.{get_or}
use Rattle.modular.specs.Remainder.{residue}
use Rattle.modular.proofs.Filling.{FilledTo}
use Rattle.modular.proofs.sum.remainders.Given as goal

abbrev pub invariant-loop-i : goal.invariant-loop-i
invariant-loop-i l = FilledTo (λ k. residue l.q (get_or l.sums k 0)) 97 l.d l.i
