-- `decoder::multiples::multiples` meets its contract. The invariant: the entries passed are multiples.
-- Assumes nothing.
use Rattle.decoder.proofs.Multiplying.{Multiplied}
use Rattle.decoder.proofs.multiples.multiples.Given as goal

abbrev pub invariant-loop-i : goal.invariant-loop-i
invariant-loop-i l = Multiplied l.q l.f l.table l.i
