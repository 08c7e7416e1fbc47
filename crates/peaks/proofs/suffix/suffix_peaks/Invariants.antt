-- `peaks::suffix::suffix_peaks` meets its contract. The invariant: the sums and the peaks from the index on are in their lanes and rows.
-- Assumes nothing.
use lib.ListN.{take}
use Rattle.peaks.proofs.FromEnd.{Backward}
use Rattle.peaks.proofs.suffix.suffix_peaks.Given as goal

abbrev pub invariant-loop-i : goal.invariant-loop-i
invariant-loop-i l = Backward l.q (take l.m l.d) l.tails l.totals l.peaks l.i
