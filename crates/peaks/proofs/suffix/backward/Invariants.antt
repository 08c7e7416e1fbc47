-- `peaks::suffix::backward` meets its contract. The invariant: the lanes passed have one symbol more.
-- Assumes nothing.
use Rattle.peaks.specs.Steps.{next_sum, next_peak}
use Rattle.peaks.proofs.SideBySide.{MadeTo}
use Rattle.peaks.proofs.suffix.backward.Given as goal

abbrev pub invariant-loop-t : goal.invariant-loop-t
invariant-loop-t l =
    MadeTo (next_sum l.h l.up l.initial.sums) l.initial.sums l.sums l.t
    × MadeTo (next_peak l.h l.up l.initial.sums l.initial.peaks) l.initial.peaks l.peaks l.t
