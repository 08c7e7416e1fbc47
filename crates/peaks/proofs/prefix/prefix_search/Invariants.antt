-- `peaks::prefix::prefix_search` meets its contract. The invariant: in each lane the sum, the peak and the whole sum are those of the index,
-- and of the indices passed the lowest cost is known.
-- Assumes nothing.
use mathlib.Core.Path.{◌≡◌}
use lib.ListN.{take}
use Rattle.peaks.specs.Lanes.{taken_off}
use Rattle.peaks.proofs.FromFront.{Forward}
use Rattle.peaks.proofs.prefix.prefix_search.Given as goal

abbrev pub invariant-loop-i : goal.invariant-loop-i
invariant-loop-i l = Forward l.q l.first l.step (take l.m l.d) l.lanes l.i × (l.k ≡ taken_off l.q l.i)
