-- `peaks::rows::raised_row` meets its contract. The invariant: the lanes passed are made, and the others are as they were.
-- Assumes nothing.
use Prim.Native.Nat.{◌+◌, ◌*◌, ◌%◌}
use lib.ListN.{get_or}
use Rattle.peaks.proofs.SideBySide.{MadeTo}
use Rattle.peaks.proofs.rows.raised_row.Given as goal

abbrev pub invariant-loop-lane : goal.invariant-loop-lane
invariant-loop-lane l = MadeTo (λ k. 2 * ((l.y + get_or l.symbols k 0) % l.q)) l.symbols l.lane-items l.lane-index
