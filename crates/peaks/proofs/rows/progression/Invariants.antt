-- `peaks::rows::progression` meets its contract. The invariant: the lanes passed have so many steps added, mod q.
-- Assumes nothing.
use mathlib.Core.Path.{◌≡◌}
use Prim.Native.Nat.{◌+◌, ◌*◌, ◌%◌, ◌<◌}
use Rattle.modular.proofs.Filling.{FilledTo}
use Rattle.peaks.proofs.rows.progression.Given as goal

abbrev pub invariant-loop-lane : goal.invariant-loop-lane
invariant-loop-lane l =
    FilledTo (λ k. (l.first + k * l.step) % l.q) 8 l.lane-items l.lane-index
    × (l.y ≡ (l.first + l.lane-index * l.step) % l.q)
    × (l.y < l.q)
