-- `encoder::least_peak::lowest_s` meets its contract. The invariant: of the s passed, `lowest` is the first with the least cost.
-- Assumes nothing.
use Prim.Native.Nat.{◌≤◌}
use lib.Dec.{ltb}
use Rattle.profiles.specs.Row.{parameters}
use Rattle.peaks_theory.specs.Lowest.{no_cost}
use Rattle.peaks_theory.proofs.Lowest.{Searched}
use Rattle.encoder.specs.Symbols.{shift_cost}
use Rattle.encoder.proofs.least_peak.lowest_s.Given as goal

abbrev pub invariant-loop-s : goal.invariant-loop-s
invariant-loop-s l =
    Searched (λ u. ltb (shift_cost (parameters l.row) l.costs u) no_cost) (shift_cost (parameters l.row) l.costs) l.row.q l.s l.least l.lowest
    × (l.least ≤ no_cost)
