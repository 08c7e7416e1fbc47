-- `encoder::balance::Integral::least_peak` meets its contract: of the shifts' least peaks the lowest, and the first index that has it.
-- Assumes nothing.
use mathlib.Core.Path.{ap, ◌∙◌}
use Prim.Native.Nat.{ℕ, ◌+◌, ◌<◌}
use lib.ListN.{get_or}
use Rattle.encoder.proofs.LeastPeak.{lowest_below, least_chosen, shift_small}
use Rattle.encoder.proofs.balance.Integral.least_peak.Goals as goal
use Rattle.encoder.proofs.balance.Integral.least_peak.Goals.{After-lowest_s}

below : (c : After-lowest_s) → c.lowest_s.result < c.args.self.now.row.q
below c =
    lowest_below c.args.self.now.row c.args.self.now.valid c.args.self.now.few c.args.self.now.symbols c.args.self.now.levels _ _ c.seed-seed.ensures
    c.least_peaks-found.ensures c.requires c.lowest_s.ensures

pub shift_of-shift-requires : goal.shift_of-shift-requires
shift_of-shift-requires c = (c.args.self.now.valid, below (goal.at.shift_of-shift-requires c).After-lowest_s)

pub bounds-found-from : goal.bounds-found-from
bounds-found-from c =
    rw c.from.ensures
    (shift_small c.args.self.now.row c.args.self.now.valid c.args.self.now.few c.args.self.now.symbols c.args.self.now.levels _ _ c.seed-seed.ensures
    c.least_peaks-found.ensures c.requires c.lowest_s.ensures c.shift_of-shift.ensures)

pub returns : goal.returns
returns c =
    least_chosen c.args.self.now.row c.args.self.now.valid c.args.self.now.few c.args.self.now.symbols c.args.self.now.levels _ _ c.seed-seed.ensures
    c.least_peaks-found.ensures c.requires c.lowest_s.ensures c.shift_of-shift.ensures
    (ap (λ (i : ℕ). i + 1) (c.from-v.ensures ∙ ap (λ (k : ℕ). get_or c.least_peaks-found.result.indices k 0) c.from.ensures))
