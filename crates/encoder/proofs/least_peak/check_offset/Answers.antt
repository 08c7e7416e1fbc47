-- `encoder::least_peak::check_offset` meets its contract: the cases of the definition, in edition 18 with the sign on the other side.
-- Assumes nothing.
use mathlib.Core.Path.{refl}
use native.Mathlib.Omega.{arith}
use Rattle.encoder.proofs.LeastPeak.{delta_below, offset_13, offset_18}
use Rattle.encoder.proofs.least_peak.check_offset.Goals as goal

pub overflow_sub-row : goal.overflow_sub-row
overflow_sub-row c = omega (arith, delta_below c.args.row c.requires)

pub returns-in-Of2013 : goal.returns-in-Of2013
returns-in-Of2013 c =
    let e = c.from.ensures in
    (offset_13 c.args.row c.requires c.in-Of2013.is e, omega (arith, e, delta_below c.args.row c.requires, c.requires.levels))

pub returns-in-Of2018 : goal.returns-in-Of2018
returns-in-Of2018 c =
    let e = c.from-in-Of2018.ensures in
    (offset_18 c.args.row c.requires c.in-Of2018.is e refl, omega (arith, e, c.requires.length, c.requires.levels))
