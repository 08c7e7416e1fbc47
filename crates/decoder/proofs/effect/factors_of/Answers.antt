-- `decoder::effect::factors_of` meets its contract: the gain and its negative, by the component that loses.
-- Assumes nothing.
use native.Mathlib.Omega.{arith}
use Rattle.modular.proofs.Bytes.{byte_difference_lem}
use Rattle.decoder.proofs.Gaining.{factors_sides}
use Rattle.decoder.proofs.effect.factors_of.Goals as goal

pub returns : goal.returns
returns c =
    let (valid, below) = c.requires in
    let negative = byte_difference_lem (omega (arith, valid.sized.levels)) (omega (arith, below)) (omega (arith, valid.levels)) c.sub.ensures in
    factors_sides _ below _ negative.0 c.by_side.ensures.first c.by_side.ensures.second
