-- `decoder::effect::effect_of` meets its contract: the multiples of the gain and of its negative, by the component that loses.
-- Assumes nothing.
use mathlib.Core.Path.{◌≡◌}
use Prim.Native.Nat.{◌<◌}
use native.Mathlib.Omega.{arith}
use Rattle.modular_theory.specs.Residue.{minus}
use Rattle.modular.proofs.Bytes.{byte_difference_lem}
use Rattle.decoder.proofs.Gaining.{moves_sides}
use Rattle.decoder.proofs.effect.effect_of.Goals as goal
use Rattle.decoder.proofs.effect.effect_of.Goals.{After-sub}

-- the negative of the gain
negative : (c : After-sub) → (c.sub.result ≡ minus c.args.row.q 0 c.args.e) × (c.sub.result < c.args.row.q)
negative c =
    let (valid, below) = c.requires in
    byte_difference_lem (omega (arith, valid.sized.levels)) (omega (arith, below)) (omega (arith, valid.levels)) c.sub.ensures

pub multiples-less-requires : goal.multiples-less-requires
multiples-less-requires c =
    let valid = c.requires.0 in
    ((negative (goal.at.multiples-less-requires c).After-sub).1, omega (arith, valid.sized.levels), valid.levels)

pub returns : goal.returns
returns c =
    moves_sides _ c.requires.1 _ (negative (goal.at.returns c).After-sub).0 c.multiples-more.ensures c.multiples-less.ensures
    c.by_side.ensures.first c.by_side.ensures.second
