-- `components::component::check_symbols` meets its contract: each difference, put back, gives the sum that it was taken from.
-- Assumes nothing.
use Prim.Native.Nat.{◌≤◌}
use native.Mathlib.Omega.{arith}
use Rattle.symbols.specs.Syndromes.{rows}
use Rattle.components.proofs.Setting.{taken, solves_of}
use Rattle.components.proofs.component.check_symbols.Goals as goal
use Rattle.components.proofs.component.check_symbols.Goals.{Start}

-- there is a level
some : (c : Start) → 1 ≤ c.args.q
some c = omega (arith, c.requires.0)

-- each difference that is taken from, or taken away, is below q
pub difference-requires-2 : goal.difference-requires-2
difference-requires-2 c =
    let n = some (goal.at.difference-requires-2 c).Start in
    ((taken _ _ n c.difference.ensures).below, c.requires.1)

pub difference-two-requires : goal.difference-two-requires
difference-two-requires c =
    let n = some (goal.at.difference-two-requires c).Start in
    ((taken _ _ n c.difference-2.ensures).below, c.requires.2)

pub difference-requires-4 : goal.difference-requires-4
difference-requires-4 c =
    let n = some (goal.at.difference-requires-4 c).Start in
    ((taken _ _ n c.difference-3.ensures).below, (taken _ _ n c.difference-two.ensures).below)

pub difference-requires-5 : goal.difference-requires-5
difference-requires-5 c =
    let n = some (goal.at.difference-requires-5 c).Start in
    ((taken _ _ n c.difference-4.ensures).below, (taken _ _ n c.difference-two.ensures).below)

pub returns : goal.returns
returns c =
    let n = some (goal.at.returns c).Start in
    let a = taken _ _ n c.difference.ensures in
    let b = taken _ _ n c.difference-2.ensures in
    let two = taken _ _ n c.difference-two.ensures in
    let d = taken _ _ n c.difference-3.ensures in
    let e = taken _ _ n c.difference-4.ensures in
    let one = taken _ _ n c.difference-5.ensures in
    let f = taken _ _ n c.difference-6.ensures in
    solves_of (rows c.args.s) a b two d e one f (taken _ _ n c.difference-7.ensures)
