-- `locator::clues::Clues::moved` meets its contract: the four rows move as the rows of the definition do.
-- Assumes nothing.
use native.Mathlib.Omega.{arith}
use Rattle.locator.proofs.Moving.{moved_by}
use Rattle.locator.proofs.clues.Clues.moved.Goals as goal

pub returns-then-a-self : goal.returns-then-a-self
returns-then-a-self c =
    let args = c.args in
    moved_by _ args.self.valid args.s c.requires args.f args.a (omega arith) c.if-a-self.true c.column.ensures c.syndrome_plus.ensures
