-- `locator::clues::Clues::error_index` meets its contract: a candidate that passes its test is the index, and where neither does there is
-- none.
-- Assumes nothing.
use Rattle.std.proofs.Common.{to_z-of_z}
use Rattle.locator.proofs.Choosing.{some_inverse, index_holds, index_last}
use Rattle.locator.proofs.clues.Clues.error_index.Goals as goal

pub returns-in_err-i : goal.returns-in_err-i
returns-in_err-i c =
    let (prime, error) = c.requires in
    absurd (some_inverse _ c.args.self.valid.sized prime (to_z-of_z c.ranges.error) error c.gain_without-g.ensures.is c.in_err-i.ensures)

pub returns-then-holds_at : goal.returns-then-holds_at
returns-then-holds_at c =
    let (prime, error) = c.requires in
    index_holds _ c.args.self.valid.sized prime (to_z-of_z c.ranges.error) error c.gain_without-g.ensures.is _ _ _ _ c.holds_at.ensures
    c.if-holds_at.true

pub returns : goal.returns
returns c =
    let (prime, error) = c.requires in
    rw c.then_some.ensures
    (index_last _ c.args.self.valid.sized prime (to_z-of_z c.ranges.error) error c.gain_without-g.ensures.is _ _ _ c.in_ok-i.ensures.0 _
    c.candidate-k.ensures c.candidate-l.ensures c.holds_at.ensures c.if-holds_at.false _ c.holds_at-2.ensures)
