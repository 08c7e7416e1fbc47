-- `fillings::fill::fill_one` meets its contract: what is wanted is tested by the numbers and then by the syndromes.
-- Assumes nothing.
use Rattle.fillings.proofs.Placing.{has_own}
use Rattle.fillings.proofs.Wanting.{suited, unsuited}
use Rattle.fillings.proofs.fill.fill_one.Goals as goal

pub returns-then-not-suits : goal.returns-then-not-suits
returns-then-not-suits c =
    let tested = c.before in
    let begun = tested.before.before in
    let args = begun.args in
    unsuited _ _ (has_own args.sums begun.from-numbers.ensures.0) args.erased tested.wanted-y.ensures
    tested.suits.ensures (c.if-not-suits.true)

pub returns : goal.returns
returns c =
    let moved = c.before in
    let tested = moved.before.before in
    let begun = tested.before.before in
    let args = begun.args in
    suited _ _ (has_own args.sums begun.from-numbers.ensures.0) args.erased tested.wanted-y.ensures
    tested.suits.ensures (moved.if-not-suits.false) moved.syndromes_with.ensures c.one_if_near.ensures
