-- `fillings::fill::fill_second` meets its contract: the numbers first, and the syndromes only where they are consistent.
-- Assumes nothing.
use mathlib.Core.Path.{◌≡◌, ap, ◌∙◌}
use native.Mathlib.Omega.{arith}
use Rattle.decoding_theory.specs.Filled.{sums_with}
use Rattle.symbols.specs.Syndromes.{four_rows}
use Rattle.fillings.specs.Filling.{erased_of, four_row_sums}
use Rattle.fillings.specs.Steps.{syndromes_with}
use Rattle.fillings.proofs.Placing.{sums_by, has_own, has_with}
use Rattle.fillings.proofs.Wanting.{suited, unsuited}
use Rattle.fillings.proofs.fill.fill_second.Goals as goal
use Rattle.fillings.proofs.fill.fill_second.Goals.{After-numbers_with-numbers, Start}

-- once y stands at the first
module _ (c : After-numbers_with-numbers) where
  abbrev start : Start
  start = (goal.at.After-numbers_with-numbers c).Start

  -- the numbers and the syndromes of the sums
  has : sums_by c.numbers_with-numbers.result
      (syndromes_with start.args.q start.args.first start.args.y start.args.sums.syndromes)
      ≡ sums_with (four_rows start.args.q start.args.n) (erased_of start.args.first) start.args.y
      (four_row_sums start.args.sums)
  has =
      has_with start.args.q start.args.n (omega (arith, start.requires)) start.args.y start.args.first
      (has_own start.args.sums c.from.ensures.0) c.numbers_with-numbers.ensures.are

pub returns-then-not-suits : goal.returns-then-not-suits
returns-then-not-suits c =
    let moved = (goal.at.returns-then-not-suits c).After-numbers_with-numbers in
    let tested = c.before in
    unsuited _ _ (has moved) (start moved).args.second tested.wanted-z.ensures tested.suits.ensures c.if-not-suits.true

pub returns : goal.returns
returns c =
    let moved = (goal.at.returns c).After-numbers_with-numbers in
    let args = (start moved).args in
    let both = c.before in
    let first = both.before in
    let tested = first.before.before in
    let z = tested.wanted-z in
    let after = both.syndromes_with.ensures ∙ ap (syndromes_with args.q args.second z.result) first.syndromes_with-after.ensures in
    suited _ _ (has moved) args.second z.ensures tested.suits.ensures first.if-not-suits.false after c.one_if_near.ensures
