-- `fillings::fill::fill_two` meets its contract. The invariant: at no level passed can the second be filled.
-- Assumes nothing.
use native.Mathlib.Omega.{arith}
use borrow.Author.Count.{below_more}
use Rattle.fillings.proofs.Trying.{unfilled, two_none, two_found}
use Rattle.fillings.proofs.fill.fill_two.Goals as goal

pub returns-in-Some : goal.returns-in-Some
returns-in-Some c = two_found _ _ _ _ _ c.loop-y-test.true c.loop-y.invariant c.in-Some.ensures

pub loop-y-preserved : goal.loop-y-preserved
loop-y-preserved c = below_more _ _ c.loop-y.invariant (unfilled _ _ _ c.in_default.ensures)

pub returns : goal.returns
returns c = two_none _ _ _ _ (λ j l. c.loop-y.invariant j (omega (arith, l, c.loop-y-test.false)))
