-- `fillings::erasures::unless_erased` meets its contract: its test is that of the definition.
-- Assumes nothing.
use borrow.Author.Tests.{eq-eqb, ne_eqb}
use Rattle.fillings.specs.Cleared.{unless_erased}
use Rattle.fillings.proofs.erasures.unless_erased.Goals as goal

pub returns-then-x-eq-ERASURE : goal.returns-then-x-eq-ERASURE
unfolding unless_erased
returns-then-x-eq-ERASURE c = rw (eq-eqb _ _ c.if-x-eq-ERASURE.true, unless_erased)

pub returns-else-x-eq-ERASURE : goal.returns-else-x-eq-ERASURE
unfolding unless_erased
returns-else-x-eq-ERASURE c = rw (ne_eqb _ _ c.if-x-eq-ERASURE.false, unless_erased)
