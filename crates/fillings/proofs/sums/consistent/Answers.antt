-- `fillings::sums::consistent` meets its contract: the tests of the definition.
-- Assumes nothing.
use Rattle.std.proofs.Common.{rules, w32, SFits, ne_eqb}
use Rattle.modular_theory.proofs.Integer.{is_not_zero}
use Rattle.modular.proofs.Signed.{value, zero_read, other_read}
use Rattle.fillings.specs.Steps.{consistent_numbers}
use Rattle.fillings.proofs.sums.consistent.Goals as goal

pub returns-then-numbers-eq0 : goal.returns-then-numbers-eq0
unfolding consistent_numbers
returns-then-numbers-eq0 c =
    let fits : SFits w32 c.args.numbers.excess = search rules in
    rw (zero_read (value fits) c.if-numbers-eq0.true) c.eq.ensures

pub returns-else-numbers-eq0 : goal.returns-else-numbers-eq0
unfolding consistent_numbers
returns-else-numbers-eq0 c =
    let fits : SFits w32 c.args.numbers.excess = search rules in
    rw (ne_eqb _ _ c.if-numbers-eq0.false, is_not_zero _ (other_read (value fits) c.if-numbers-eq0.false))
