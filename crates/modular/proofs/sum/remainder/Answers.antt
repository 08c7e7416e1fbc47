-- `modular::sum::remainder` meets its contract: what fits 16 bits has a remainder by the inverse, and what does not is divided.
-- Assumes nothing.
use Rattle.std.proofs.Common.{sym, ◌∙◌, arith}
use Rattle.modular.specs.Remainder.{residue}
use Rattle.modular.proofs.Dividing.{residue_is}
use Rattle.modular.proofs.sum.remainder.Goals as goal

pub returns-then-q-eq0 : goal.returns-then-q-eq0
unfolding residue
returns-then-q-eq0 c = rw c.if-q-eq0.true

pub returns-in-Ok : goal.returns-in-Ok
returns-in-Ok c =
    rw (c.from-levels.ensures, c.in-Ok.ensures.1) at c.remainder_by.ensures
    ∙ sym (residue_is _ (omega (arith, c.if-q-eq0.false)))

pub returns-in-Err : goal.returns-in-Err
returns-in-Err c = rw c.from.ensures (sym (residue_is _ (omega (arith, c.if-q-eq0.false))))
