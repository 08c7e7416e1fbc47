-- `modular::sum::remainders` meets its contract. The invariant: the sums passed are reduced.
-- Assumes nothing.
use Rattle.std.proofs.Common.{get_or, sym, refl, ◌∙◌, arith}
use Rattle.modular.proofs.Filling.{filled_none, filled_more}
use Rattle.modular.proofs.Dividing.{residue_is, residues_none, residues_all}
use Rattle.modular.proofs.sum.remainders.Goals as goal

pub returns-then-q-eq0 : goal.returns-then-q-eq0
returns-then-q-eq0 c = rw c.if-q-eq0.true (residues_none (λ i. get_or c.args.sums.now i 0) 97)

pub loop-i-init : goal.loop-i-init
loop-i-init c = filled_none _ _ refl

pub loop-i-preserved : goal.loop-i-preserved
loop-i-preserved c =
    let is = rw c.from-levels.ensures at c.remainder_by.ensures ∙ sym (residue_is _ (omega (arith, c.if-q-eq0.false))) in
    filled_more c.loop-i.invariant c.loop-i-test.true is

pub returns : goal.returns
returns c = residues_all _ _ c.loop-i.invariant c.loop-i-test.false
