-- `symbols::sums::syndromes_of` meets its contract. The invariant: both hold the sums of the symbols passed.
-- Assumes nothing.
use mathlib.Core.Path.{◌≡◌}
use mathlib.Core.Bool.{true, false}
use native.Mathlib.Omega.{arith}
use Rattle.symbols.proofs.Parts.{part_first, part_second, part_length}
use Rattle.symbols.proofs.Rows.{summing_more, summing_all}
use Rattle.symbols.proofs.sums.syndromes_of.Goals as goal

pub loop-i-preserved : goal.loop-i-preserved
loop-i-preserved c =
    let end = c.min-i-end.result in
    let x = c.args.x.now in (
      summing_more c.loop-i.invariant.0 (part_first end x c.loop-i.i (omega arith)) c.added-first.ensures,
      summing_more c.loop-i.invariant.1 (part_second end x c.loop-i.i (omega arith)) c.added-second.ensures,
    )

pub returns : goal.returns
returns c =
    let x = c.args.x.now in
    let end = c.min-i-end.result in
    let i : c.loop-i.i ≡ end = omega arith in (
      rw (← c.min-i-end.ensures) (summing_all c.loop-i.invariant.0 c.args.q (rw i (part_length true end x)) c.reduced.ensures),
      rw (← c.min-i-end.ensures) (summing_all c.loop-i.invariant.1 c.args.q (rw i (part_length false end x)) c.reduced-2.ensures),
    )
