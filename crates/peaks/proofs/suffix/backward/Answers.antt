-- `peaks::suffix::backward` meets its contract. The invariant: the lanes passed have one symbol more.
-- Assumes nothing.
use mathlib.Core.Path.{◌≡◌, ap₂, ◌∙◌}
use Prim.Native.Nat.{max}
use native.Mathlib.Omega.{arith}
use Rattle.peaks_theory.specs.Costs.{gap}
use Rattle.peaks.specs.Sums.{zero_sum}
use Rattle.peaks.specs.Steps.{next_sum}
use Rattle.peaks.proofs.SideBySide.{made_next, made_more, sum_next}
use Rattle.peaks.proofs.suffix.backward.Goals as goal

pub loop-t-preserved : goal.loop-t-preserved
loop-t-preserved c =
    let inv = c.loop-t.invariant in
    let a = c.args in
    let sum = sum_next a.h a.up.now inv.0 in
    let size : c.abs_diff.result ≡ gap (next_sum a.h a.up.now a.sums.now c.loop-t.t) zero_sum = omega (arith, c.abs_diff.ensures, sum) in (
      made_more inv.0 c.loop-t-test.true sum,
      made_more inv.1 c.loop-t-test.true (c.max.ensures ∙ ap₂ max (made_next inv.1) size),
    )
