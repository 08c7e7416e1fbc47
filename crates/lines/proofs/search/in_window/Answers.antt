use Rattle.std.proofs.Common.{◌<◌, length, Some, ap, ◌∙◌, arith}
use Rattle.lines.proofs.Ends.{end_is, no_end}
use Rattle.lines.proofs.search.in_window.Goals as goal

pub returns-then-first-lt128 : goal.returns-then-first-lt128
returns-then-first-lt128 c =
    let i = c.loop-i.invariant in
    let f = i.ends c.if-first-lt128.true in
    let h : c.loop-i.first < length c.args.window.now = omega arith in
    ap Some c.from.ensures ∙ end_is _ _ h (λ j l. i.none j (omega (arith, f.0)) l) f.1

pub returns-else-first-lt128 : goal.returns-else-first-lt128
returns-else-first-lt128 c = no_end _ (λ j l. c.loop-i.invariant.none j (omega arith) (omega arith))
