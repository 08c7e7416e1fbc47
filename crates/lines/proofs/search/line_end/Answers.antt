use Rattle.std.proofs.Common.{◌-◌, length, refl, ◌∙◌, arith}
use Rattle.lines.proofs.Ends.{no_end, none_more, found}
use Rattle.lines.proofs.search.line_end.Goals as goal

pub returns-in-Some : goal.returns-in-Some
returns-in-Some c = found _ _ _ _ (omega arith) c.loop-at.invariant.none (c.in-Some.ensures)

pub loop-at-preserved : goal.loop-at-preserved
loop-at-preserved c =
    let i = c.loop-at.invariant in
    record {
      in_range = omega arith;
      none = none_more _ _ _ _ (omega arith) (omega arith) i.none (c.in_default.ensures);
    }

pub returns-in_err-i : goal.returns-in_err-i
returns-in_err-i c =
    let i = c.loop-at.invariant in
    c.from_residual.ensures ∙ no_end _ (λ j l. none_more _ _ _ (length c.args.input.now - c.loop-at.at) refl (omega arith) i.none c.in_err-i.ensures j (omega arith))

pub returns : goal.returns
returns c = found _ _ _ _ (omega arith) c.loop-at.invariant.none (c.in_ok-i.ensures)
