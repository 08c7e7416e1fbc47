-- `encoder::word::put` meets its contract: w is copied, and the check symbols are those of its weights.
-- Assumes nothing.
use mathlib.Core.Path.{ap, ◌∙◌}
use Rattle.symbols.specs.Weight.{checks_of}
use Rattle.encoder.proofs.Writing.{checks_put}
use Rattle.encoder.proofs.word.put.Goals as goal

pub returns : goal.returns
returns c =
    let t = c.args.row in
    let checks = c.checks_of-checks.ensures ∙ ap (checks_of t.q t.delta) c.weigh.ensures in
    rw c.copy_from_slice.ensures.after (checks_put t c.requires.0 c.args.w.now c.args.out.now c.requires.1 c.requires.2 checks)
