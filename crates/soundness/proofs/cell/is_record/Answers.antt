-- `is_record` meets its contract: its tests are the definition's.
-- Assumes nothing.
use mathlib.Core.Path.{ap, ◌∙◌}
use mathlib.Core.Bool.{Bool, ◌&&◌}
use lib.ListN.{get_or}
use Rattle.queue_theory.specs.Sound.{is_box, is_padded, is_record}
use Rattle.cells.proofs.Bytes.{lent_rest}
use Rattle.soundness.proofs.cell.is_record.Goals as goal

pub returns : goal.returns
unfolding is_record
returns c =
    let r = c.args.body.now in
    ap (λ (b : Bool). is_box (get_or r 0 0) && b) (c.is_word.ensures ∙ ap (is_padded (get_or r 1 0)) (lent_rest r 2))
