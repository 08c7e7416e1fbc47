-- `show` meets its contract: the cell is the part of the queue that is lent, and byte 0 is then zeroed.
-- Assumes nothing.
use mathlib.Core.Path.{◌≡◌, sym, ap, ◌∙◌}
use mathlib.Core.List.{List}
use Prim.Native.Nat.{ℕ, ◌+◌, ◌-◌, ◌*◌}
use native.Mathlib.Omega.{arith}
use lib.ListN.{length, set, take, drop, length-take, length-drop}
use Rattle.queue_theory.specs.Layout.{cell_size}
use Rattle.queue_theory.specs.Operations.{shown_cell}
use Rattle.modular_theory.proofs.Search.{holds}
use Rattle.cells.proofs.Bytes.{lent_part, copied_same}
use Rattle.cells.proofs.Cells.{fits_both, shows, keeps, cell_shown}
use Rattle.cells.proofs.show.Goals as goal

pub returns-then-cell-queue : goal.returns-then-cell-queue
unfolding shown_cell
returns-then-cell-queue c =
    let s = c.args.queue.now in
    let out = c.args.out.now in
    let i = c.args.cell in
    let (in_queue, fills) = fits_both s out i (holds _ c.if-cell-queue.true) in
    let part = take (i * cell_size + cell_size - i * cell_size) (drop (i * cell_size) s) in
    let same : length out ≡ length part = simp (length-take, length-drop) (omega arith) in
    ap (λ (l : List ℕ). set l 0 0) (c.copy.ensures ∙ copied_same out part same ∙ lent_part s (i * cell_size) cell_size)
    ∙ cell_shown s i in_queue
    ∙ sym (shows s out i in_queue fills)

pub returns-else-cell-queue : goal.returns-else-cell-queue
returns-else-cell-queue c = keeps c.args.queue.now c.args.out.now c.args.cell c.if-cell-queue.false
