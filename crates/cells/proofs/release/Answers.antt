-- `release` meets its contract: the links as the definition writes them, and the part that is lent cleared.
-- Assumes nothing.
use mathlib.Core.Path.{◌≡◌, sym, ap, ◌∙◌}
use Prim.Native.Nat.{◌+◌, ◌*◌, ◌≤◌}
use native.Mathlib.Omega.{arith}
use lib.ListN.{length}
use lib.Seq.{get_or-set_other}
use Rattle.queue_theory.specs.Lists.{zeros}
use Rattle.queue_theory.specs.Layout.{cell_size, body_size, next_cell}
use Rattle.cells.proofs.Cells.{freed, stays}
use Rattle.cells.proofs.release.Goals as goal

pub returns-then-queue-lt-CELL_SIZE : goal.returns-then-queue-lt-CELL_SIZE
returns-then-queue-lt-CELL_SIZE c = stays c.args.queue.now (omega arith)

pub returns-then-queue-e : goal.returns-then-queue-e
returns-then-queue-e c = stays c.args.queue.now (omega arith)

pub returns : goal.returns
returns c =
    let s = c.args.queue.now in
    let z = c.fill.new.self in
    let fit : (next_cell s 0 + 1) * cell_size ≤ length s = omega arith in
    let long : length z ≡ body_size = omega arith in
    let zero : z ≡ zeros body_size = c.fill.ensures.after (λ y e. e) ∙ ap zeros (sym c.fill.ensures.len ∙ long) in
    rw c.from-at.ensures (freed s z _ fit (get_or-set_other s 0 1 _ 0 (omega arith)) zero)
