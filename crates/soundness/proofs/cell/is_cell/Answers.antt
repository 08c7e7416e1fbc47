-- `is_cell` meets its contract: the cell's body is the part of the queue that is lent.
-- Assumes nothing.
use mathlib.Core.Path.{◌≡◌, ap, subst, ◌∙◌}
use mathlib.Core.Bool.{Bool, true, ◌&&◌}
use mathlib.Core.List.{List}
use Prim.Native.Nat.{ℕ, ◌+◌, ◌-◌, ◌*◌, ◌≤◌, ◌<◌}
use native.Mathlib.Omega.{arith}
use lib.Dec.{leb}
use lib.ListN.{length, take, drop}
use borrow.Author.Tests.{le-leb, lt-leb}
use Rattle.queue_theory.specs.Layout.{cell_size, body_size, capacity, cell_body}
use Rattle.queue_theory.specs.Sound.{is_body, is_cell, is_record}
use Rattle.queue_theory.specs.Lists.{all_zero}
use Rattle.queue_theory.proofs.Lists.{size_of}
use Rattle.cells.proofs.Bytes.{lent_part}
use Rattle.soundness.specs.Walked.{is_used}
use Rattle.soundness.proofs.Conditions.{off, on}
use Rattle.soundness.proofs.cell.is_cell.Goals as goal
use Rattle.soundness.proofs.cell.is_cell.Goals.{Else-cell-capacity}

-- what `capacity` ensures, at the cell
in_queue : (c : Else-cell-capacity) → leb c.args.cell (capacity c.args.queue.now) ≡ true
in_queue c = le-leb _ _ (subst (λ (n : ℕ). c.args.cell ≤ n) c.capacity.ensures c.if-cell-capacity.false)

fits : (c : Else-cell-capacity) → c.args.cell * cell_size + 1 + body_size ≤ length c.args.queue.now
fits c = let z = size_of c.args.queue.now c.requires in omega (arith, z.long)

-- the test of the body, made of the part that is lent
by_body : (c : Else-cell-capacity) (test : List ℕ → Bool) (r : Bool)
    → let s = c.args.queue.now in
    let i = c.args.cell in
    let at = i * cell_size + 1 in
    r ≡ test (take (at + body_size - at) (drop at s)) → r ≡ (leb i (capacity s) && test (cell_body s i))
by_body c test r e =
    let s = c.args.queue.now in
    let i = c.args.cell in
    on (leb i (capacity s)) (test (cell_body s i)) r (in_queue c) (e ∙ ap test (lent_part s (i * cell_size + 1) body_size))

pub returns-then-cell-capacity : goal.returns-then-cell-capacity
unfolding is_cell
returns-then-cell-capacity c =
    let s = c.args.queue.now in
    let i = c.args.cell in
    off (leb i (capacity s)) (is_body (is_used c.args.kind) (cell_body s i))
    (lt-leb _ _ (subst (λ (n : ℕ). n < i) c.capacity.ensures c.if-cell-capacity.true))

pub overflow_mul-a : goal.overflow_mul-a
overflow_mul-a c = omega (arith, fits (goal.at.overflow_mul-a c).Else-cell-capacity)

pub overflow_add-a : goal.overflow_add-a
overflow_add-a c = omega (arith, fits (goal.at.overflow_add-a c).Else-cell-capacity)

pub overflow_add-body : goal.overflow_add-body
overflow_add-body c = omega (arith, fits (goal.at.overflow_add-body c).Else-cell-capacity)

pub slice_bounds-body-end : goal.slice_bounds-body-end
slice_bounds-body-end c = fits (goal.at.slice_bounds-body-end c).Else-cell-capacity

pub returns-in-Used : goal.returns-in-Used
unfolding is_cell
returns-in-Used c =
    rw c.in-Used.is (by_body (goal.at.returns-in-Used c).Else-cell-capacity is_record c.is_record.result c.is_record.ensures)

pub returns-in-Free : goal.returns-in-Free
unfolding is_cell
returns-in-Free c =
    rw c.in-Free.is (by_body (goal.at.returns-in-Free c).Else-cell-capacity all_zero c.all_zero.result c.all_zero.ensures)
