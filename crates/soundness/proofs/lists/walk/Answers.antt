-- `walk` meets its contract. The invariant: what is left to walk gives the test, the counts and the cell of the whole list.
-- Assumes nothing.
use mathlib.Core.Path.{◌≡◌, refl, sym, ap, ◌∙◌}
use mathlib.Core.Logic.{inl, inr}
use mathlib.Core.Bool.{true}
use Prim.Native.Nat.{◌≤◌}
use native.Mathlib.Omega.{arith}
use Rattle.queue_theory.specs.Layout.{Size, capacity}
use Rattle.queue_theory.specs.Sound.{is_cell}
use Rattle.queue_theory.proofs.Lists.{size_of}
use Rattle.soundness.specs.declared.lists.Walked.{Walked}
use Rattle.soundness.specs.Walked.{is_used}
use Rattle.soundness.proofs.Walks.{walk_over, walk_fails, walk_on, cell_below}
use Rattle.soundness.proofs.lists.walk.Goals as goal
use Rattle.soundness.proofs.lists.walk.Goals.{Else-not-is_cell, In-loop-met}
use Rattle.soundness.proofs.lists.walk.Goals.{then-met-number, else-met-number, else-loop-met-test, then-loop-met-test+then-cell-eq0}

size : (c : In-loop-met) → Size c.args.queue.now (capacity c.args.queue.now)
size c = size_of c.args.queue.now c.requires.0

good : (c : Else-not-is_cell) → is_cell c.args.queue.now (is_used c.args.kind) c.loop-met.cell ≡ true
good c = sym c.is_cell.ensures ∙ c.if-not-is_cell.false

cell_in : (c : Else-not-is_cell) → (c.loop-met.cell ≤ capacity c.args.queue.now) × (capacity c.args.queue.now ≤ 255)
cell_in c =
    (cell_below c.args.queue.now (is_used c.args.kind) c.loop-met.cell (good c), (size (goal.at.Else-not-is_cell c).In-loop-met).few)

pub returns-then-not-is_cell : goal.returns-then-not-is_cell
returns-then-not-is_cell c =
    walk_fails c.loop-met.invariant.0 (omega arith) c.if-cell-eq0.false (sym c.is_cell.ensures ∙ c.if-not-is_cell.true)

pub offset_bounds-seen-cell : goal.offset_bounds-seen-cell
offset_bounds-seen-cell c = omega (arith, cell_in (goal.at.offset_bounds-seen-cell c).Else-not-is_cell)

pub bounds-seen-cell : goal.bounds-seen-cell
bounds-seen-cell c = omega (arith, cell_in (goal.at.bounds-seen-cell c).Else-not-is_cell)

pub overflow_add-seen : goal.overflow_add-seen
overflow_add-seen c =
    omega (arith, c.loop-met.invariant.0.bound c.loop-met.cell, cell_in (goal.at.overflow_add-seen c).Else-not-is_cell)

pub bounds-seen-cell-in-loop-met : goal.bounds-seen-cell-in-loop-met
bounds-seen-cell-in-loop-met c = omega (arith, cell_in (goal.at.bounds-seen-cell-in-loop-met c).Else-not-is_cell)

pub offset_bounds-queue-cell : goal.offset_bounds-queue-cell
offset_bounds-queue-cell c = omega (arith, cell_in (goal.at.offset_bounds-queue-cell c).Else-not-is_cell)

pub bounds-queue-cell : goal.bounds-queue-cell
bounds-queue-cell c =
    omega (arith, cell_in (goal.at.bounds-queue-cell c).Else-not-is_cell, (size (goal.at.bounds-queue-cell c).In-loop-met).long)

pub loop-met-preserved : goal.loop-met-preserved
loop-met-preserved c =
    let branch = c.if-met-number.branch in (
      walk_on c.loop-met.invariant.0 (omega arith) c.if-cell-eq0.false (good (goal.at.loop-met-preserved c).Else-not-is_cell) _ _ _
          (omega arith) c.from-cell-in-loop-met.ensures
          (elim branch [
            | then-met-number w ↦ inl (w.if-met-number.true, ap Walked.cell w.found-is)
            | else-met-number w ↦ inr (omega arith, ap Walked.cell w.found-is)
          ]),
      elim branch [ then-met-number w ↦ ap Walked.records w.found-is | else-met-number w ↦ ap Walked.records w.found-is ],
    )

pub returns : goal.returns
returns c =
    walk_over c.loop-met.invariant.0 c.loop-met.found refl c.loop-met.invariant.1
    (elim c.loop-met-test.branch [ else-loop-met-test w ↦ inr (omega arith) | then-loop-met-test+then-cell-eq0 w ↦ inl w.if-cell-eq0.true ])
    c.then_some.result c.then_some.ensures
