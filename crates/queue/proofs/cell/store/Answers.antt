-- `store` meets its contract: the links as the definition writes them, and the record in a cell of zeros.
-- Assumes nothing.
use mathlib.Core.Path.{◌≡◌, sym, ap, ◌∙◌}
use mathlib.Core.List.{List}
use Prim.Native.Nat.{ℕ, ◌+◌, ◌*◌, ◌≤◌}
use native.Mathlib.Omega.{arith}
use lib.ListN.{length, get_or, set, length-set}
use Rattle.queue_theory.specs.Layout.{cell_size, first_free, set_body}
use Rattle.queue_theory.specs.Sound.{record_of}
use Rattle.queue_theory.specs.Operations.{enqueued}
use Rattle.queue_theory.proofs.Lists.{size_of}
use Rattle.queue_theory.proofs.Record.{word_fits}
use Rattle.queue_theory.proofs.Answers.{Entering, entering}
use Rattle.cells.proofs.Bytes.{copied_same}
use Rattle.queue.proofs.Stores.{put_fields, cell_fits, last_fits, cell_zero, store_put}
use Rattle.queue.proofs.cell.store.Goals as goal
use Rattle.queue.proofs.cell.store.Goals.{Start}

-- the queue with its links written, x the cell and l the last used one
abbrev links : List ℕ → ℕ → ℕ → List ℕ
links s x l = set (set (set s 1 (get_or s (x * cell_size) 0)) (x * cell_size) 0) (l * cell_size) (get_or s 1 0)

abbrev Q : Start → List ℕ
Q c = c.args.queue.now

abbrev W : Start → List ℕ
W c = c.args.word.now

abbrev B : Start → ℕ
B c = c.args.boxno

abbrev P : Start → ℕ
P c = c.args.profile

-- the cell, and the last used one
abbrev X : Start → ℕ
X c = first_free (Q c)

abbrev L : Start → ℕ
L c = c.args.last

enters : (c : Start) → Entering (Q c) (B c) (P c) (W c)
enters c = entering (Q c) (B c) (P c) (W c) c.requires.0

-- both cells lie in the bytes, and the word in its cell
fit : (c : Start)
    → ((X c + 1) * cell_size ≤ length (Q c)) × ((L c + 1) * cell_size ≤ length (Q c)) × (2 * cell_size ≤ length (Q c)) × (length (W c) ≤ 99)
fit c =
    let e = enters c in
    let z = size_of (Q c) e.queue.size in (
      cell_fits (Q c) (B c) (P c) (W c) e,
      omega (arith, c.requires.1, last_fits (Q c) (B c) (P c) (W c) e),
      omega (arith, z.long, z.some),
      omega (arith, e.admits.long, word_fits (P c) e.admits.profiled),
    )

-- what the whole operation leaves
stored : (c : Start) (w : List ℕ) → w ≡ W c
    → put_fields (links (Q c) (X c) (L c)) (X c) (B c) (P c) (length (W c)) w
    ≡ set_body (links (Q c) (X c) (L c)) (X c) (record_of (B c) (P c) (W c))
stored c w e =
    let x = X c in
    let s = links (Q c) x (L c) in
    let same : length s ≡ length (Q c) = simp length-set in
    let free = cell_zero (Q c) (B c) (P c) (W c) (enters c) (get_or (Q c) (x * cell_size) 0) (L c) x in
    ap (put_fields s x (B c) (P c) (length (W c))) e
    ∙ store_put s (W c) x (B c) (P c) (omega (arith, fit c)) free (omega (arith, fit c))

pub bounds-queue-1 : goal.bounds-queue-1
bounds-queue-1 c = omega (arith, fit (goal.at.bounds-queue-1 c).Start)

pub overflow_mul-end : goal.overflow_mul-end
overflow_mul-end c = omega (arith, fit (goal.at.overflow_mul-end c).Start)

pub bounds-queue-at : goal.bounds-queue-at
bounds-queue-at c = omega (arith, fit (goal.at.bounds-queue-at c).Start)

pub bounds-queue-1-2 : goal.bounds-queue-1-2
bounds-queue-1-2 c = omega (arith, fit (goal.at.bounds-queue-1-2 c).Start)

pub bounds-queue-at-2 : goal.bounds-queue-at-2
bounds-queue-at-2 c = simp length-set (omega (arith, fit (goal.at.bounds-queue-at-2 c).Start))

pub bounds-queue-end : goal.bounds-queue-end
bounds-queue-end c = simp length-set (omega (arith, fit (goal.at.bounds-queue-end c).Start))

pub bounds-queue-at-3 : goal.bounds-queue-at-3
bounds-queue-at-3 c = simp length-set (omega (arith, fit (goal.at.bounds-queue-at-3 c).Start))

pub bounds-queue-at-4 : goal.bounds-queue-at-4
bounds-queue-at-4 c = simp length-set (omega (arith, fit (goal.at.bounds-queue-at-4 c).Start))

pub slice_bounds-copy-end : goal.slice_bounds-copy-end
slice_bounds-copy-end c = simp length-set (omega (arith, fit (goal.at.slice_bounds-copy-end c).Start))

pub returns : goal.returns
unfolding enqueued
returns c =
    let a = (goal.at.returns c).Start in
    let same = c.copy.auto.to in
    let long : length c.copy.new.to ≡ length (W a) = omega (arith, fit a) in
    rw c.from-at.ensures
    (stored a c.copy.new.to (c.copy.ensures ∙ copied_same _ (W a) (sym same ∙ long))
    ∙ ap (λ (z : ℕ). set_body (links (Q a) (X a) z) (X a) (record_of (B a) (P a) (W a))) c.requires.1)
