-- What the writes to a queue's cells make of its bytes.
-- Assumes nothing.
use mathlib.Core.Path.{◌≡◌, refl, sym, ap, ap₂, ◌∙◌}
use mathlib.Core.Bool.{Bool, true, false, ◌&&◌}
use mathlib.Core.List.{List, ◌∷◌}
use Prim.Native.Nat.{ℕ, suc, ◌+◌, ◌-◌, ◌*◌, ◌/◌, ◌≤◌, ◌<◌}
use native.Mathlib.Numerals.{add-one}
use native.Mathlib.Omega.{arith}
use lib.Dec.{T, ltb, eqb, eqb→eq, ltb→lt, lt→ltb, leb→le, le→leb}
use lib.ListN.{length, take, drop, set}
use lib.Seq.{drop-cons}
use borrow.Rule.Slice.PartMut.{put_mid}
use borrow.Author.Tests.{lt-leb, eq-eqb}
use Rattle.modular_theory.proofs.Search.{and_left, and_right, and_intro, same_test, holds}
use Rattle.queue_theory.specs.Lists.{zeros}
use Rattle.queue_theory.specs.Layout.{cell_size, body_size, next_cell, first_free, cell_body, set_next, set_first_free, set_body}
use Rattle.queue_theory.specs.Operations.{linked, shown_cell, dequeued}
use Rattle.cells.specs.Cells.{has_cell, written_if, shown_at, released}

written_if_lem : (b : Bool) (written before : List ℕ) → T b → written_if b written before ≡ written
written_if_lem true written before h = refl
written_if_lem false written before h = absurd h

-- the test of a cell by the number of cells
counted_cell : (s : List ℕ) (i : ℕ) → ltb i (length s / cell_size) ≡ has_cell s i
counted_cell s i =
    same_test (ltb i (length s / cell_size)) (has_cell s i)
    (λ t. let h = ltb→lt i (length s / cell_size) t in le→leb ((i + 1) * cell_size) (length s) (omega arith))
    (λ t. let h = leb→le ((i + 1) * cell_size) (length s) t in lt→ltb i (length s / cell_size) (omega arith))

module _ (s out : List ℕ) (i : ℕ) where
  -- the test before a cell is shown
  abbrev pub fits : Bool
  fits = ltb i (length s / cell_size) && eqb (length out) cell_size

  -- a cell that is shown
  pub shows : (i + 1) * cell_size ≤ length s → length out ≡ cell_size → shown_at s i out ≡ shown_cell s i
  unfolding shown_at
  shows h k =
      let long = eqb (length out) cell_size in
      written_if_lem (has_cell s i && long) (shown_cell s i) out
      (and_intro (has_cell s i) long (le→leb ((i + 1) * cell_size) (length s) h) (holds long (eq-eqb (length out) cell_size k)))

  -- what the test says, where it holds and where it fails
  pub fits_both : T fits → ((i + 1) * cell_size ≤ length s) × (length out ≡ cell_size)
  fits_both t =
      let h = ltb→lt i (length s / cell_size) (and_left (ltb i (length s / cell_size)) (eqb (length out) cell_size) t) in
      (omega arith, eqb→eq (length out) cell_size (and_right (ltb i (length s / cell_size)) (eqb (length out) cell_size) t))

  pub keeps : fits ≡ false → out ≡ shown_at s i out
  unfolding shown_at
  keeps e = rw (sym (ap (λ (b : Bool). b && eqb (length out) cell_size) (counted_cell s i)) ∙ e)

-- one more link
pub link_on : (s : List ℕ) (i n : ℕ) → i < n → linked s i (n - i) ≡ linked (set s (i * cell_size) (i + 1)) (i + 1) (n - (i + 1))
link_on s i n h =
    let e : n - i ≡ suc (n - (i + 1)) = omega arith in
    let f : suc i ≡ i + 1 = omega arith in
    ap (linked s i) e ∙ ap (λ (j : ℕ). linked (set s (i * cell_size) j) j (n - (i + 1))) f

-- a cell with byte 0 as zero
pub cell_shown : (s : List ℕ) (i : ℕ) → (i + 1) * cell_size ≤ length s → set (take cell_size (drop (i * cell_size) s)) 0 0 ≡ 0 ∷ cell_body s i
cell_shown s i h =
    let k : i * cell_size < length s = omega arith in
    ap (λ (l : List ℕ). set (take cell_size l) 0 0) (drop-cons s (i * cell_size) 0 k)
    ∙ ap (λ (n : ℕ). 0 ∷ take body_size (drop n s)) (sym (add-one (i * cell_size)))

-- the first used cell, where it lies in the bytes and where it does not
pub releases : (s : List ℕ) → (next_cell s 0 + 1) * cell_size ≤ length s → released s ≡ dequeued s
unfolding released
releases s h = written_if_lem (has_cell s (next_cell s 0)) (dequeued s) s (le→leb ((next_cell s 0 + 1) * cell_size) (length s) h)

pub stays : (s : List ℕ) → length s < (next_cell s 0 + 1) * cell_size → s ≡ released s
unfolding released
stays s h = rw (lt-leb ((next_cell s 0 + 1) * cell_size) (length s) h)

-- the links of the first used cell, put first on the free list before cell y
abbrev links : List ℕ → ℕ → List ℕ
links s y = set_first_free (set_next (set_next s 0 (next_cell s (next_cell s 0))) (next_cell s 0) y) (next_cell s 0)

-- and its body cleared
pub freed : (s z : List ℕ) (y : ℕ) → (next_cell s 0 + 1) * cell_size ≤ length s → y ≡ first_free s → z ≡ zeros body_size
    → put_mid (next_cell s 0 * cell_size + 1) (next_cell s 0 * cell_size + cell_size - (next_cell s 0 * cell_size + 1)) (links s y) z ≡ released s
unfolding dequeued
freed s z y h e f =
    let x = next_cell s 0 in
    let n : x * cell_size + cell_size - (x * cell_size + 1) ≡ body_size = omega arith in
    ap₂ (λ (k : ℕ) (l : List ℕ). put_mid (x * cell_size + 1) k (links s y) l) n f
    ∙ ap (λ (v : ℕ). set_body (links s v) x (zeros body_size)) e
    ∙ sym (releases s h)
