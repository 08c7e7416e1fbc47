-- What an enqueue writes into its cell, and where the operations write and read.
-- Assumes nothing.
use mathlib.Core.Path.{◌≡◌, refl, sym, ap, ap₂, ◌∙◌}
use mathlib.Core.Logic.{◌≢◌}
use mathlib.Core.List.{List, [], ◌∷◌, ◌++◌, append_assoc}
use Prim.Native.Nat.{ℕ, zero, suc, ◌+◌, ◌-◌, ◌*◌, ◌≤◌}
use native.Mathlib.Nat.{not-suc-le-zero, le_of_suc-le-suc, sub-zero}
use native.Mathlib.Omega.{arith}
use lib.ListN.{length, get_or, take, drop, set, take-append-drop}
use lib.Seq.{length-take-le}
use borrow.Rule.Slice.PartMut.{put_mid}
use Rattle.queue_theory.specs.Lists.{zeros, count}
use Rattle.queue_theory.specs.Layout.{cell_size, body_size, padded_size, capacity, next_cell}
use Rattle.queue_theory.specs.Layout.{first_free, cell_body, set_next, set_first_free, set_body}
use Rattle.queue_theory.specs.Chains.{used, last_used}
use Rattle.queue_theory.specs.Sound.{record_of, Queue}
use Rattle.queue_theory.specs.Operations.{cell_of}
use Rattle.queue_theory.proofs.Counts.{in_here, in_later}
use Rattle.queue_theory.proofs.Writes.{length_cell_body, body_set_next, body_set_free}
use Rattle.queue_theory.proofs.Meaning.{zeros_are}
use Rattle.queue_theory.proofs.Lists.{Lists, lists_of, used_in, free_in}
use Rattle.queue_theory.proofs.Answers.{Entering}
use Rattle.queue_theory.proofs.Laws.{parts, lists_before, lists_first, first_parts}
use Rattle.queue_theory.proofs.Enqueue as enq

-- a record put into a body of zeros
drop_zeros : (k m : ℕ) (l : List ℕ) → k ≤ m → drop k (zeros m ++ l) ≡ zeros (m - k) ++ l
drop_zeros zero m l h = ap (λ (n : ℕ). zeros n ++ l) (sym (sub-zero m))
drop_zeros (suc k) zero l h = absurd (not-suc-le-zero h)
drop_zeros (suc k) (suc m) l h =
    let e : m - k ≡ suc m - suc k = omega arith in
    drop_zeros k m l (le_of_suc-le-suc h) ∙ ap (λ (n : ℕ). zeros n ++ l) e

-- A before the body, Z after it
pub put_record : (A Z w : List ℕ) (b p : ℕ) → length w ≤ padded_size
    → put_mid (suc (suc (length A))) (length w) (set (set (A ++ (zeros body_size ++ Z)) (length A) b) (suc (length A)) p) w
    ≡ A ++ (record_of b p w ++ Z)
unfolding record_of
put_record [] Z w b p h =
    let n = length w in
    let padded : w ++ drop n (zeros padded_size ++ Z) ≡ (w ++ zeros (padded_size - n)) ++ Z =
    ap (λ (l : List ℕ). w ++ l) (drop_zeros n padded_size Z h) ∙ sym (append_assoc w (zeros (padded_size - n)) Z) in
    ap (λ (l : List ℕ). b ∷ p ∷ l) padded
put_record (x ∷ A) Z w b p h = ap (λ (l : List ℕ). x ∷ l) (put_record A Z w b p h)

-- box, profile and n bytes written into cell i, as `store` writes them
abbrev pub put_fields : List ℕ → ℕ → ℕ → ℕ → ℕ → List ℕ → List ℕ
put_fields s i b p n w =
    let at = i * cell_size in
    put_mid (at + 3) (at + 3 + n - (at + 3)) (set (set s (at + 1) b) (at + 2) p) w

module _ (s w : List ℕ) (i b p : ℕ) where
  front : List ℕ
  front = take (i * cell_size + 1) s

  back : List ℕ
  back = drop body_size (drop (i * cell_size + 1) s)

  abbrev put : ℕ → ℕ → ℕ → ℕ → List ℕ → List ℕ
  put j k m n l = put_mid m n (set (set l j b) k p) w

  cut : cell_body s i ≡ zeros body_size → s ≡ front ++ (zeros body_size ++ back)
  unfolding front back
  cut free =
      let rest = drop (i * cell_size + 1) s in
      sym (take-append-drop (i * cell_size + 1) s)
      ∙ ap (λ (l : List ℕ). take (i * cell_size + 1) s ++ l)
      (sym (take-append-drop body_size rest) ∙ ap (λ (l : List ℕ). l ++ drop body_size rest) free)

  long : (i + 1) * cell_size ≤ length s → length front ≡ i * cell_size + 1
  unfolding front
  long fits = length-take-le (i * cell_size + 1) s (omega arith)

  -- a record written into a free cell
  pub store_put : (i + 1) * cell_size ≤ length s → cell_body s i ≡ zeros body_size → length w ≤ padded_size
      → put_fields s i b p (length w) w ≡ set_body s i (record_of b p w)
  unfolding front back
  store_put fits free short =
      let at = i * cell_size in
      let n = at + 3 + length w - (at + 3) in
      let f = long fits in
      let zeroed = front ++ (zeros body_size ++ back) in
      let e₁ : at + 1 ≡ length front = sym f in
      let e₂ : at + 2 ≡ suc (length front) = omega (arith, f) in
      let e₃ : at + 3 ≡ suc (suc (length front)) = omega (arith, f) in
      let e₄ : n ≡ length w = omega arith in
      ap (λ (l : List ℕ). put (at + 1) (at + 2) (at + 3) n l) (cut free)
      ∙ ap₂ (λ (j k : ℕ). put j k (at + 3) n zeroed) e₁ e₂
      ∙ ap₂ (λ (m l : ℕ). put (length front) (suc (length front)) m l zeroed) e₃ e₄
      ∙ put_record front back w b p short

-- Where an admitted enqueue writes.
module _ (s : List ℕ) (b p : ℕ) (w : List ℕ) (e : Entering s b p w) where
  ls : Lists s (capacity s) (used s) (first_free s ∷ (parts s b p w e).0)
  ls = lists_before s b p w e

  pub cell_fits : (first_free s + 1) * cell_size ≤ length s
  cell_fits = omega (arith, (free_in ls (first_free s) (in_here (first_free s) (parts s b p w e).0)).1, ls.size.long)

  pub last_fits : (last_used s + 1) * cell_size ≤ length s
  unfolding last_used
  last_fits =
      omega (
        arith,
        enq.last_below s (capacity s) (first_free s) (used s) (parts s b p w e).0 (zeros body_size) ls refl,
        ls.size.long,
      )

  -- the cell is zero, also after the links have been written
  pub cell_zero : (x l y : ℕ) → cell_body (set_next (set_next (set_first_free s x) (first_free s) 0) l y) (first_free s) ≡ zeros body_size
  cell_zero x l y =
      let c = first_free s in
      let z = zeros_are (cell_body s c) (ls.free_cells c (in_here c (parts s b p w e).0)).good in
      body_set_next (set_next (set_first_free s x) c 0) l y c
      ∙ body_set_next (set_first_free s x) c 0 c
      ∙ body_set_free s x c e.room
      ∙ z
      ∙ ap zeros (length_cell_body s c cell_fits)

-- Where a dequeue writes.
pub first_fits : (s : List ℕ) (q : Queue s) → next_cell s 0 ≢ 0 → (next_cell s 0 + 1) * cell_size ≤ length s
first_fits s q d =
    let ls = lists_first s q d in
    omega (arith, (used_in ls (next_cell s 0) (in_here (next_cell s 0) (first_parts s q d).0)).1, ls.size.long)

-- Where a peek reads.
get_d_in : (l : List ℕ) (k : ℕ) → get_or l k 0 ≢ 0 → 1 ≤ count (get_or l k 0) l
get_d_in [] k d = absurd (d refl)
get_d_in (x ∷ l) zero d = in_here x l
get_d_in (x ∷ l) (suc k) d = in_later (get_or l k 0) x l (get_d_in l k d)

pub record_fits : (s : List ℕ) → Queue s → (k : ℕ) → cell_of s k ≢ 0 → (cell_of s k + 1) * cell_size ≤ length s
unfolding cell_of
record_fits s q zero d = absurd (d refl)
record_fits s q (suc k) d =
    let ls = lists_of s q in
    omega (arith, (used_in ls (get_or (used s) k 0) (get_d_in (used s) k d)).1, ls.size.long)
