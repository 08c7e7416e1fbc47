-- What each operation does to both lists and to the records, of any sound queue.
-- Assumes nothing.
use mathlib.Core.Path.{◌≡◌, refl, sym, ap, ap₂, subst, ◌∙◌}
use mathlib.Core.Logic.{◌≢◌, ⊎_elim}
use mathlib.Core.List.{List, [], ◌∷◌, ◌++◌, map, map-append}
use Prim.Native.Nat.{ℕ, zero, suc, ◌+◌, ◌≤◌, ◌<◌}
use native.Mathlib.Nat.{not-suc-le-zero, le_of_suc-le-suc}
use native.Mathlib.Numerals.{add-one}
use native.Mathlib.Omega.{arith}
use lib.Dec.{T}
use lib.ListN.{length, get_or, length-map, get_or-eq_default}
use Rattle.modular_theory.proofs.Search.{le_or_lt}
use Rattle.queue_theory.specs.Layout.{body_size, capacity, next_cell, first_free, cell_body}
use Rattle.queue_theory.specs.Chains.{From, used, free, records, last_used}
use Rattle.queue_theory.specs.Sound.{record_of, is_record, Queue}
use Rattle.queue_theory.specs.Operations.{enqueued, cell_of, shown_cell, dequeued, dequeue_answer}
use Rattle.queue_theory.specs.Claims.{ListsFill, EnqueueLaw, Enqueues, FullLaw, PeekLaw, DequeueLaw, Dequeues}
use Rattle.queue_theory.proofs.Counts.{map_same, in_later}
use Rattle.queue_theory.proofs.Record.{word_fits, length_record, record_good}
use Rattle.queue_theory.proofs.Lists.{Lists, lists_of, fill, used_in, used_is, free_is, queue_is}
use Rattle.queue_theory.proofs.Answers.{Entering, entering, full, showing}
use Rattle.queue_theory.proofs.Enqueue as enq
use Rattle.queue_theory.proofs.Dequeue as deq

-- a list that is met from a cell that is not 0 starts with it
pub starts_at : (s : List ℕ) (i : ℕ) (l : List ℕ) → From s i l → i ≢ 0 → (m : List ℕ) × (l ≡ i ∷ m)
starts_at s i [] f d = absurd (d f)
starts_at s i (b ∷ m) f d = (m, ap (λ (x : ℕ). x ∷ m) (sym f.0))

-- and one that is met from 0 is empty
pub empty : (s : List ℕ) (l : List ℕ) → From s 0 l → l ≡ []
empty s [] f = refl
empty s (b ∷ m) f = absurd (f.1 (sym f.0))

pub length_records : (s : List ℕ) → length (records s) ≡ length (used s)
unfolding records
length_records s = length-map (used s) (cell_body s)

pub lists_fill : ListsFill
lists_fill s q = fill (lists_of s q)

module _ (s : List ℕ) (b p : ℕ) (w : List ℕ) (e : Entering s b p w) where
  abbrev r : List ℕ
  r = record_of b p w

  pub length_r : length r ≡ body_size
  length_r = length_record b p w (omega (arith, e.admits.long, word_fits p e.admits.profiled))

  good_r : T (is_record r)
  good_r = record_good b p w e.admits.box e.admits.profiled e.admits.long e.admits.symbols

  pub parts : (f : List ℕ) × (free s ≡ first_free s ∷ f)
  parts = starts_at s (first_free s) (free s) (lists_of s e.queue).free_from e.room

  -- the lists before, with the first free cell apart
  pub lists_before : Lists s (capacity s) (used s) (first_free s ∷ parts.0)
  lists_before = subst (λ (l : List ℕ). Lists s (capacity s) (used s) l) parts.1 (lists_of s e.queue)

  enqueue_result : Enqueues s r (enqueued s r)
  unfolding enqueued last_used records
  enqueue_result =
      let c = first_free s in
      let R = capacity s in
      let u = used s in
      let f = parts.0 in
      let after = enq.lists_after s R c u f r lists_before length_r good_r in
      let kept = enq.body_other s R c u f r lists_before length_r in
      let unused = enq.not_used s R c u f r lists_before length_r in
      let other = enq.not_cell s R c u f r lists_before length_r u unused in
      let same : map (cell_body (enqueued s r)) u ≡ map (cell_body s) u =
      map_same (cell_body (enqueued s r)) (cell_body s) u
      (λ x h.
      let k = used_in lists_before x h in
      kept x k.1 (omega (arith, k.0)) (other x h)) in
      record {
        kept_length = enq.length_after s R c u f r lists_before length_r;
        queue = queue_is after;
        used_after = used_is after;
        free_before = parts.1 ∙ ap (λ (l : List ℕ). c ∷ l) (sym (free_is after));
        records_after =
            ap (map (cell_body (enqueued s r))) (used_is after)
            ∙ map-append (cell_body (enqueued s r)) u (c ∷ [])
            ∙ ap₂ ◌++◌ same (ap (λ (z : List ℕ). z ∷ []) (enq.body_cell s R c u f r lists_before length_r));
        others =
            λ i h z d k. record { next_kept = enq.next_other s R c u f r lists_before length_r i d k; body_kept = kept i h z d };
        last_body = kept;
      }

pub enqueue_law : EnqueueLaw
enqueue_law s b p w h = enqueue_result s b p w (entering s b p w h)

pub full_law : FullLaw
full_law s b p w h =
    let q = full s b p w h in
    let ls = lists_of s q.0 in
    let none : free s ≡ [] = empty s (free s) (subst (λ (i : ℕ). From s i (free s)) q.1 ls.free_from) in
    omega (arith, length_records s, fill ls, ap length none)

-- the cell that is found is on the used list
get_d_map_in : {A : Type 0} (f : ℕ → A) (l : List ℕ) (k d : ℕ) (z : A) → k < length l → get_or (map f l) k z ≡ f (get_or l k d)
get_d_map_in f [] k d z h = absurd (not-suc-le-zero h)
get_d_map_in f (x ∷ l) zero d z h = refl
get_d_map_in f (x ∷ l) (suc k) d z h = get_d_map_in f l k d z (le_of_suc-le-suc h)

pub get_d_within : (l : List ℕ) (k : ℕ) → get_or l k 0 ≢ 0 → k < length l
get_d_within l k h =
    ⊎_elim (λ (a : length l ≤ k). absurd (h (get_or-eq_default l 0 a))) (λ (a : k < length l). a) (le_or_lt (length l) k)

pub shown_record_lem : (s : List ℕ) (k : ℕ) → cell_of s (suc k) ≢ 0 → shown_cell s (cell_of s (suc k)) ≡ 0 ∷ get_or (records s) k []
unfolding shown_cell cell_of records
shown_record_lem s k h = ap (λ (r : List ℕ). 0 ∷ r) (sym (get_d_map_in (cell_body s) (used s) k 0 [] (get_d_within (used s) k h)))

pub peek_law : PeekLaw
peek_law s k out h =
    let e : k + 1 ≡ suc k = add-one k in
    let f : cell_of s (suc k) ≢ 0 = subst (λ (n : ℕ). cell_of s n ≢ 0) e (showing s (k + 1) out h).found in
    ap (λ (n : ℕ). shown_cell s (cell_of s n)) e ∙ shown_record_lem s k f

module _ (s : List ℕ) (q : Queue s) (d : next_cell s 0 ≢ 0) where
  pub first_parts : (u : List ℕ) × (used s ≡ next_cell s 0 ∷ u)
  first_parts = starts_at s (next_cell s 0) (used s) (lists_of s q).used_from d

  -- the lists before, with the first used cell apart
  pub lists_first : Lists s (capacity s) (next_cell s 0 ∷ first_parts.0) (free s)
  lists_first = subst (λ (l : List ℕ). Lists s (capacity s) l (free s)) first_parts.1 (lists_of s q)

  pub dequeue_result : Dequeues s (dequeued s)
  unfolding dequeued records
  dequeue_result =
      let c = next_cell s 0 in
      let R = capacity s in
      let u = first_parts.0 in
      let f = free s in
      let after = deq.lists_after s R c u f lists_first in
      let kept = deq.body_other s R c u f lists_first in
      let same : map (cell_body (dequeued s)) u ≡ map (cell_body s) u =
      map_same (cell_body (dequeued s)) (cell_body s) u
      (λ x h.
      let k = used_in lists_first x (in_later x c u h) in
      kept x k.1 (omega (arith, k.0)) (deq.used_other s R c u f lists_first x h)) in
      record {
        kept_length = deq.length_after s R c u f lists_first;
        queue = queue_is after;
        used_before = first_parts.1 ∙ ap (λ (l : List ℕ). c ∷ l) (sym (used_is after));
        free_after = free_is after;
        records_before =
            ap (map (cell_body s)) first_parts.1
            ∙ ap (λ (m : List (List ℕ)). cell_body s c ∷ m) (sym same ∙ ap (map (cell_body (dequeued s))) (sym (used_is after)));
        cleared = deq.body_cell s R c u f lists_first;
        reused = deq.free_first s R c u f lists_first;
        others = λ i h z k. record { next_kept = deq.next_other s R c u f lists_first i z k; body_kept = kept i h z k };
      }

-- the first record's cell is the first used one
pub first_cell : (s : List ℕ) → Queue s → cell_of s 1 ≡ next_cell s 0
unfolding cell_of
first_cell s q = go (used s) (lists_of s q).used_from
  where
    go : (l : List ℕ) → From s (next_cell s 0) l → get_or l 0 0 ≡ next_cell s 0
    go [] f = sym f
    go (b ∷ l) f = sym f.0

pub dequeue_law : DequeueLaw
unfolding dequeue_answer
dequeue_law s out h =
    let e = showing s 1 out h in
    dequeue_result s e.queue (λ z. e.found (first_cell s e.queue ∙ z))
