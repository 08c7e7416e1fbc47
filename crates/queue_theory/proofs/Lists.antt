-- A sound queue as two lists of cells: what the test of soundness says of them, and back.
-- Assumes nothing.
use mathlib.Core.Path.{◌≡◌, sym, ap, subst, ◌∙◌}
use mathlib.Core.Logic.{◌≢◌, ◌⊎◌, inl, inr}
use mathlib.Core.Bool.{Bool, true, false, ◌&&◌}
use mathlib.Core.List.{List, ◌++◌}
use Prim.Native.Nat.{ℕ, zero, suc, ◌+◌, ◌/◌, ◌%◌, ◌≤◌, ◌<◌}
use native.Mathlib.Omega.{arith}
use lib.Dec.{T, eqb, leb, eqb→eq, leb→le, le→leb}
use lib.ListN.{length, length-append}
use Rattle.modular_theory.proofs.Search.{and_left, and_right, and_intro, le_or_lt, all_at, all_of}
use Rattle.queue_theory.specs.Lists.{all, count}
use Rattle.queue_theory.specs.Layout.{cell_size, Size, is_queue_length, capacity, next_cell, first_free, cell_body, header}
use Rattle.queue_theory.specs.Chains.{From, chain, ends, used, free}
use Rattle.queue_theory.specs.Sound.{is_body, is_cell, is_header, is_list, each_once, sound, Queue}
use Rattle.queue_theory.proofs.Counts.{count_append, all_in, all_from, once_length}
use Rattle.queue_theory.proofs.Follow.{from_chain, chain_from, from_nonzero}

pub size_of : (s : List ℕ) → T (is_queue_length (length s)) → Size s (capacity s)
unfolding is_queue_length capacity
size_of s h =
    let n : ℕ = length s in
    let cells : ℕ = n / cell_size in
    let a : n % cell_size ≡ 0 = eqb→eq (n % cell_size) 0 (and_left (eqb (n % cell_size) 0) (leb 2 cells && leb cells 256) h) in
    let k : T (leb 2 cells && leb cells 256) = and_right (eqb (n % cell_size) 0) (leb 2 cells && leb cells 256) h in
    let b : 2 ≤ cells = leb→le 2 cells (and_left (leb 2 cells) (leb cells 256) k) in
    let c : cells ≤ 256 = leb→le cells 256 (and_right (leb 2 cells) (leb cells 256) k) in
    record { long = omega arith; some = omega arith; few = omega arith }

pub capacity_is : (s : List ℕ) (R : ℕ) → Size s R → capacity s ≡ R
unfolding capacity
capacity_is s R z = omega (arith, z.long)

pub size_good : (s : List ℕ) (R : ℕ) → Size s R → T (is_queue_length (length s))
unfolding is_queue_length
size_good s R z =
    let n : ℕ = length s in
    let cells : ℕ = n / cell_size in
    let a : n % cell_size ≡ 0 = omega (arith, z.long) in
    let least : T (leb 2 cells) = le→leb 2 cells (omega (arith, z.long, z.some)) in
    let most : T (leb cells 256) = le→leb cells 256 (omega (arith, z.long, z.few)) in
    and_intro (eqb (n % cell_size) 0) _ (subst (λ (k : ℕ). T (eqb k 0)) (sym a) tt) (and_intro (leb 2 cells) (leb cells 256) least most)

-- x is a cell, and its body is as the kind has it
pub record Cell (s : List ℕ) (R : ℕ) (kind : Bool) (x : ℕ) : Type 0 where
  pub below : x ≤ R
  pub good : T (is_body kind (cell_body s x))

pub record Lists (s : List ℕ) (R : ℕ) (u f : List ℕ) : Type 0 where
  pub size : Size s R
  pub in_header : T (is_header (header s))
  pub used_from : From s (next_cell s 0) u
  pub free_from : From s (first_free s) f
  pub used_cells : (x : ℕ) → 1 ≤ count x u → Cell s R true x
  pub free_cells : (x : ℕ) → 1 ≤ count x f → Cell s R false x
  pub once : (x : ℕ) → 1 ≤ x → x ≤ R → count x (u ++ f) ≡ 1

module _ {s : List ℕ} {R : ℕ} {u f : List ℕ} (ls : Lists s R u f) where
  pub used_in : (x : ℕ) → 1 ≤ count x u → (1 ≤ x) × (x ≤ R)
  used_in x h =
      let d : x ≢ 0 = from_nonzero s (next_cell s 0) u ls.used_from x h in
      (omega arith, (ls.used_cells x h).below)

  pub free_in : (x : ℕ) → 1 ≤ count x f → (1 ≤ x) × (x ≤ R)
  free_in x h =
      let d : x ≢ 0 = from_nonzero s (first_free s) f ls.free_from x h in
      (omega arith, (ls.free_cells x h).below)

  pub both_in : (x : ℕ) → 1 ≤ count x (u ++ f) → (1 ≤ x) × (x ≤ R)
  both_in x h = go (le_or_lt 1 (count x u))
    where
      go : (1 ≤ count x u) ⊎ (count x u < 1) → (1 ≤ x) × (x ≤ R)
      go (inl k) = used_in x k
      go (inr k) = free_in x (omega (arith, count_append x u f))

  -- no cell is on the lists twice
  pub at_most_once : (x : ℕ) → count x u + count x f ≤ 1
  at_most_once x = go (le_or_lt 1 (count x (u ++ f)))
    where
      go : (1 ≤ count x (u ++ f)) ⊎ (count x (u ++ f) < 1) → count x u + count x f ≤ 1
      go (inl k) = omega (arith, count_append x u f, ls.once x (both_in x k).0 (both_in x k).1)
      go (inr k) = omega (arith, count_append x u f)

  -- each cell 1 to R is on one of them
  pub fill : length u + length f ≡ R
  fill = omega (arith, length-append u f, once_length R (u ++ f) both_in ls.once)

  used_met : (chain s R (next_cell s 0) ≡ u) × T (ends s R (next_cell s 0))
  used_met = chain_from s R (next_cell s 0) u ls.used_from (omega (arith, fill))

  free_met : (chain s R (first_free s) ≡ f) × T (ends s R (first_free s))
  free_met = chain_from s R (first_free s) f ls.free_from (omega (arith, fill))

  cap : capacity s ≡ R
  cap = capacity_is s R ls.size

  pub used_is : used s ≡ u
  unfolding used
  used_is = ap (λ (n : ℕ). chain s n (next_cell s 0)) cap ∙ used_met.0

  pub free_is : free s ≡ f
  unfolding free
  free_is = ap (λ (n : ℕ). chain s n (first_free s)) cap ∙ free_met.0

  cell_test : (kind : Bool) (x : ℕ) → Cell s R kind x → T (is_cell s kind x)
  unfolding is_cell
  cell_test kind x c =
      and_intro (leb x (capacity s)) (is_body kind (cell_body s x)) (le→leb x (capacity s) (omega (arith, c.below, cap))) c.good

  list_test : (kind : Bool) (i : ℕ) (l : List ℕ) → chain s R i ≡ l → T (ends s R i) → ((x : ℕ) → 1 ≤ count x l → Cell s R kind x)
      → T (is_list s kind (capacity s) i)
  unfolding is_list
  list_test kind i l e h f =
      rw cap
      (and_intro (ends s R i) (all (is_cell s kind) (chain s R i)) h
      (rw e (all_from (is_cell s kind) l (λ x k. cell_test kind x (f x k)))))

  used_test : T (is_list s true (capacity s) (next_cell s 0))
  used_test = list_test true (next_cell s 0) u used_met.0 used_met.1 ls.used_cells

  free_test : T (is_list s false (capacity s) (first_free s))
  free_test = list_test false (first_free s) f free_met.0 free_met.1 ls.free_cells

  once_test : T (each_once (capacity s) (used s ++ free s))
  unfolding each_once
  once_test =
      rw (cap, used_is, free_is)
      (all_of (λ i. eqb (count (suc i) (u ++ f)) 1) R
      (λ i k. subst (λ (n : ℕ). T (eqb n 1)) (sym (ls.once (suc i) (omega arith) k)) tt))

  pub queue_is : Queue s
  unfolding sound
  queue_is =
      record {
        size = size_good s R ls.size;
        is_sound =
            and_intro (is_header (header s)) _ ls.in_header
            (and_intro (is_list s true (capacity s) (next_cell s 0)) _ used_test
            (and_intro (is_list s false (capacity s) (first_free s)) (each_once (capacity s) (used s ++ free s)) free_test once_test));
      }

-- the other way
module _ (s : List ℕ) where
  cell_of_lem : (kind : Bool) (x : ℕ) → T (is_cell s kind x) → Cell s (capacity s) kind x
  unfolding is_cell
  cell_of_lem kind x h =
      record {
        below = leb→le x (capacity s) (and_left (leb x (capacity s)) (is_body kind (cell_body s x)) h);
        good = and_right (leb x (capacity s)) (is_body kind (cell_body s x)) h;
      }

  list_ends : (kind : Bool) (i : ℕ) → T (is_list s kind (capacity s) i) → T (ends s (capacity s) i)
  unfolding is_list
  list_ends kind i h = and_left (ends s (capacity s) i) (all (is_cell s kind) (chain s (capacity s) i)) h

  list_cells : (kind : Bool) (i : ℕ) → T (is_list s kind (capacity s) i) → (x : ℕ) → 1 ≤ count x (chain s (capacity s) i)
      → Cell s (capacity s) kind x
  unfolding is_list
  list_cells kind i h x k =
      let cells = chain s (capacity s) i in
      cell_of_lem kind x (all_in (is_cell s kind) cells (and_right (ends s (capacity s) i) (all (is_cell s kind) cells) h) x k)

  pub lists_of : Queue s → Lists s (capacity s) (used s) (free s)
  unfolding sound used free each_once
  lists_of q =
      record {
        size = size_of s q.size;
        in_header = and_left A B q.is_sound;
        used_from = from_chain s (capacity s) (next_cell s 0) (list_ends true (next_cell s 0) l1);
        free_from = from_chain s (capacity s) (first_free s) (list_ends false (first_free s) l2);
        used_cells = list_cells true (next_cell s 0) l1;
        free_cells = list_cells false (first_free s) l2;
        once = each;
      }
    where
      A : Bool
      A = is_header (header s)

      U : Bool
      U = is_list s true (capacity s) (next_cell s 0)

      F : Bool
      F = is_list s false (capacity s) (first_free s)

      O : Bool
      O = each_once (capacity s) (used s ++ free s)

      B : Bool
      B = U && (F && O)

      b : T B
      b = and_right A B q.is_sound

      l1 : T U
      l1 = and_left U (F && O) b

      l2 : T F
      l2 = and_left F O (and_right U (F && O) b)

      each : (x : ℕ) → 1 ≤ x → x ≤ capacity s → count x (used s ++ free s) ≡ 1
      each zero h k = let z : ⊥ = omega arith in absurd z
      each (suc x) h k =
          eqb→eq (count (suc x) (used s ++ free s)) 1
          (all_at (λ i. eqb (count (suc i) (used s ++ free s)) 1) (capacity s) (and_right F O (and_right U (F && O) b)) x k)
