-- What the walks over both lists say of the queue.
-- Assumes nothing.
use mathlib.Core.Path.{◌≡◌, refl, sym, ap, ap₂, subst, ◌∙◌}
use mathlib.Core.Bool.{Bool, true, false, ◌&&◌, and-false}
use mathlib.Core.List.{List, ◌++◌}
use Prim.Native.Nat.{ℕ, suc}
use lib.Dec.{T, eqb}
use Rattle.std.specs.Prelude.{Option, Some, None, is_some}
use Rattle.std.specs.Bool.{then_some}
use lib.ListN.{length, get_or}
use Rattle.modular_theory.specs.Search.{all_below}
use Rattle.queue_theory.specs.Layout.{is_queue_length, capacity, next_cell, first_free, header}
use Rattle.queue_theory.specs.Chains.{chain, used, free}
use Rattle.queue_theory.specs.Sound.{is_header, is_list, each_once, sound}
use Rattle.queue_theory.proofs.Lists.{size_of}
use Rattle.soundness.specs.declared.lists.Walked.{Walked}
use Rattle.soundness.specs.Checked.{reached}
use Rattle.soundness.specs.Tally.{tallied, AtMost}
use Rattle.soundness.specs.Walked.{Traversed, Walks, WalksBoth}
use Rattle.soundness.proofs.Conditions.{second_off}
use Rattle.soundness.proofs.Tallies.{none_seen, few_seen, both_seen_lem}

-- the free list's test first, and the last test only where that one passed
four_tests : (head used free once f h o : Bool) → used ≡ true → f ≡ free → h ≡ head → (free ≡ true → o ≡ once)
    → (f && (h && o)) ≡ (head && (used && (free && once)))
four_tests head used true once f h o u e a d = rw (e, a, u, d refl)
four_tests head used false once f h o u e a d = rw (e, u) (sym (and-false head))

-- what a test lets through
some_if : {A : Type 0} (b : Bool) (v : A) → is_some (then_some b v) ≡ b
some_if true v = refl
some_if false v = refl

let_through : {A : Type 0} (b : Bool) (v x : A) → then_some b v ≡ Some x → v ≡ x
let_through true v x e = cc
let_through false v x e = cc

some_of : {A : Type 0} (o : Option A) → is_some o ≡ true → (x : A) × (o ≡ Some x)
some_of (Some x) e = (x, refl)
some_of None e = cc

module _ (s : List ℕ) (k i : ℕ) (t : List ℕ) (u : Option Walked) (size : T (is_queue_length (length s))) (first : i ≡ next_cell s 0)
    (walked : Walks s true i k none_seen t u) where
  abbrev R : ℕ
  R = capacity s

  list_is : is_some u ≡ is_list s true R (next_cell s 0)
  list_is = walked.good_is ∙ ap (is_list s true R) first

  pub unsound : u ≡ None → WalksBoth s k None
  unfolding sound
  unsound e =
      record {
        good_is = second_off (is_header (header s)) (is_list s true R (next_cell s 0)) _ (sym list_is ∙ ap is_some e);
        cell_is = λ x g. cc;
        records_is = λ x g. cc;
      }

  module _ (v : Walked) (good : u ≡ Some v) where
    found : Traversed (chain s R (next_cell s 0)) none_seen t k v.cell v.records
    found = subst (λ (c : ℕ). Traversed (chain s R c) none_seen t k v.cell v.records) first (walked.found v good)

    pub few_after : AtMost 255 t
    few_after = subst (AtMost 255) (sym found.seen) (few_seen s R (next_cell s 0) (size_of s size).few)

    pub checks : (j : ℕ) (t' : List ℕ) (f r : Option Walked) (head once : Bool) → j ≡ first_free s → Walks s false j 0 t t' f
        → head ≡ is_header (header s) → once ≡ all_below (λ c. eqb (get_or t' (suc c) 0) 1) R
        → r ≡ then_some (is_some f && (head && once)) v → WalksBoth s k r
    unfolding sound reached used free
    checks j t' f r head once second w a o e =
        let U = chain s R (next_cell s 0) in
        let F = chain s R (first_free s) in
        let good-header = is_header (header s) in
        let good-used = is_list s true R (next_cell s 0) in
        let good-free = is_list s false R (first_free s) in
        let free_is : is_some f ≡ good-free = w.good_is ∙ ap (is_list s false R) second in
        let tally : (x : Walked) → f ≡ Some x → t' ≡ tallied (tallied none_seen U) F =
        λ x g. (w.found x g).seen ∙ ap₂ (λ (l : List ℕ) (c : ℕ). tallied l (chain s R c)) found.seen second in
        let same : (x : Walked) → r ≡ Some x → v ≡ x = λ x g. let_through (is_some f && (head && once)) v x (sym e ∙ g) in
        record {
          good_is =
              ap is_some e
              ∙ some_if (is_some f && (head && once)) v
              ∙ four_tests good-header good-used good-free (each_once R (used s ++ free s)) (is_some f) head once
              (sym list_is ∙ ap is_some good) free_is a
              (λ g. let (x, is) = some_of f (free_is ∙ g) in
              o
              ∙ ap (λ (l : List ℕ). all_below (λ c. eqb (get_or l (suc c) 0) 1) R) (tally x is)
              ∙ both_seen_lem R U F (size_of s size).few);
          cell_is = λ x g. ap Walked.cell (sym (same x g)) ∙ found.cell_is;
          records_is = λ x g. ap Walked.records (sym (same x g)) ∙ found.records_is;
        }
