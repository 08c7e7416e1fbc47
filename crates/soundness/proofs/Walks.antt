-- One turn of each loop: what is left to walk gives the same as the whole list does.
-- Assumes nothing.
use mathlib.Core.Path.{◌≡◌, refl, sym, ap, ap₂, subst, ◌∙◌}
use mathlib.Core.Logic.{◌≢◌, ◌⊎◌, inl, inr, ⊎_elim}
use mathlib.Core.Bool.{Bool, true, false, ◌&&◌, and-true}
use mathlib.Core.List.{List, [], ◌∷◌}
use Prim.Native.Nat.{ℕ, zero, suc, ◌+◌, ◌-◌, ◌≤◌, ◌<◌}
use native.Mathlib.Numerals.{add-one}
use native.Mathlib.Omega.{arith}
use lib.Dec.{T, eqb, leb, leb→le}
use lib.ListN.{length, get_or, take, drop, set}
use Rattle.std.proofs.lemmas.List.{get_or-take}
use Rattle.std.proofs.lemmas.Grind.{get_or_after_one}
use borrow.Author.Tests.{ne_eqb}
use Rattle.std.specs.Prelude.{Option, Some, None}
use Rattle.std.specs.Bool.{then_some}
use Rattle.modular_theory.specs.Search.{all_below}
use Rattle.modular_theory.proofs.Search.{and_left, and_right, and_intro, same_test, all_at, all_of, le_or_lt, holds}
use Rattle.code_theory.proofs.Distance.{equal_or_not}
use Rattle.queue_theory.specs.Lists.{all, last_of}
use Rattle.queue_theory.specs.Layout.{capacity, next_cell, cell_body}
use Rattle.queue_theory.specs.Chains.{chain, ends}
use Rattle.queue_theory.specs.Sound.{is_body, is_cell, is_list}
use Rattle.soundness.specs.declared.lists.Walked.{Walked}
use Rattle.soundness.specs.Tally.{tallied}
use Rattle.soundness.specs.Walked.{Traversed, Walks}
use Rattle.soundness.proofs.Conditions.{swapped}

-- A list stops at 0, and goes on from every other cell.
chain_stop : (s : List ℕ) (n i : ℕ) → i ≡ 0 → chain s n i ≡ []
chain_stop s zero i e = refl
chain_stop s (suc n) zero e = refl
chain_stop s (suc n) (suc i) e = let z : ⊥ = omega arith in absurd z

chain_step : (s : List ℕ) (n i : ℕ) → n ≢ 0 → i ≢ 0 → chain s n i ≡ i ∷ chain s (n - 1) (next_cell s i)
chain_step s zero i h d = absurd (h refl)
chain_step s (suc n) zero h d = absurd (d refl)
chain_step s (suc n) (suc i) h d = let e : n ≡ suc n - 1 = omega arith in ap (λ (m : ℕ). suc i ∷ chain s m (next_cell s (suc i))) e

ends_step : (s : List ℕ) (n i : ℕ) → n ≢ 0 → i ≢ 0 → ends s n i ≡ ends s (n - 1) (next_cell s i)
ends_step s zero i h d = absurd (h refl)
ends_step s (suc n) zero h d = absurd (d refl)
ends_step s (suc n) (suc i) h d = let e : n ≡ suc n - 1 = omega arith in ap (λ (m : ℕ). ends s m (next_cell s (suc i))) e

module _ (s : List ℕ) (kind : Bool) where
  list_stop : (n i : ℕ) → i ≡ 0 → is_list s kind n i ≡ true
  unfolding is_list
  list_stop zero i e = rw e
  list_stop (suc n) zero e = refl
  list_stop (suc n) (suc i) e = let z : ⊥ = omega arith in absurd z

  list_step : (n i : ℕ) → n ≢ 0 → i ≢ 0 → is_list s kind n i ≡ (is_cell s kind i && is_list s kind (n - 1) (next_cell s i))
  unfolding is_list
  list_step n i h d =
      ap₂ (λ (b : Bool) (l : List ℕ). b && all (is_cell s kind) l) (ends_step s n i h d) (chain_step s n i h d)
      ∙ swapped (ends s (n - 1) (next_cell s i)) (is_cell s kind i) (all (is_cell s kind) (chain s (n - 1) (next_cell s i)))

  list_over : (n i : ℕ) → n ≡ 0 → i ≢ 0 → is_list s kind n i ≡ false
  unfolding is_list
  list_over n i e d = rw e (and-true (eqb i 0) ∙ ne_eqb i 0 d)

  pub cell_below : (i : ℕ) → is_cell s kind i ≡ true → i ≤ capacity s
  unfolding is_cell
  cell_below i e = leb→le i (capacity s) (and_left (leb i (capacity s)) (is_body kind (cell_body s i)) (holds _ e))

-- a cell is counted at most once more
pub tally_one : (t : List ℕ) (c k : ℕ) → get_or (set t c (get_or t c 0 + 1)) k 0 ≤ get_or t k 0 + 1
tally_one [] c k = omega arith
tally_one (x ∷ t) zero zero = omega arith
tally_one (x ∷ t) zero (suc k) = omega arith
tally_one (x ∷ t) (suc c) zero = omega arith
tally_one (x ∷ t) (suc c) (suc k) = tally_one t c k

-- the first k cells of a list end with the next cell where it is one of them, or have ended before it
reached_here : (i cell met k : ℕ) (l : List ℕ) → met < k → last_of cell (take (k - met) (i ∷ l)) ≡ last_of i (take (k - (met + 1)) l)
reached_here i cell met k l h = let e : k - met ≡ suc (k - (met + 1)) = omega arith in rw e

reached_before : (i cell met k : ℕ) (l : List ℕ) → k ≤ met → last_of cell (take (k - met) (i ∷ l)) ≡ last_of cell (take (k - (met + 1)) l)
reached_before i cell met k l h =
    let e : k - met ≡ 0 = omega arith in
    let f : k - (met + 1) ≡ 0 = omega arith in
    rw (e, f)

take_none : (k : ℕ) → take {A = ℕ} k [] ≡ []
take_none zero = refl
take_none (suc k) = refl

-- The walk over a list that tests its cells and counts them: from cell i, n steps are left, t is the table so far, and of the first k
-- cells the last one met is `cell`.
pub record Walk (s : List ℕ) (kind : Bool) (first k : ℕ) (t₀ t : List ℕ) (n i cell met : ℕ) : Type 0 where
  pub list : is_list s kind (capacity s) first ≡ is_list s kind n i
  pub seen : tallied t₀ (chain s (capacity s) first) ≡ tallied t (chain s n i)
  pub cell_is : last_of 0 (take k (chain s (capacity s) first)) ≡ last_of cell (take (k - met) (chain s n i))
  pub records_is : length (chain s (capacity s) first) ≡ met + length (chain s n i)
  pub bound : (j : ℕ) → get_or t j 0 + n ≤ 255 + capacity s
  pub steps : met + n ≡ capacity s

module _ {s : List ℕ} {kind : Bool} {first k : ℕ} {t₀ t : List ℕ} {n i cell met : ℕ} (w : Walk s kind first k t₀ t n i cell met) where
  -- the list has ended
  walk_ended : (v : Walked) → v.cell ≡ cell → v.records ≡ met → i ≡ 0 → Walks s kind first k t₀ t (Some v)
  walk_ended v c m e =
      let none = chain_stop s n i e in
      record {
        good_is = sym (w.list ∙ list_stop s kind n i e);
        found =
            λ x q.
            let same : v ≡ x = cc in
            subst (λ (y : Walked). Traversed (chain s (capacity s) first) t₀ t k y.cell y.records) same
            (record {
              seen = sym (w.seen ∙ ap (tallied t) none);
              cell_is =
                  c ∙ sym (w.cell_is ∙ ap (λ (l : List ℕ). last_of cell (take (k - met) l)) none ∙ ap (last_of cell) (take_none (k - met)));
              records_is = omega (arith, m, w.records_is, ap length none);
            });
      }

  fails : is_list s kind n i ≡ false → Walks s kind first k t₀ t None
  fails f =
      record {
        good_is = sym (w.list ∙ f);
        found = λ x q. cc;
      }

  -- the list has ended, or the steps are used up
  pub walk_over : (v : Walked) → v.cell ≡ cell → v.records ≡ met → (i ≡ 0) ⊎ (n ≡ 0) → (r : Option Walked)
      → r ≡ then_some (eqb i 0) v → Walks s kind first k t₀ t r
  walk_over v c m (inl e) r f = rw (f, e) (walk_ended v c m e)
  walk_over v c m (inr e) r f =
      ⊎_elim
      (λ (z : i ≡ 0). rw (f, z) (walk_ended v c m z))
      (λ (d : i ≢ 0). rw (f, ne_eqb i 0 d) (fails (list_over s kind n i e d)))
      (equal_or_not i 0)

  -- a cell that is none
  pub walk_fails : n ≢ 0 → i ≢ 0 → is_cell s kind i ≡ false → Walks s kind first k t₀ t None
  walk_fails h d e = fails (list_step s kind n i h d ∙ ap (λ (b : Bool). b && is_list s kind (n - 1) (next_cell s i)) e)

  pub walk_on : n ≢ 0 → i ≢ 0 → is_cell s kind i ≡ true → (m j c : ℕ) → m ≡ n - 1 → j ≡ next_cell s i
      → ((met < k) × (c ≡ i)) ⊎ ((k ≤ met) × (c ≡ cell)) → Walk s kind first k t₀ (set t i (get_or t i 0 + 1)) m j c (met + 1)
  walk_on h d e m j c p q g =
      let step = chain_step s n i h d in
      let rest = chain s (n - 1) (next_cell s i) in
      let next : last_of cell (take (k - met) (i ∷ rest)) ≡ last_of c (take (k - (met + 1)) rest) =
      ⊎_elim
      (λ (y : (met < k) × (c ≡ i)). rw y.1 (reached_here i cell met k rest y.0))
      (λ (y : (k ≤ met) × (c ≡ cell)). rw y.1 (reached_before i cell met k rest y.0)) g in
      rw (p, q)
      (record {
        list = w.list ∙ list_step s kind n i h d ∙ ap (λ (b : Bool). b && is_list s kind (n - 1) (next_cell s i)) e;
        seen = w.seen ∙ ap (tallied t) step;
        cell_is = w.cell_is ∙ ap (λ (l : List ℕ). last_of cell (take (k - met) l)) step ∙ next;
        records_is = omega (arith, w.records_is, ap length step);
        bound = λ x. omega (arith, tally_one t i x, w.bound x);
        steps = omega (arith, w.steps);
      })

-- a test over one number more
all_more : (t : ℕ → Bool) (n : ℕ) → all_below t (suc n) ≡ (all_below t n && t n)
all_more t n = same_test (all_below t (suc n)) (all_below t n && t n) there back
  where
    there : T (all_below t (suc n)) → T (all_below t n && t n)
    there a = and_intro (all_below t n) (t n) (all_of t n (λ i h. all_at t (suc n) a i (omega arith))) (all_at t (suc n) a n (omega arith))

    back : T (all_below t n && t n) → T (all_below t (suc n))
    back a =
        all_of t (suc n)
        (λ i h. ⊎_elim
        (λ (k : n ≤ i). let e : n ≡ i = omega arith in subst (λ (x : ℕ). T (t x)) e (and_right (all_below t n) (t n) a))
        (λ (k : i < n). all_at t n (and_left (all_below t n) (t n) a) i k)
        (le_or_lt n i))

-- the cells from 1 on, as a range lends them
pub part_at : (t : List ℕ) (n i : ℕ) → i < n → get_or (take (n + 1 - 1) (drop 1 t)) i 0 ≡ get_or t (i + 1) 0
part_at t n i h =
    let e : 1 + i ≡ i + 1 = omega arith in
    get_or-take (n + 1 - 1) (drop 1 t) i 0 (omega arith) ∙ get_or_after_one t i 0 ∙ ap (λ (j : ℕ). get_or t j 0) e

-- cells 1 to i + 1 have each been met once where 1 to i have, and the next one
pub once_more : (t : List ℕ) (i : ℕ) (b : Bool) → b ≡ all_below (λ j. eqb (get_or t (suc j) 0) 1) i
    → (b && eqb (get_or t (i + 1) 0) 1) ≡ all_below (λ j. eqb (get_or t (suc j) 0) 1) (i + 1)
once_more t i b e =
    rw (add-one i) (ap (λ (x : Bool). x && eqb (get_or t (suc i) 0) 1) e ∙ sym (all_more (λ j. eqb (get_or t (suc j) 0) 1) i))
