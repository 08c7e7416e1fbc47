-- The search of specs/Lowest.antt, an index at a time, and what it finds.
-- Assumes nothing.
use mathlib.Core.Path.{◌≡◌, refl, subst⁻¹, ◌∙◌}
use mathlib.Core.Bool.{Bool, ◌&&◌}
use mathlib.Core.Logic.{◌⊎◌, inl, inr, ⊎_elim}
use Prim.Native.Nat.{ℕ, suc, ◌≤◌, ◌<◌}
use native.Mathlib.Nat.{not-suc-le-zero, lt_trans, le_refl}
use native.Mathlib.Omega.{arith}
use native.Mathlib.Decide.{ℕ_discrete}
use lib.Dec.{T, eqb, ltb, eqb→eq}
use borrow.Author.Tests.{lt-ltb, le-ltb}
use Rattle.modular_theory.specs.Search.{least, any_below}
use Rattle.modular_theory.proofs.Search.{decide, passes, fails, eq_test, and_intro, and_left, and_right, le_of_not_lt, le_or_lt, any_of, any_at}
use Rattle.modular_theory.proofs.Search.{least_le, least_hit, least_miss, least_some}
use Rattle.peaks_theory.specs.Lowest.{no_cost, lowest_cost, lowest_index, Lowest, pick}

-- What the definitions find.

module _ (t : ℕ → Bool) (f : ℕ → ℕ) (m : ℕ) where
  -- some index passes and has the cost c
  abbrev has : ℕ → Bool
  has c = any_below (λ i. t i && eqb (f i) c) m

  -- the index passes and has the least cost
  abbrev best : ℕ → Bool
  best i = t i && eqb (f i) (lowest_cost t f m)

  has_of : (i : ℕ) → i < m → T (t i) → T (has (f i))
  has_of i l h = any_of (λ j. t j && eqb (f j) (f i)) m i l (and_intro (t i) (eqb (f i) (f i)) h (eq_test {a = f i} refl))

  -- the least cost is below `no_cost` where some index passes
  pub lowest_some : (i : ℕ) → i < m → T (t i) → f i < no_cost → lowest_cost t f m < no_cost
  unfolding lowest_cost
  lowest_some i l h small = least_some has no_cost (f i) small (has_of i l h)

  -- and it is at most every cost
  pub lowest_upto : (i : ℕ) → i < m → T (t i) → lowest_cost t f m ≤ f i
  unfolding lowest_cost
  lowest_upto i l h = le_of_not_lt (λ (k : f i < least has no_cost). least_miss has no_cost (f i) k (has_of i l h))

  -- where it is below `no_cost` an index has it
  cost_hit : lowest_cost t f m < no_cost → T (has (lowest_cost t f m))
  unfolding lowest_cost
  cost_hit small = least_hit has no_cost small

  index_inside : lowest_cost t f m < no_cost → lowest_index t f m < m
  unfolding lowest_index
  index_inside small = let some = any_at best m (cost_hit small) in least_some best m some.0 some.1 some.2

  index_hit : lowest_index t f m < m → T (best (lowest_index t f m))
  unfolding lowest_index
  index_hit inside = least_hit best m inside

  index_miss : (j : ℕ) → j < lowest_index t f m → T (best j) → ⊥
  unfolding lowest_index
  index_miss j l = least_miss best m j l

  -- and the first that has it is the one found
  pub lowest_found : lowest_cost t f m < no_cost → Lowest t f m (lowest_cost t f m) (lowest_index t f m)
  lowest_found small =
      let inside = index_inside small in
      let hit = index_hit inside in
      let index : ℕ = lowest_index t f m in
      let same : Bool = eqb (f index) (lowest_cost t f m) in
      record {
        inside = inside;
        passes = and_left (t index) same hit;
        is = eqb→eq (f index) (lowest_cost t f m) (and_right (t index) same hit);
        least = lowest_upto;
        first = λ j l h.
            let upto = lowest_upto j (lt_trans l inside) h in
            let other : f j ≡ lowest_cost t f m → ⊥ =
            λ e. index_miss j l (and_intro (t j) (eqb (f j) (lowest_cost t f m)) h (eq_test e)) in
            omega (arith, other);
      }

  -- what is so is the one found
  module _ {cost index : ℕ} (l : Lowest t f m cost index) (small : cost < no_cost) where
    found : Lowest t f m (lowest_cost t f m) (lowest_index t f m)
    found = lowest_found (lowest_some index l.inside l.passes (omega (arith, l.is)))

    pub lowest_cost_lem : cost ≡ lowest_cost t f m
    lowest_cost_lem =
        omega (arith, l.is, lowest_upto index l.inside l.passes, found.is, l.least (lowest_index t f m) found.inside found.passes)

    pub lowest_index_lem : index ≡ lowest_index t f m
    lowest_index_lem =
        let low : index ≤ lowest_index t f m =
        le_of_not_lt (λ k. omega (arith, lowest_cost_lem, found.is, l.first (lowest_index t f m) k found.passes)) in
        let high : lowest_index t f m ≤ index =
        le_of_not_lt (λ k. omega (arith, lowest_cost_lem, l.is, found.first index k l.passes)) in
        omega arith

  cost_upto : lowest_cost t f m ≤ no_cost
  unfolding lowest_cost
  cost_upto = least_le has no_cost

  index_upto : lowest_index t f m ≤ m
  unfolding lowest_index
  index_upto = least_le best m

  -- where no index passes
  module _ (none : (j : ℕ) → j < m → T (t j) → ⊥) where
    pub no_cost_lem : no_cost ≡ lowest_cost t f m
    no_cost_lem =
        let low : no_cost ≤ lowest_cost t f m =
        le_of_not_lt (λ k. let l = lowest_found k in none (lowest_index t f m) l.inside l.passes) in
        omega (arith, cost_upto)

    pub no_index : m ≡ lowest_index t f m
    no_index =
        let index : ℕ = lowest_index t f m in
        let low : m ≤ index =
        le_of_not_lt (λ k. none index k (and_left (t index) (eqb (f index) (lowest_cost t f m)) (index_hit k))) in
        omega (arith, index_upto)

-- The search, an index at a time.

-- no index below i passes, and the index is what it was at the start
pub record Unfound (t : ℕ → Bool) (start i cost index : ℕ) : Type 0 where
  pub none : (j : ℕ) → j < i → T (t j) → ⊥
  pub cost_is : cost ≡ no_cost
  pub index_is : index ≡ start

-- of the indices below i either none passes or the lowest cost is known, and its first index
pub record Searched (t : ℕ → Bool) (f : ℕ → ℕ) (start i cost index : ℕ) : Type 0 where
  pub either : Unfound t start i cost index ⊎ (Lowest t f i cost index × (cost < no_cost))

-- what holds of each index below i, and of i
below_next : {i : ℕ} (P : ℕ → Type 0) → ((j : ℕ) → j < i → P j) → P i → (j : ℕ) → j < suc i → P j
below_next {i} P past h j l = go (ℕ_discrete j i)
  where
    go : Dec (j ≡ i) → P j
    go (yes e) = subst⁻¹ P e h
    go (no n) = past j (omega (arith, n))

module _ (t : ℕ → Bool) (f : ℕ → ℕ) (start : ℕ) where
  pub searched_none : Searched t f start 0 no_cost start
  searched_none = record { either = inl (record { none = λ j l h. not-suc-le-zero l; cost_is = refl; index_is = refl }) }

  -- One index more.
  module _ {i cost index : ℕ} (s : Searched t f start i cost index) where
    -- it does not pass, or its cost is not lower
    skipped : (T (t i) → (cost ≤ f i) × (f i < no_cost)) → Searched t f start (suc i) cost index
    skipped other = record { either = ⊎_elim unfound found s.either }
      where
        unfound : Unfound t start i cost index → Unfound t start (suc i) cost index ⊎ (Lowest t f (suc i) cost index × (cost < no_cost))
        unfound u =
            inl (record {
              none = below_next (λ j. T (t j) → ⊥) u.none (λ h. omega (arith, (other h).0, (other h).1, u.cost_is));
              cost_is = u.cost_is;
              index_is = u.index_is;
            })

        found : Lowest t f i cost index × (cost < no_cost) → Unfound t start (suc i) cost index ⊎ (Lowest t f (suc i) cost index × (cost < no_cost))
        found (l, small) =
            inr (
              record {
                inside = omega (arith, l.inside);
                passes = l.passes;
                is = l.is;
                least = below_next (λ j. T (t j) → cost ≤ f j) l.least (λ h. (other h).0);
                first = l.first;
              },
              small,
            )

    -- it passes, with a lower cost
    taken : T (t i) → f i < cost → f i < no_cost → Searched t f start (suc i) (f i) i
    taken h lower small =
        record {
          either = inr (
            record {
              inside = omega arith;
              passes = h;
              is = refl;
              least = below_next (λ j. T (t j) → f i ≤ f j) (λ j l k. omega (arith, higher j l k)) (λ k. le_refl (f i));
              first = higher;
            },
            small,
          );
        }
      where
        higher : (j : ℕ) → j < i → T (t j) → f i < f j
        higher j l k =
            ⊎_elim
            (λ (u : Unfound t start i cost index). absurd (u.none j l k))
            (λ (o : Lowest t f i cost index × (cost < no_cost)). omega (arith, o.0.least j l k))
            s.either

    pub searched_more : (T (t i) → f i < no_cost)
        → {c k : ℕ} → c ≡ pick (t i && ltb (f i) cost) (f i) cost → k ≡ pick (t i && ltb (f i) cost) i index
        → Searched t f start (suc i) c k
    searched_more small {c} {k} e g = go (decide (t i)) (le_or_lt cost (f i))
      where
        go : T (t i) ⊎ (T (t i) → ⊥) → (cost ≤ f i) ⊎ (f i < cost) → Searched t f start (suc i) c k
        go (inl h) (inr lower) =
            rw (e, g, passes {b = t i} h, lt-ltb (f i) cost lower) (taken h lower (small h))
        go (inl h) (inl other) =
            rw (e, g, passes {b = t i} h, le-ltb (f i) cost other) (skipped (λ k. (other, small k)))
        go (inr h) either = rw (e, g, fails {b = t i} h) (skipped (λ k. absurd (h k)))

-- and at the end it is what the definitions say
pub searched_all : (t : ℕ → Bool) (f : ℕ → ℕ) (m : ℕ) {cost index : ℕ} → Searched t f m m cost index
    → (cost ≡ lowest_cost t f m) × (index ≡ lowest_index t f m)
searched_all t f m {cost} {index} s =
    ⊎_elim
    (λ (u : Unfound t m m cost index). (u.cost_is ∙ no_cost_lem t f m u.none, u.index_is ∙ no_index t f m u.none))
    (λ (l : Lowest t f m cost index × (cost < no_cost)). (lowest_cost_lem t f m l.0 l.1, lowest_index_lem t f m l.0 l.1))
    s.either
