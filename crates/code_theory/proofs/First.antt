-- The first choice that passes a test, in an edition's order: it is found where some choice passes, and none before it does.
-- Assumes nothing.
use mathlib.Core.Path.{◌≡◌, refl, ap, ◌∙◌}
use mathlib.Core.Logic.{inl, inr}
use mathlib.Core.Bool.{Bool}
use Prim.Native.Nat.{ℕ, zero, suc, ◌<◌, zero-le, suc-le-suc}
use native.Mathlib.Nat.{le_of_suc-le-suc, not-suc-le-zero, lt_trans}
use lib.Dec.{T, ltb→lt}
use Rattle.modular_theory.specs.Search.{least, any_below}
use Rattle.modular_theory.proofs.Search.{least_hit, least_miss, least_some, least_is, any_of, any_at}
use Rattle.code_theory.specs.Parameters.{Edition, edition13, edition18, Parameters, in_edition}
use Rattle.code_theory.specs.Balance.{choice, first_s, first_v}
use Rattle.code_theory.specs.Claims.{Before, Tried}

-- The order of the search.

pub tried_at : (p : Parameters) (m i : ℕ) → i < m → Tried p m (choice p i)
tried_at p m i l = go p.edition
  where
    go : (e : Edition) → Tried (in_edition e p) m (choice (in_edition e p) i)
    go edition13 = (suc-le-suc zero-le, l)
    go edition18 = l

pub tried_index : (p : Parameters) (m v : ℕ) → Tried p m v → (i : ℕ) × (i < m) × (v ≡ choice p i)
tried_index p m v t = go p.edition v t
  where
    go : (e : Edition) (v : ℕ) → Tried (in_edition e p) m v → (i : ℕ) × (i < m) × (v ≡ choice (in_edition e p) i)
    go edition13 zero t = absurd (not-suc-le-zero t.0)
    go edition13 (suc i) t = (i, t.1, refl)
    go edition18 v t = (v, t, refl)

pub choice_before : (p : Parameters) (i j : ℕ) → choice p i < choice p j → i < j
choice_before p i j l = go p.edition l
  where
    go : (e : Edition) → choice (in_edition e p) i < choice (in_edition e p) j → i < j
    go edition13 l = le_of_suc-le-suc l
    go edition18 l = l

pub before_choice : (p : Parameters) (i j : ℕ) → i < j → choice p i < choice p j
before_choice p i j l = go p.edition
  where
    go : (e : Edition) → choice (in_edition e p) i < choice (in_edition e p) j
    go edition13 = suc-le-suc l
    go edition18 = l

module _ (p : Parameters) (m : ℕ) (t : ℕ → ℕ → Bool) where
  abbrev found : ℕ
  found = first_s p m t

  -- none before it passes
  pub first_miss : (s i : ℕ) → i < m → Before s (choice p i) (first_s p m t) (first_v p m t) → T (t s (choice p i)) → ⊥
  first_miss s i l (inl b) h =
      least_miss (λ u. any_below (λ j. t u (choice p j)) m) p.q s b (any_of (λ j. t s (choice p j)) m i l h)
  first_miss s i l (inr b) h = least_miss (λ j. t found (choice p j)) m i (choice_before p i _ b.1) (rw b.0 at h)

  pub first_misses : (s v : ℕ) → Tried p m v → Before s v (first_s p m t) (first_v p m t) → T (t s v) → ⊥
  first_misses s v d b h = let (i, l, f) = tried_index p m v d in first_miss s i l (rw f at b) (rw f at h)

  -- it is one of the choices where some choice passes
  pub first_below : (s i : ℕ) → s < p.q → i < m → T (t s (choice p i)) → first_s p m t < p.q
  first_below s i b l h =
      least_some (λ u. any_below (λ j. t u (choice p j)) m) p.q s b (any_of (λ j. t s (choice p j)) m i l h)

  -- and then it passes
  module _ (below : first_s p m t < p.q) where
    pub first_index : least (λ j. t found (choice p j)) m < m
    first_index =
        ltb→lt (least (λ j. t found (choice p j)) m) m (least_hit (λ u. any_below (λ j. t u (choice p j)) m) p.q below)

    pub first_tried : Tried p m (first_v p m t)
    first_tried = tried_at p m _ first_index

    pub first_passes : T (t (first_s p m t) (first_v p m t))
    first_passes = least_hit (λ j. t found (choice p j)) m first_index

  -- a choice that passes, with none before it that does, is the first
  pub first_is : (s i : ℕ) → s < p.q → i < m → T (t s (choice p i))
      → ((u j : ℕ) → j < m → Before u (choice p j) s (choice p i) → T (t u (choice p j)) → ⊥)
      → (first_s p m t ≡ s) × (first_v p m t ≡ choice p i)
  first_is s i b l h none =
      let e : found ≡ s =
      least_is (λ u. any_below (λ j. t u (choice p j)) m) p.q s b (any_of (λ j. t s (choice p j)) m i l h) (λ u k a.
      let (j, g, y) = any_at (λ j. t u (choice p j)) m a in none u j g (inl k) y) in
      let f : least (λ j. t s (choice p j)) m ≡ i =
      least_is (λ j. t s (choice p j)) m i l h (λ j k y. none s j (lt_trans k l) (inr (refl, before_choice p j i k)) y) in
      (e, ap (λ (u : ℕ). choice p (least (λ j. t u (choice p j)) m)) e ∙ ap (choice p) f)
