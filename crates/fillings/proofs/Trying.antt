-- Two erased symbols: the level of the first at which the second is filled is the first such level, and without one nothing fills them.
-- Assumes nothing.
use mathlib.Core.Path.{◌≡◌, refl, ap, ◌∙◌}
use mathlib.Core.Bool.{Bool, true, false}
use mathlib.Core.List.{List, [], ◌∷◌}
use Prim.Native.Nat.{ℕ, ◌<◌}
use native.Mathlib.Omega.{arith}
use lib.Dec.{ltb}
use lib.ListN.{get_or}
use borrow.Author.Tests.{lt-ltb, le-ltb}
use Rattle.modular_theory.proofs.Search.{holds, le_of_not_lt, least_hit, least_is}
use Rattle.code_theory.specs.Parameters.{Parameters}
use Rattle.decoding_theory.specs.Decoded.{Sums}
use Rattle.decoding_theory.specs.Filled.{Erased, sums_with, fillable, Filling, fills, nothing, fill_one, first_level, fill_two}
use Rattle.decoding_theory.proofs.Tests.{false_test}

module _ (p : Parameters) (d : Erased) (t : Sums) where
  -- where nothing fills d, the symbol that it wants does not
  pub unfilled : nothing ≡ fill_one p d t → fillable p d t ≡ false
  unfolding fill_one
  unfilled e = at (fillable p d t) refl
    where
      at : (b : Bool) → fillable p d t ≡ b → fillable p d t ≡ false
      at true k =
          let is = rw (k, fill_one) at e in
          let no : ◌≡◌ {A = ℕ} 0 1 = cc in
          absurd (omega arith)
      at false k = k

  -- and where something fills it, that symbol does
  fillable_of : {ys S S' : List ℕ} → fills ys S S' ≡ fill_one p d t → fillable p d t ≡ true
  unfolding fill_one
  fillable_of e = at (fillable p d t) refl
    where
      at : (b : Bool) → fillable p d t ≡ b → fillable p d t ≡ true
      at true k = k
      at false k =
          let is = rw (k, fill_one) at e in
          let no : ◌≡◌ {A = ℕ} 0 1 = cc in
          absurd (omega arith)

-- a symbol y before the first
abbrev preceded : ℕ → Filling → Filling
preceded y (fills ys S S') = fills (y ∷ get_or ys 0 0 ∷ []) S S'
preceded y nothing = nothing

module _ (p : Parameters) (d d' : Erased) (t : Sums) where
  -- the second can be filled once y stands at the first
  abbrev test : ℕ → Bool
  test y = fillable p d' (sums_with p d y t)

  pub two_none : ((j : ℕ) → j < p.q → test j ≡ false) → nothing ≡ fill_two p d d' t
  unfolding fill_two first_level
  two_none none =
      let past = le_of_not_lt (λ l. false_test (none _ l) (least_hit test p.q l)) in
      rw (le-ltb (first_level p d d' t) p.q past, fill_two)

  pub two_found : (y : ℕ) → y < p.q → ((j : ℕ) → j < y → test j ≡ false) → {zs S S' : List ℕ}
      → fills zs S S' ≡ fill_one p d' (sums_with p d y t) → fills (y ∷ get_or zs 0 0 ∷ []) S S' ≡ fill_two p d d' t
  unfolding fill_two first_level fill_one
  two_found y l none e =
      let hit : test y ≡ true = fillable_of p d' (sums_with p d y t) e in
      let found : first_level p d d' t ≡ y = least_is test p.q y l (holds _ hit) (λ j b. false_test (none j b)) in
      let below : ltb (first_level p d d' t) p.q ≡ true = ap (λ (x : ℕ). ltb x p.q) found ∙ lt-ltb y p.q l in
      rw (below, fill_two, found) (ap (preceded y) (rw (hit, fill_one) at e))
