-- An index that makes the syndromes near is the first that does, since it is the only one.
-- Assumes nothing.
use mathlib.Core.Path.{◌≡◌}
use mathlib.Core.Bool.{Bool}
use mathlib.Core.List.{List}
use Prim.Native.Nat.{ℕ, ◌≤◌, ◌<◌}
use lib.Dec.{T}
use lib.IntN.{ℤ, nat_abs}
use Rattle.modular_theory.proofs.Search.{least_le, least_hit, least_miss, least_some}
use Rattle.code_theory.specs.Parameters.{Parameters, Sized}
use Rattle.decoding_theory.specs.Decoded.{position_count}
use Rattle.locating_theory.specs.ErrorPosition.{near_without, error_index}
use Rattle.locating_theory.specs.Claims.{UnitError}
use Rattle.locating_theory.proofs.Unique.{one_index}

module _ (p : Parameters) (b : Bool) (e : ℤ) (S S' : List ℕ) where
  pub index_upto : error_index p b e S S' ≤ position_count p b
  unfolding error_index
  index_upto = least_le (near_without p b e S S') (position_count p b)

  pub index_near : error_index p b e S S' < position_count p b → T (near_without p b e S S' (error_index p b e S S'))
  unfolding error_index
  index_near l = least_hit (near_without p b e S S') (position_count p b) l

  pub index_found : (k : ℕ) → k < position_count p b → T (near_without p b e S S' k) → error_index p b e S S' < position_count p b
  unfolding error_index
  index_found k l t = least_some (near_without p b e S S') (position_count p b) k l t

  pub index_first : (k : ℕ) → k < error_index p b e S S' → T (near_without p b e S S' k) → ⊥
  unfolding error_index
  index_first k l t = least_miss (near_without p b e S S') (position_count p b) k l t

  pub index_is : Sized p → nat_abs e < p.q → UnitError p e → (k : ℕ) → k < position_count p b → T (near_without p b e S S' k)
      → error_index p b e S S' ≡ k
  index_is s m u k l t =
      let found : error_index p b e S S' < position_count p b = index_found k l t in
      one_index p s b e m u S S' (error_index p b e S S') k found l (index_near found) t
