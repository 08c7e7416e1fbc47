-- What an array holds at each index once differences are put into it.
-- Assumes nothing.
use mathlib.Core.Path.{◌≡◌, refl}
use mathlib.Core.Bool.{Bool, false, ◌&&◌}
use mathlib.Core.List.{List}
use Prim.Native.Nat.{ℕ, suc, ◌<◌}
use native.Mathlib.Omega.{arith}
use lib.Dec.{T, ltb, lt→ltb}
use lib.ListN.{length, get_or}
use Rattle.modular_theory.proofs.Search.{and_intro, and_right, fails}
use Rattle.differences.specs.Overlaid.{difference_at, has_difference, differences_at}
use Rattle.differences.proofs.Overlaying.{length_overlaid, overlaid_asked, overlaid_other}

module _ (asked : ℕ → Bool) (backward : Bool) (q : ℕ) (w x : List ℕ) where
  pub length_held : length (differences_at asked backward q w x) ≡ length x
  unfolding differences_at
  length_held = length_overlaid (λ j. asked j && has_difference w j) (difference_at backward q w) x

  -- the first symbol has no difference
  pub first_held : get_or (differences_at asked backward q w x) 0 0 ≡ get_or x 0 0
  unfolding differences_at
  first_held = overlaid_other (λ j. asked j && has_difference w j) (difference_at backward q w) x 0 (and-false (asked 0))
    where
      and-false : (b : Bool) → b && false ≡ false
      and-false b = fails (λ t. and_right b false t)

  pub difference_held : (j : ℕ) → suc j < length x → suc j < length w → T (asked (suc j))
      → get_or (differences_at asked backward q w x) (suc j) 0 ≡ difference_at backward q w (suc j)
  unfolding differences_at
  difference_held j h l t =
      overlaid_asked (λ j. asked j && has_difference w j) (difference_at backward q w) x (suc j) h
      (and_intro (asked (suc j)) (has_difference w (suc j)) t
      (and_intro (ltb 0 (suc j)) (ltb (suc j) (length w)) (lt→ltb 0 (suc j) (omega arith)) (lt→ltb (suc j) (length w) l)))

  pub other_held : (j : ℕ) → asked j ≡ false → get_or (differences_at asked backward q w x) j 0 ≡ get_or x j 0
  unfolding differences_at
  other_held j e = overlaid_other (λ j. asked j && has_difference w j) (difference_at backward q w) x j (rw e refl)
