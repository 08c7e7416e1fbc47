-- Indices after the first, which have a difference.
-- Assumes nothing.
use mathlib.Core.Bool.{◌&&◌}
use Prim.Native.Nat.{ℕ, min, ◌<◌}
use native.Mathlib.Nat.{le_trans, min-le_left, min-le_right}
use lib.Dec.{T, ltb, ltb→lt, lt→ltb}
use Rattle.modular_theory.proofs.Search.{and_intro, and_left, and_right}

-- an index from 1 to k - 1
pub after_first : (k j : ℕ) → T (ltb 0 j && ltb j k) → (0 < j) × (j < k)
after_first k j t = (ltb→lt 0 j (and_left (ltb 0 j) (ltb j k) t), ltb→lt j k (and_right (ltb 0 j) (ltb j k) t))

pub after_first_of : (k j : ℕ) → 0 < j → j < k → T (ltb 0 j && ltb j k)
after_first_of k j h l = and_intro (ltb 0 j) (ltb j k) (lt→ltb 0 j h) (lt→ltb j k l)

-- an index of what there is, of m symbols, in an array of 97 and in a word of k
pub below_each : (m k j : ℕ) → j < min (min m 97) k → (j < min m 97) × (j < k)
below_each m k j l = (le_trans l (min-le_left (min m 97) k), le_trans l (min-le_right (min m 97) k))
