-- An array that is changed from its start, an element at a time.
-- Assumes nothing.
use mathlib.Core.Path.{◌≡◌, refl, ◌∙◌}
use mathlib.Core.List.{List}
use Prim.Native.Nat.{ℕ, ◌+◌, ◌≤◌, ◌<◌}
use native.Mathlib.Nat.{le_refl}
use native.Mathlib.Omega.{arith}
use native.Mathlib.Decide.{ℕ_discrete}
use lib.ListN.{length, get_or, set, length-set}
use lib.Seq.{get_or-set_same, get_or-set_other}

-- the first j elements of r are those that f gives, and the others are as they were in s
pub record ChangedTo (f : ℕ → ℕ) (s r : List ℕ) (j : ℕ) : Type 0 where
  pub size : length r ≡ length s
  pub at : (k : ℕ) → k < j → get_or r k 0 ≡ f k
  pub kept : (k : ℕ) → j ≤ k → get_or r k 0 ≡ get_or s k 0

pub changed_none : (f : ℕ → ℕ) (s : List ℕ) → ChangedTo f s s 0
changed_none f s = record { size = refl; at = λ k h. absurd (omega arith); kept = λ k h. refl }

module _ {f : ℕ → ℕ} {s r : List ℕ} {j : ℕ} (c : ChangedTo f s r j) where
  -- the element that is next
  pub changed_next : get_or r j 0 ≡ get_or s j 0
  changed_next = c.kept j (le_refl j)

  pub changed_more : j < length r → {y : ℕ} → y ≡ f j → ChangedTo f s (set r j y) (j + 1)
  changed_more h {y} e =
      record {
        size = length-set r j y ∙ c.size;
        at = λ k l. either k (omega arith) (ℕ_discrete k j);
        kept = λ k l. get_or-set_other r j k y 0 (λ z. omega arith) ∙ c.kept k (omega arith);
      }
    where
      either : (k : ℕ) → k ≤ j → Dec (k ≡ j) → get_or (set r j y) k 0 ≡ f k
      either k l (yes z) = rw (z, get_or-set_same r j y 0 h) e
      either k l (no d) = get_or-set_other r j k y 0 d ∙ c.at k (omega (arith, d))
