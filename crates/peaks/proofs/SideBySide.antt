-- Lanes that are worked on one after the other.
-- Assumes nothing.
use mathlib.Core.Path.{◌≡◌, refl, sym, ap, ◌∙◌}
use mathlib.Core.List.{List}
use Prim.Native.Nat.{ℕ, zero, suc, ◌+◌, ◌-◌, ◌≤◌, ◌<◌}
use native.Mathlib.Nat.{le_refl}
use native.Mathlib.Omega.{arith}
use native.Mathlib.Decide.{ℕ_discrete}
use lib.ListN.{length, get_or, set, length-set}
use lib.Seq.{get_or-set_same, get_or-set_other, ext_get_or}
use Rattle.peaks.specs.Lanes.{lanes_of, LanesAre}
use Rattle.peaks.specs.Steps.{next_sum}

-- the first j lanes of r are those that f gives, and the others are as they were in s
pub record MadeTo (f : ℕ → ℕ) (s r : List ℕ) (j : ℕ) : Type 0 where
  pub size : length r ≡ 8
  pub at : (t : ℕ) → t < j → get_or r t 0 ≡ f t
  pub kept : (t : ℕ) → j ≤ t → get_or r t 0 ≡ get_or s t 0

pub made_none : (f : ℕ → ℕ) (s : List ℕ) → length s ≡ 8 → MadeTo f s s 0
made_none f s e = record { size = e; at = λ t h. absurd (omega arith); kept = λ t h. refl }

module _ {f : ℕ → ℕ} {s r : List ℕ} {j : ℕ} (m : MadeTo f s r j) where
  -- the lane that is next
  pub made_next : get_or r j 0 ≡ get_or s j 0
  made_next = m.kept j (le_refl j)

  pub made_more : j < 8 → {y : ℕ} → y ≡ f j → MadeTo f s (set r j y) (j + 1)
  made_more h {y} e =
      record {
        size = length-set r j y ∙ m.size;
        at = λ t l. either t (omega arith) (ℕ_discrete t j);
        kept = λ t l. get_or-set_other r j t y 0 (λ z. omega arith) ∙ m.kept t (omega arith);
      }
    where
      either : (t : ℕ) → t ≤ j → Dec (t ≡ j) → get_or (set r j y) t 0 ≡ f t
      either t l (yes z) = rw (z, get_or-set_same r j y 0 (omega (arith, m.size))) e
      either t l (no d) = get_or-set_other r j t y 0 d ∙ m.at t (omega (arith, d))

  pub made_all : 8 ≤ j → LanesAre f r
  made_all h = record { size = m.size; at = λ t l. m.at t (omega arith) }

-- the sum in the lane that is next
pub sum_next : (h : ℕ) (up : List ℕ) {f : ℕ → ℕ} {s r : List ℕ} {j : ℕ} → MadeTo f s r j
    → get_or r j 0 + get_or up j 0 - h ≡ next_sum h up s j
sum_next h up {j = j} m = ap (λ (x : ℕ). x + get_or up j 0 - h) (made_next m)

-- The lanes as a list.

pub lane_at_lem : (f : ℕ → ℕ) (t : ℕ) → t < 8 → get_or (lanes_of f) t 0 ≡ f t
lane_at_lem f zero h = refl
lane_at_lem f (suc zero) h = refl
lane_at_lem f (suc (suc zero)) h = refl
lane_at_lem f (suc (suc (suc zero))) h = refl
lane_at_lem f (suc (suc (suc (suc zero)))) h = refl
lane_at_lem f (suc (suc (suc (suc (suc zero))))) h = refl
lane_at_lem f (suc (suc (suc (suc (suc (suc zero)))))) h = refl
lane_at_lem f (suc (suc (suc (suc (suc (suc (suc zero))))))) h = refl
lane_at_lem f (suc (suc (suc (suc (suc (suc (suc (suc t)))))))) h = absurd (omega arith)

pub lanes_list : {f : ℕ → ℕ} {l : List ℕ} → LanesAre f l → l ≡ lanes_of f
lanes_list {f} {l} a =
    ext_get_or 0 l (lanes_of f) a.size (λ t h. let k : t < 8 = omega (arith, a.size) in a.at t k ∙ sym (lane_at_lem f t k))
