-- The check symbols: each position set in turn, and what makes up for the row sums.
-- Assumes nothing.
use mathlib.Core.Path.{◌≡◌, refl, sym, ap, ◌∙◌}
use mathlib.Core.Bool.{true, false}
use mathlib.Core.List.{List, [], ◌∷◌}
use Prim.Native.Nat.{ℕ, zero, suc, ◌+◌, ◌-◌, ◌*◌, ◌^◌, ◌≤◌, ◌<◌}
use native.Mathlib.Nat.{pow-zero, pow-suc}
use native.Mathlib.Omega.{arith}
use lib.ListN.{get_or}
use Rattle.modular_theory.specs.Residue.{Congruent, minus}
use Rattle.modular_theory.proofs.Residue.{of_eq, same, add, ◌then◌, minus_below, minus_add}
use Rattle.code_theory.proofs.Reduced.{pivot_below, power_position}
use Rattle.profiles.specs.declared.row.Row.{Row}
use Rattle.profiles.specs.Row.{parameters, Valid}
use Rattle.symbols.specs.Syndromes.{part}
use Rattle.components.specs.Checks.{check_position, checked, set_at, Solves, Filled}
use Rattle.components.proofs.Interleaving.{set_first, set_second, set_head, set_past}

-- The check positions after 2, as the code has them.

pub position_one : (q : ℕ) → 1 ≡ check_position q 1
position_one q = sym (pow-zero q)

pub position_mid : (q : ℕ) → q ≡ check_position q 2
position_mid q = omega (arith, pow-suc q 0, ap (λ (x : ℕ). x * q) (pow-zero q))

pub position_high : (q : ℕ) → q * q ≡ check_position q 3
position_high q = ap (λ (x : ℕ). x * q) (position_mid q) ∙ sym (pow-suc q 1)

-- k check symbols of both components of x₀ are set
record Setting (t : Row) (e f x₀ x : List ℕ) (k : ℕ) : Type 0 where
  head : get_or x 0 0 ≡ get_or x₀ 0 0
  first : part true t.n x ≡ checked t.q e (part true t.n x₀) k
  second : part false t.n x ≡ checked t.q f (part false t.n x₀) k
  past : (i : ℕ) → 2 * t.n + 1 ≤ i → get_or x i 0 ≡ get_or x₀ i 0

module _ (t : Row) (valid : Valid t) where
  inside : (k : ℕ) → k < t.r → (1 ≤ check_position t.q k) × (check_position t.q k ≤ t.n)
  inside zero h = (omega arith, valid.sized.second)
  inside (suc j) h =
      let b : t.q ^ j - 1 < t.n = pivot_below (parameters t) valid.sized (suc j) h in
      let e : suc (t.q ^ j - 1) ≡ t.q ^ j = power_position (parameters t) valid.sized j in
      (omega arith, omega arith)

  module _ (e f x₀ : List ℕ) where
    setting_more : {x : List ℕ} (k : ℕ) → Setting t e f x₀ x k → k < t.r → {position : ℕ} → position ≡ check_position t.q k
        → Setting t e f x₀ (set_at x position (get_or e k 0) (get_or f k 0)) (suc k)
    setting_more {x} k s h {position} p =
        let n : ℕ = t.n in
        let a : ℕ = get_or e k 0 in
        let b : ℕ = get_or f k 0 in
        let from : 1 ≤ position = omega (arith, inside k h) in
        let upto : position ≤ n = omega (arith, inside k h) in
        let i : position - 1 ≡ check_position t.q k - 1 = ap (λ (j : ℕ). j - 1) p in
        record {
          head = set_head n x position a b from upto ∙ s.head;
          first = set_first n x position a b from upto ∙ rw (i, s.first);
          second = set_second n x position a b from upto ∙ rw (i, s.second);
          past = λ j l. set_past n x position a b from upto j l ∙ s.past j l;
        }

    setting_all : {x : List ℕ} {k : ℕ} → t.r ≡ k → Setting t e f x₀ x k → Filled t x₀ e f x
    setting_all r s = record { head = s.head; first_part = rw r s.first; second_part = rw r s.second; past = s.past }

    -- 2, 1 and q
    abbrev three : List ℕ
    three = set_at (set_at (set_at x₀ 2 (get_or e 0 0) (get_or f 0 0)) 1 (get_or e 1 0) (get_or f 1 0)) t.q (get_or e 2 0) (get_or f 2 0)

    setting_three : 3 ≤ t.r → Setting t e f x₀ three 3
    setting_three h =
        setting_more 2
        (setting_more 1
        (setting_more 0 (record { head = refl; first = refl; second = refl; past = λ i l. refl }) (omega arith) refl) (omega arith)
        (position_one t.q)) h (position_mid t.q)

    pub filled_three : t.r ≡ 3 → Filled t x₀ e f three
    filled_three r = setting_all r (setting_three (omega arith))

    pub filled_four : t.r ≡ 4 → Filled t x₀ e f (set_at three (t.q * t.q) (get_or e 3 0) (get_or f 3 0))
    filled_four r = setting_all r (setting_more 3 (setting_three (omega arith)) (omega arith) (position_high t.q))

-- The differences, put back.

-- r is a - x
pub record TakenFrom (q a x r : ℕ) : Type 0 where
  pub below : r < q
  pub back : Congruent q (r + x) a

pub taken : {q r : ℕ} (a x : ℕ) → 1 ≤ q → r ≡ minus q a x → TakenFrom q a x r
taken {q} a x some e =
    record { below = rw e (minus_below q a x some); back = of_eq (ap (λ (y : ℕ). y + x) e) then minus_add q a x some }

pub solves_of : {q a b two d e one f g : ℕ} (s : List ℕ)
    → TakenFrom q (get_or s 3 0) (get_or s 0 0) a → TakenFrom q a (get_or s 1 0) b → TakenFrom q b (get_or s 2 0) two
    → TakenFrom q 0 (get_or s 0 0) d → TakenFrom q d two e → TakenFrom q e two one
    → TakenFrom q 0 (get_or s 1 0) f → TakenFrom q 0 (get_or s 2 0) g
    → Solves q s (two ∷ one ∷ f ∷ g ∷ [])
solves_of {q} {two = two} {one = one} {f = f} {g = g} s ha hb htwo hd he hone hf hg =
    record { below = below; two = is_two; one = is_one; powers = powers }
  where
    low : ℕ
    low = get_or s 0 0

    mid : ℕ
    mid = get_or s 1 0

    high : ℕ
    high = get_or s 2 0

    ones : ℕ
    ones = get_or s 3 0

    below : (k : ℕ) → k < 4 → get_or (two ∷ one ∷ f ∷ g ∷ []) k 0 < q
    below zero l = htwo.below
    below (suc zero) l = hone.below
    below (suc (suc zero)) l = hf.below
    below (suc (suc (suc zero))) l = hg.below
    below (suc (suc (suc (suc k)))) l = absurd (omega arith)

    is_two : Congruent q (two + (low + mid + high)) ones
    is_two =
        let u : two + (low + mid + high) ≡ two + high + mid + low = omega arith in
        of_eq u then add (add htwo.back (same mid) then hb.back) (same low) then ha.back

    is_one : Congruent q (one + (low + 2 * two)) 0
    is_one =
        let u : one + (low + 2 * two) ≡ one + two + two + low = omega arith in
        of_eq u then add (add hone.back (same two) then he.back) (same low) then hd.back

    powers : (j : ℕ) → 1 < suc j → j < 3 → Congruent q (get_or (two ∷ one ∷ f ∷ g ∷ []) (suc j) 0 + get_or s j 0) 0
    powers zero l m = absurd (omega arith)
    powers (suc zero) l m = hf.back
    powers (suc (suc zero)) l m = hg.back
    powers (suc (suc (suc j))) l m = absurd (omega arith)
