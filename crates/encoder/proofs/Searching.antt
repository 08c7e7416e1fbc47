-- The search for the earliest balancing choice over the word that the choices shift: s from 0 up and, for each s, v up, with the excess
-- carried from v to v + 1.
-- Assumes nothing.
use mathlib.Core.Path.{◌≡◌, sym, ap, ap₂, ◌∙◌}
use mathlib.Core.Logic.{◌≢◌, inl, inr, ⊎_elim}
use mathlib.Core.List.{List}
use Prim.Native.Nat.{ℕ, suc, ◌+◌, ◌-◌, ◌*◌, ◌/◌, ◌%◌, ◌≤◌, ◌<◌}
use native.Mathlib.Nat.{not-suc-le-zero, le_of_suc-le-suc, le_refl}
use native.Mathlib.Omega.{arith}
use lib.ListN.{length, take}
use lib.Seq.{length-take-le}
use lib.IntN.{ℤ, pos}
use Rattle.modular_theory.specs.Sum.{weight}
use Rattle.modular_theory.proofs.Search.{le_or_lt, le_of_not_lt}
use Rattle.modular_theory.proofs.Integer.{difference_zero, no_difference}
use Rattle.code_theory.specs.Parameters.{Parameters, balancing_value}
use Rattle.code_theory.specs.Balance.{shifted_from, choice, chosen, earliest_s, earliest_v, balanced}
use Rattle.code_theory.specs.Walk.{walked, shift_of, unwalked}
use Rattle.code_theory.specs.LineRule.{rule1}
use Rattle.code_theory.specs.Claims.{Balanced}
use Rattle.code_theory.proofs.Walk.{chosen_walked, length_walked, shift_below, Together, halves_together}
use Rattle.code_theory.proofs.First.{tried_at, tried_index, before_choice}
use Rattle.code_theory.proofs.Choice.{balance_exists}
use Rattle.code_theory.proofs.LineRule.{balanced_by_one}
use Rattle.profiles.specs.declared.row.Row.{Row}
use Rattle.profiles.specs.Row.{parameters, Valid}
use Rattle.encoder.specs.Symbols.{Walked, Chosen}
use Rattle.encoder.proofs.Stepping.{weight_at, excess_at}

-- The two loops.

-- the shift t with 1 more from index i on does not balance
abbrev Misses : ℕ → List ℕ → ℕ → ℕ → Type 0
Misses q d t i = weight_at q d t i ≢ balancing_value q (length d)

-- no choice with an s below this one balances
pub record Missed (p : Parameters) (d : List ℕ) (s : ℕ) : Type 0 where
  pub all : (t i : ℕ) → t < s → i < length d → Misses p.q d (shift_of p t) i

-- nor does one with this shift and a v below this one, and `excess` is what the choice weighs less the balancing value
pub record Trying (q : ℕ) (d : List ℕ) (t v : ℕ) (excess : ℤ) : Type 0 where
  pub from : 1 ≤ v
  pub upto : v ≤ length d + 1
  pub is : excess ≡ excess_at q d t (v - 1)
  pub missed : (i : ℕ) → suc i < v → Misses q d t i

module _ {q : ℕ} {d : List ℕ} {t : ℕ} where
  pub trying_first : {excess : ℤ} → 1 ≤ length d → excess ≡ excess_at q d t 0 → Trying q d t 1 excess
  trying_first l e =
      record {
        from = le_refl 1;
        upto = omega arith;
        is = e;
        missed = λ i a. absurd (not-suc-le-zero (le_of_suc-le-suc a));
      }

  pub trying_next : {v : ℕ} {excess y : ℤ} → Trying q d t v excess → v ≤ length d → excess ≢ pos 0 → y ≡ excess_at q d t (suc (v - 1))
      → Trying q d t (v + 1) y
  trying_next {v} {excess} {y} r l n e =
      let f : v + 1 - 1 ≡ suc (v - 1) = omega (arith, r.from) in
      record {
        from = omega arith;
        upto = omega arith;
        is = rw f e;
        missed = λ i a. ⊎_elim (λ (c : v ≤ suc i). at i (omega arith)) (r.missed i) (le_or_lt v (suc i));
      }
    where
      at : (i : ℕ) → i ≡ v - 1 → Misses q d t i
      at i g m = n (r.is ∙ no_difference (ap (weight_at q d t) (sym g) ∙ m))

pub trying_all : {p : Parameters} {d : List ℕ} {s t v : ℕ} {excess : ℤ} → Trying p.q d t v excess → t ≡ shift_of p s → length d < v
    → Missed p d s → Missed p d (s + 1)
trying_all {p} {d} {s} {t} r g l m =
    record { all = λ u i a b. ⊎_elim (λ (k : s ≤ u). at u i (omega arith) b) (λ (k : u < s). m.all u i k b) (le_or_lt s u) }
  where
    at : (u i : ℕ) → u ≡ s → i < length d → Misses p.q d (shift_of p u) i
    at u i e b = rw (e, ← g) (r.missed i (omega arith))

-- The choice used, of an x whose choices shift d.

module _ {p : Parameters} (h : 1 ≤ p.q) {d : List ℕ} (x : List ℕ) (is : d ≡ walked p x)
    (even : length x * (p.q - 1) % 2 ≡ 0) (b : Balanced p x) where
  same_length : length d ≡ length x
  same_length = ap length is ∙ length_walked p h x

  target : balancing_value p.q (length d) ≡ balancing_value p.q (length x)
  target = ap (balancing_value p.q) same_length

  -- a choice balances where its shift does
  meets : (s i : ℕ) → i < length x
      → Together (weight (chosen p x s (choice p i))) (weight_at p.q d (shift_of p s) i) (balancing_value p.q (length x))
  unfolding balancing_value
  meets s i l =
      let m : length d * (p.q - 1) ≡ 2 * balancing_value p.q (length x) = rw same_length (omega arith) in
      let w : List ℕ = unwalked p (shifted_from p.q (shift_of p s) i d) in
      let f : chosen p x s (choice p i) ≡ w =
      chosen_walked p h x s i l ∙ ap (λ (e : List ℕ). unwalked p (shifted_from p.q (shift_of p s) i e)) (sym is) in
      let t = halves_together p h d (shift_of p s) i (balancing_value p.q (length x)) m in
      record { to = λ g. t.to (sym (ap weight f) ∙ g); from = λ g. ap weight f ∙ t.from g }

  -- the choice used, by its index among those tried
  used : (i : ℕ) × (i < length x) × (earliest_v p x ≡ choice p i)
  used = tried_index p (length x) (earliest_v p x) b.v_tried

  balances_used : weight_at p.q d (shift_of p (earliest_s p x)) used.0 ≡ balancing_value p.q (length d)
  unfolding balanced
  balances_used =
      let f : weight (chosen p x (earliest_s p x) (choice p used.0)) ≡ balancing_value p.q (length x) = rw (← used.2) b.balances in
      (meets (earliest_s p x) used.0 used.1).to f ∙ sym target

  -- so some s is left
  pub missed_below : {s : ℕ} → Missed p d s → s ≤ earliest_s p x
  missed_below {s} m =
      le_of_not_lt (λ (k : earliest_s p x < s). m.all (earliest_s p x) used.0 k (omega (arith, used.1, same_length)) balances_used)

  module _ {s t v : ℕ} {excess : ℤ} (m : Missed p d s) (g : t ≡ shift_of p s) (r : Trying p.q d t v excess) (l : v ≤ length d)
      (z : excess ≡ pos 0) where
    inside : v - 1 < length x
    inside = omega (arith, r.from, same_length)

    here : weight (chosen p x s (choice p (v - 1))) ≡ balancing_value p.q (length x)
    here =
        let f : weight_at p.q d t (v - 1) ≡ balancing_value p.q (length d) =
        difference_zero (weight_at p.q d t (v - 1)) (balancing_value p.q (length d)) (sym r.is ∙ z) in
        (meets s (v - 1) inside).from (rw (← g) (f ∙ target))

    is_s : s ≡ earliest_s p x
    is_s =
        ⊎_elim (λ (k : earliest_s p x ≤ s). omega (arith, missed_below m))
        (λ (k : s < earliest_s p x). absurd (b.first s (choice p (v - 1)) (tried_at p (length x) (v - 1) inside) (inl k) here))
        (le_or_lt (earliest_s p x) s)

    earlier : used.0 < v - 1 → ⊥
    earlier k = r.missed used.0 (omega arith) (rw (g, is_s) balances_used)

    is_index : v - 1 ≡ used.0
    is_index =
        let low : v - 1 ≤ used.0 = le_of_not_lt earlier in
        ⊎_elim (λ (k : used.0 ≤ v - 1). omega arith)
        (λ (k : v - 1 < used.0).
        absurd
        (b.first s (choice p (v - 1)) (tried_at p (length x) (v - 1) inside)
        (inr (is_s, rw used.2 (before_choice p (v - 1) used.0 k))) here))
        (le_or_lt used.0 (v - 1))

    -- the shifted word gives w
    pub found_word : unwalked p (shifted_from p.q t (v - 1) d) ≡ balanced p x
    unfolding balanced
    found_word =
        ap₂ (λ (a : ℕ) (e : List ℕ). unwalked p (shifted_from p.q a (v - 1) e)) g is
        ∙ sym (chosen_walked p h x s (v - 1) inside)
        ∙ ap₂ (chosen p x) is_s (ap (choice p) is_index ∙ sym used.2)

-- The word of a row's length.

module _ (t : Row) (valid : Valid t) where
  pub row_size : (x : List ℕ) → length x ≡ 97 → length (take t.balanced x) ≡ t.balanced
  row_size x e = length-take-le t.balanced x (omega (arith, valid.balanced, valid.length))

  levels : 1 ≤ t.q
  levels = omega (arith, valid.sized.levels)

  -- q is odd
  row_even : (k : ℕ) → k * (t.q - 1) % 2 ≡ 0
  row_even k =
      let f : t.q - 1 ≡ 2 * (t.q / 2) = omega (arith, valid.sized.odd) in
      let g : k * (2 * (t.q / 2)) % 2 ≡ 0 = omega arith in
      rw f g

  -- so it can be balanced
  row_balances : (x : List ℕ) → length x ≡ t.balanced → Balanced (parameters t) x
  row_balances x e = balance_exists (parameters t) x levels (omega (arith, valid.balanced)) (row_even (length x))

  long : {d : List ℕ} (x : List ℕ) → d ≡ walked (parameters t) x → length d ≡ t.balanced → length x ≡ t.balanced
  long x i e = sym (length_walked (parameters t) levels x) ∙ ap length (sym i) ∙ e

  -- and some s is left whatever has been tried
  pub s_left : {d : List ℕ} {s : ℕ} → length d ≡ t.balanced → Walked (parameters t) d → Missed (parameters t) d s → s < t.q
  s_left {d} e i m =
      let b : Balanced (parameters t) i.of = row_balances i.of (long i.of i.is e) in
      omega (arith, missed_below levels i.of i.is (row_even (length i.of)) b m, b.s_below)

  pub all_found : {d : List ℕ} {s u v : ℕ} {excess : ℤ} → length d ≡ t.balanced → Walked (parameters t) d → Missed (parameters t) d s
      → u ≡ shift_of (parameters t) s → Trying t.q d u v excess → v ≤ length d → excess ≡ pos 0 → Chosen rule1 (parameters t) d u v
  all_found {d} {s} {u} {v} e i m g y l f =
      record {
        below = rw g (shift_below (parameters t) levels s (s_left e i m));
        from = y.from;
        upto = l;
        word =
            λ x j.
            found_word levels x j (row_even (length x)) (row_balances x (long x j e)) m g y l f
            ∙ sym (balanced_by_one (parameters t) x);
      }
