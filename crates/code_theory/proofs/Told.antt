-- Two indices of one parity are told apart: the columns that they meet differ in each component, and where both last rows together weigh
-- the same, each does.
-- Assumes nothing.
use mathlib.Core.Path.{◌≡◌, sym, ap, ap₂, ◌∙◌}
use mathlib.Core.Logic.{◌⊎◌, inl, inr, ◌≢◌}
use mathlib.Core.Bool.{Bool, true, false}
use Prim.Native.Nat.{ℕ, zero, suc, ◌+◌, ◌-◌, ◌*◌, ◌≤◌, ◌<◌}
use native.Mathlib.Nat.{not-suc-le-zero, le_refl, le_of_lt, eq-or-lt_of_le}
use native.Mathlib.Omega.{arith}
use Rattle.modular_theory.specs.Residue.{Congruent}
use Rattle.modular_theory.proofs.Residue.{of_eq, same, symm, ◌then◌, add, multiple, small, cancel}
use Rattle.code_theory.specs.Parameters.{Parameters, Sized}
use Rattle.code_theory.specs.Component.{check_row}
use Rattle.code_theory.proofs.Weights.{double, double_is, parity, ones, spread_take, spread_skip, later, times_pred}
use Rattle.code_theory.proofs.Weights.{weight_first_odd, weight_second_odd, weight_first_even, weight_second_even}
use Rattle.code_theory.proofs.Columns.{q_positive, one_not_zero, entry, entry_last, entry_out, entries_differ, laters_differ}
use Rattle.code_theory.proofs.Moves.{row_weight, last_weight, both_last, SameWeights, ToldApart}

-- (q - 1) times a number cancels
cancel_pred : (q a b : ℕ) → 1 ≤ q → Congruent q ((q - 1) * a) ((q - 1) * b) → Congruent q a b
cancel_pred q a b h k =
    let e : a + (q - 1) * b ≡ (q - 1) * b + a = omega arith in
    let d : b + (q - 1) * b ≡ 0 + b * q = omega (arith, times_pred q b h) in
    let c : 0 + a * q ≡ (q - 1) * a + a = omega (arith, times_pred q a h) in
    cancel ((q - 1) * b)
    (of_eq e then add (symm k) (same a) then of_eq (sym c) then multiple q 0 a then symm (multiple q 0 b) then of_eq (sym d))

module _ (p : Parameters) (s : Sized p) where
  -- two indices at even positions
  told_even : (a c : ℕ) → a < p.n → c < p.n → a ≢ c → ToldApart p (suc (double a)) (suc (double c))
  told_even a c ha hc ne =
      record {
        differ = λ b e. ne (sym (differ b e));
        last = λ e. of_eq (at true (p.r - 1) c ∙ entry_last p c hc ∙ sym (entry_last p a ha) ∙ sym (at true (p.r - 1) a));
      }
    where
      factor : Bool → ℕ → ℕ
      factor true x = x
      factor false x = (p.q - 1) * x

      at : (b : Bool) (k x : ℕ) → row_weight p b k (suc (double x)) ≡ factor b (entry p k x)
      at true k x = weight_first_even p (check_row p k) x
      at false k x = weight_second_even p (check_row p k) x

      unfactor : (b : Bool) (x y : ℕ) → Congruent p.q (factor b x) (factor b y) → Congruent p.q x y
      unfactor true x y h = h
      unfactor false x y h = cancel_pred p.q x y (q_positive p s) h

      differ : (b : Bool) → SameWeights p b (suc (double a)) (suc (double c)) → c ≡ a
      differ b e =
          entries_differ p s c a (omega arith) (omega arith)
          (λ k h. unfactor b (entry p k c) (entry p k a) (of_eq (sym (at b k c)) then e k h then of_eq (at b k a)))

  -- the last rows' weights at an odd position, the first component's and the second's together
  total : ℕ → ℕ
  total x = (p.q - 1) * entry p (p.r - 1) x + later (entry p (p.r - 1)) x

  later_last : (x : ℕ) → 1 ≤ x → x ≤ p.n → later (entry p (p.r - 1)) x ≡ 1
  later_last zero h k = absurd (not-suc-le-zero h)
  later_last (suc x) h k = entry_last p x k

  -- at the last position it is 1
  total_last : total p.n ≡ 1
  unfolding total
  total_last =
      let before : later (entry p (p.r - 1)) p.n ≡ 1 = later_last p.n (omega (arith, s.second)) (le_refl p.n) in
      rw (entry_out p (p.r - 1) p.n (le_refl p.n), before) (omega arith)

  -- and there alone
  not_last : (c : ℕ) → c < p.n → Congruent p.q (total c) (total p.n) → ⊥
  unfolding total
  not_last zero h e =
      let a : total 0 ≡ p.q - 1 = rw (entry_last p 0 h) (omega arith) in
      let one : 1 < p.q = omega (arith, s.levels) in
      let k : p.q - 1 ≡ 1 = small {q = p.q} (omega arith) one (of_eq (sym a) then e then of_eq total_last) in
      omega (arith, s.levels)
  not_last (suc c) h e =
      let a : total (suc c) ≡ 0 + 1 * p.q = rw (entry_last p (suc c) h, entry_last p c (le_of_lt h)) (omega (arith, s.levels)) in
      one_not_zero p s (of_eq (sym total_last) then symm e then of_eq a then multiple p.q 0 1)

  -- two indices at odd positions
  told_odd : (a c : ℕ) → a ≤ p.n → c ≤ p.n → a ≢ c → ToldApart p (double a) (double c)
  unfolding total
  told_odd a c ha hc ne = record { differ = λ b e. ne (sym (differ b e)); last = λ e. go (eq-or-lt_of_le ha) (eq-or-lt_of_le hc) e }
    where
      first_is : (k x : ℕ) → row_weight p true k (double x) ≡ (p.q - 1) * entry p k x
      first_is k x = weight_first_odd p (check_row p k) x

      second_is : (k x : ℕ) → row_weight p false k (double x) ≡ later (entry p k) x
      second_is k x = weight_second_odd p (check_row p k) x

      total_is : (x : ℕ) → both_last p (double x) ≡ total x
      total_is x = ap₂ (λ (y z : ℕ). y + z) (first_is (p.r - 1) x) (second_is (p.r - 1) x)

      differ : (b : Bool) → SameWeights p b (double a) (double c) → c ≡ a
      differ true e =
          entries_differ p s c a hc ha
          (λ k h.
          cancel_pred p.q (entry p k c) (entry p k a) (q_positive p s) (of_eq (sym (first_is k c)) then e k h then of_eq (first_is k a)))
      differ false e =
          laters_differ p s c a hc ha (λ k h. of_eq (sym (second_is k c)) then e k h then of_eq (second_is k a))

      go : (a ≡ p.n) ⊎ (a < p.n) → (c ≡ p.n) ⊎ (c < p.n)
          → Congruent p.q (both_last p (double c)) (both_last p (double a))
          → Congruent p.q (last_weight p true (double c)) (last_weight p true (double a))
      go (inl x) (inl y) e = absurd (ne (x ∙ sym y))
      go (inl x) (inr y) e = absurd (not_last c y (of_eq (sym (total_is c)) then e then of_eq (total_is a ∙ ap total x)))
      go (inr x) (inl y) e = absurd (not_last a x (of_eq (sym (total_is a)) then symm e then of_eq (total_is c ∙ ap total y)))
      go (inr x) (inr y) e =
          let ends : entry p (p.r - 1) c ≡ entry p (p.r - 1) a = entry_last p c y ∙ sym (entry_last p a x) in
          of_eq (first_is (p.r - 1) c ∙ ap (λ (z : ℕ). (p.q - 1) * z) ends ∙ sym (first_is (p.r - 1) a))

  -- i and j of one parity, which the check sum over the odd positions shows
  pub told : (i j : ℕ) → i < suc (double p.n) → j < suc (double p.n) → i ≢ j
      → Congruent p.q (ones true j) (ones true i) → ToldApart p i j
  told i j hi hj ne e = go (parity i).0 (parity j).0 (parity i).1 (parity j).1
    where
      odd_one : (t a : ℕ) → t ≡ double a → ones true t ≡ 1
      odd_one t a x = ap (ones true) x ∙ spread_take (λ x. 1) a

      even_zero : (t a : ℕ) → t ≡ suc (double a) → ones true t ≡ 0
      even_zero t a x = ap (ones true) x ∙ spread_skip (λ x. 1) a

      go : (a c : ℕ) → (i ≡ double a) ⊎ (i ≡ suc (double a)) → (j ≡ double c) ⊎ (j ≡ suc (double c)) → ToldApart p i j
      go a c (inl x) (inl y) =
          let ha : a ≤ p.n = omega (arith, double_is a, double_is p.n) in
          let hc : c ≤ p.n = omega (arith, double_is c, double_is p.n) in
          rw (x, y) (told_odd a c ha hc (λ k. ne (x ∙ ap double k ∙ sym y)))
      go a c (inl x) (inr y) = absurd (one_not_zero p s (of_eq (sym (odd_one i a x)) then symm e then of_eq (even_zero j c y)))
      go a c (inr x) (inl y) = absurd (one_not_zero p s (of_eq (sym (odd_one j c y)) then e then of_eq (even_zero i a x)))
      go a c (inr x) (inr y) =
          let ha : a < p.n = omega (arith, double_is a, double_is p.n) in
          let hc : c < p.n = omega (arith, double_is c, double_is p.n) in
          rw (x, y) (told_even a c ha hc (λ k. ne (x ∙ ap (λ (t : ℕ). suc (double t)) k ∙ sym y)))
