-- Columns of the check matrix differ: their digits do, since n is below q^(r-1), and each ends in 1, as the zero column outside the matrix
-- does not.
-- Assumes nothing.
use mathlib.Core.Path.{◌≡◌, refl, sym, ap, subst, ◌∙◌}
use mathlib.Core.Logic.{◌⊎◌, inl, inr}
use mathlib.Core.List.{[], ◌∷◌}
use Prim.Native.Nat.{ℕ, zero, suc, ◌-◌, ◌^◌, ◌≤◌, ◌<◌, zero-le, suc-le-suc}
use native.Mathlib.Nat.{suc_inj, pow-zero, eq-or-lt_of_le, le_trans}
use native.Mathlib.Omega.{arith}
use lib.ListN.{get_or, get_or-append}
use lib.Seq.{get_or_at}
use Rattle.modular_theory.specs.Residue.{Congruent}
use Rattle.modular_theory.specs.Digits.{digits}
use Rattle.modular_theory.proofs.Residue.{of_eq, symm, ◌then◌, small}
use Rattle.modular_theory.proofs.Digits.{length_digits, digits_below, digits_injective}
use Rattle.code_theory.specs.Parameters.{Parameters, Sized}
use Rattle.code_theory.specs.Component.{check_row}
use Rattle.code_theory.proofs.Weights.{cut, cut_below, cut_past, later}

-- the last row is all 1
pub last_row : (p : Parameters) (i : ℕ) → check_row p (p.r - 1) i ≡ 1
last_row p i = get_or_at (digits p.q (p.r - 1) (suc i)) 1 [] 0 (p.r - 1) (length_digits p.q (p.r - 1) (suc i))

-- the other rows are the digits
pub digit_row_lem : (p : Parameters) (j i : ℕ) → j < p.r - 1 → check_row p j i ≡ get_or (digits p.q (p.r - 1) (suc i)) j 0
digit_row_lem p j i h =
    let d = digits p.q (p.r - 1) (suc i) in
    get_or-append d (1 ∷ []) 0 j (subst (λ (k : ℕ). j < k) (sym (length_digits p.q (p.r - 1) (suc i))) h)

-- column a + 1, and zeros past the last column: row j
abbrev pub entry : Parameters → ℕ → ℕ → ℕ
entry p j = cut p.n (check_row p j)

pub entry_in : (p : Parameters) (j a : ℕ) → a < p.n → entry p j a ≡ check_row p j a
entry_in p j a h = cut_below p.n (check_row p j) a h

pub entry_out : (p : Parameters) (j a : ℕ) → p.n ≤ a → entry p j a ≡ 0
entry_out p j a h = cut_past p.n (check_row p j) a h

-- the last row
pub entry_last : (p : Parameters) (a : ℕ) → a < p.n → entry p (p.r - 1) a ≡ 1
entry_last p a h = entry_in p (p.r - 1) a h ∙ last_row p a

module _ (p : Parameters) (s : Sized p) where
  pub q_positive : 1 ≤ p.q
  q_positive = omega (arith, s.levels)

  no_room : p.n < p.q ^ 0 → ⊥
  no_room h = let k : p.n < 1 = rw pow-zero at h in omega (arith, s.second)

  -- a component has at least two check symbols: with fewer there is one column at most, and n is at least 2
  pub r_large : 2 ≤ p.r
  r_large = go p.r s.columns
    where
      go : (r : ℕ) → p.n < p.q ^ (r - 1) → 2 ≤ r
      go zero h = absurd (no_room h)
      go (suc zero) h = absurd (no_room h)
      go (suc (suc r)) h = suc-le-suc (suc-le-suc zero-le)

  pub columns_differ : (a c : ℕ) → a < p.n → c < p.n
      → ((j : ℕ) → j < p.r → Congruent p.q (check_row p j a) (check_row p j c)) → a ≡ c
  columns_differ a c ha hc e =
      let inside : (i : ℕ) → i < p.n → suc i < p.q ^ (p.r - 1) = λ i h. le_trans (suc-le-suc h) s.columns in
      suc_inj
      (digits_injective p.q (p.r - 1) (suc a) (suc c) q_positive (inside a ha) (inside c hc)
      (λ d l.
      let k : d < p.r = omega arith in
      small (digits_below p.q (p.r - 1) (suc a) d q_positive) (digits_below p.q (p.r - 1) (suc c) d q_positive)
      (of_eq (sym (digit_row_lem p d a l)) then e d k then of_eq (digit_row_lem p d c l))))

  pub one_not_zero : Congruent p.q 1 0 → ⊥
  one_not_zero h = let e : ◌≡◌ {A = ℕ} 1 0 = small {q = p.q} (omega (arith, s.levels)) q_positive h in omega arith

  pub last_below : p.r - 1 < p.r
  last_below = omega (arith, r_large)

  -- the columns 1 to n and the zero column after them differ
  pub entries_differ : (a c : ℕ) → a ≤ p.n → c ≤ p.n → ((j : ℕ) → j < p.r → Congruent p.q (entry p j a) (entry p j c)) → a ≡ c
  entries_differ a c ha hc e = go (eq-or-lt_of_le ha) (eq-or-lt_of_le hc)
    where
      last : Congruent p.q (entry p (p.r - 1) a) (entry p (p.r - 1) c)
      last = e (p.r - 1) last_below

      go : (a ≡ p.n) ⊎ (a < p.n) → (c ≡ p.n) ⊎ (c < p.n) → a ≡ c
      go (inl x) (inl y) = x ∙ sym y
      go (inl x) (inr y) =
          absurd (one_not_zero (of_eq (sym (entry_last p c y)) then symm last then of_eq (entry_out p (p.r - 1) a (omega arith))))
      go (inr x) (inl y) =
          absurd (one_not_zero (of_eq (sym (entry_last p a x)) then last then of_eq (entry_out p (p.r - 1) c (omega arith))))
      go (inr x) (inr y) =
          columns_differ a c x y
          (λ j l. of_eq (sym (entry_in p j a x)) then e j l then of_eq (entry_in p j c y))

  -- the zero column before them and the columns 1 to n differ
  pub laters_differ : (a c : ℕ) → a ≤ p.n → c ≤ p.n
      → ((j : ℕ) → j < p.r → Congruent p.q (later (entry p j) a) (later (entry p j) c)) → a ≡ c
  laters_differ zero zero ha hc e = refl
  laters_differ zero (suc c) ha hc e =
      absurd (one_not_zero (of_eq (sym (entry_last p c hc)) then symm (e (p.r - 1) last_below)))
  laters_differ (suc a) zero ha hc e = absurd (one_not_zero (of_eq (sym (entry_last p a ha)) then e (p.r - 1) last_below))
  laters_differ (suc a) (suc c) ha hc e = ap suc (entries_differ a c (omega arith) (omega arith) e)
