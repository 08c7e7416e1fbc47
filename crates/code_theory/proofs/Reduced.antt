-- The check positions and the columns there: combinations of the check rows, the reduced rows, have at the check positions a single 1
-- mod q, since the digit sum less 1 is 1 for 2 and 0 for a power of q.
-- Assumes nothing.
use mathlib.Core.Path.{◌≡◌, refl, sym, ap, ◌∙◌}
use mathlib.Core.Logic.{◌≢◌, ⊎_elim}
use mathlib.Core.Bool.{Bool}
use mathlib.Core.List.{List, ◌∷◌}
use Prim.Native.Nat.{ℕ, zero, suc, ◌+◌, ◌-◌, ◌*◌, ◌^◌, ◌≤◌, ◌<◌}
use native.Mathlib.Nat.{one-le-pow, pow-le-pow_right, mul-zero, add-zero}
use native.Mathlib.Omega.{arith}
use native.Mathlib.Decide.{ℕ_discrete}
use lib.Dec.{T, eqb, eqb→eq, eqb_refl}
use lib.ListN.{get_or, set, replicate, get_or-replicate, length-replicate}
use lib.Seq.{get_or-set_same, get_or-set_other}
use Rattle.modular_theory.specs.Search.{any_below}
use Rattle.modular_theory.specs.Sum.{dot, weight}
use Rattle.modular_theory.specs.Residue.{Congruent}
use Rattle.modular_theory.specs.Digits.{digits}
use Rattle.modular_theory.proofs.Search.{le_or_lt, or_right, or_cases, any_at, any_of}
use Rattle.modular_theory.proofs.Sum.{weight_zeros, dot_add, dot_scale, dot_same, dot_add_vanishing}
use Rattle.modular_theory.proofs.Residue.{of_eq, same, symm, ◌then◌, add, scale, multiple}
use Rattle.modular_theory.proofs.Digits.{digits_below, digits_single, digits_power, digit_sum_power, dot_digit_sum}
use Rattle.code_theory.specs.Parameters.{Parameters, Sized}
use Rattle.code_theory.specs.Component.{check_row, is_check, check_at}
use Rattle.code_theory.proofs.Weights.{times_pred}
use Rattle.code_theory.proofs.Syndrome.{Zero}
use Rattle.code_theory.proofs.Columns.{last_row, digit_row_lem, q_positive, r_large, one_not_zero, last_below}
use Rattle.code_theory.proofs.Merge.{passing, count_image}

-- the index of check position k: of 2, then of 1, q, q², ..
abbrev pub pivot : Parameters → ℕ → ℕ
pivot p zero = 1
pivot p (suc j) = p.q ^ j - 1

-- the digit sum of that symbol's column
abbrev digit_sum : Parameters → ℕ → ℕ
digit_sum p i = weight (digits p.q (p.r - 1) (suc i))

-- the reduced row of position 2: the digit rows less the last row
abbrev pub reduced_two : Parameters → ℕ → ℕ
reduced_two p i = digit_sum p i + (p.q - 1) * check_row p (p.r - 1) i

-- the reduced row of check position k: for a power of q its row, with what position 2 has there taken away
abbrev pub reduced_row : Parameters → ℕ → ℕ → ℕ
reduced_row p zero i = reduced_two p i
reduced_row p (suc j) i = check_row p j i + (p.q - check_row p j 1) * reduced_two p i

-- the first m reduced sums of c are 0 mod q
abbrev pub Vanish : Parameters → ℕ → List ℕ → Type 0
Vanish p m c = (k : ℕ) → k < m → Congruent p.q (dot (reduced_row p k) c) 0

module _ (p : Parameters) (s : Sized p) where
  -- The check positions.

  pub power_position : (j : ℕ) → suc (p.q ^ j - 1) ≡ p.q ^ j
  power_position j = omega (arith, one-le-pow j p.q (q_positive p s))

  pub pivot_below : (k : ℕ) → k < p.r → pivot p k < p.n
  pivot_below zero h = s.second
  pivot_below (suc j) h =
      let l : j ≤ p.r - 2 = omega arith in
      omega (arith, power_position j, pow-le-pow_right (q_positive p s) l)

  pub check_pivot : (i : ℕ) → T (check_at p i) → (k : ℕ) × (k < p.r) × (i ≡ pivot p k)
  unfolding is_check
  check_pivot i h =
      ⊎_elim (λ (e : T (eqb (suc i) 2)). (0, omega (arith, r_large p s), omega (arith, eqb→eq (suc i) 2 e)))
      (λ (a : T (any_below power (p.r - 1))).
      let (j, l, e) = any_at power (p.r - 1) a in (suc j, omega arith, omega (arith, eqb→eq (suc i) (p.q ^ j) e)))
      (or_cases (eqb (suc i) 2) (any_below power (p.r - 1)) h)
    where
      power : ℕ → Bool
      power j = eqb (suc i) (p.q ^ j)

  pub pivot_check : (k : ℕ) → k < p.r → T (check_at p (pivot p k))
  unfolding is_check
  pivot_check zero h = tt
  pivot_check (suc j) h =
      let power : ℕ → Bool = λ l. eqb (suc (p.q ^ j - 1)) (p.q ^ l) in
      let l : j < p.r - 1 = omega arith in
      or_right (eqb (suc (p.q ^ j - 1)) 2) (any_below power (p.r - 1))
      (any_of power (p.r - 1) j l (rw power_position (eqb_refl (p.q ^ j))))

  -- Their columns.

  row_digit : (j i : ℕ) → suc j < p.r → check_row p j i ≡ get_or (digits p.q (p.r - 1) (suc i)) j 0
  row_digit j i h =
      let l : j < p.r - 1 = omega arith in
      digit_row_lem p j i l

  row_power : (j l : ℕ) → suc j < p.r → check_row p j (p.q ^ l - 1) ≡ get_or (set (replicate (p.r - 1) 0) l 1) j 0
  row_power j l h =
      let two : 2 ≤ p.q = omega arith in
      row_digit j (p.q ^ l - 1) h
      ∙ ap (λ (i : ℕ). get_or (digits p.q (p.r - 1) i) j 0) (power_position l)
      ∙ ap (λ (d : List ℕ). get_or d j 0) (digits_power p.q (p.r - 1) l two)

  -- column q^l has 1 in row l
  pub row_power_same : (l : ℕ) → suc l < p.r → check_row p l (p.q ^ l - 1) ≡ 1
  row_power_same l h =
      let k : l < p.r - 1 = omega arith in
      row_power l l h ∙ get_or-set_same (replicate (p.r - 1) 0) l 1 0 (rw length-replicate k)

  -- and 0 in the other digit rows
  pub row_power_other : (j l : ℕ) → suc j < p.r → j ≢ l → check_row p j (p.q ^ l - 1) ≡ 0
  row_power_other j l h d =
      let k : j < p.r - 1 = omega arith in
      row_power j l h ∙ get_or-set_other (replicate (p.r - 1) 0) l j 1 0 d ∙ get_or-replicate (p.r - 1) j 0 0 k

  digits_two : digits p.q (p.r - 1) 2 ≡ 2 ∷ replicate (p.r - 2) 0
  digits_two =
      let e : p.r - 1 ≡ suc (p.r - 2) = omega (arith, r_large p s) in
      rw e (digits_single p.q (p.r - 2) 2 s.levels)

  -- column 2 has 2 in row 0
  pub row_two_first : check_row p 0 1 ≡ 2
  row_two_first = row_digit 0 1 (r_large p s) ∙ ap (λ (d : List ℕ). get_or d 0 0) digits_two

  -- and 0 in the other digit rows
  pub row_two_other : (j : ℕ) → suc (suc j) < p.r → check_row p (suc j) 1 ≡ 0
  row_two_other j h =
      let l : j < p.r - 2 = omega arith in
      row_digit (suc j) 1 h ∙ ap (λ (d : List ℕ). get_or d (suc j) 0) digits_two ∙ get_or-replicate (p.r - 2) j 0 0 l

  -- The reduced rows there.

  reduced_two_at : (i d : ℕ) → digit_sum p i ≡ suc d → Congruent p.q (reduced_two p i) d
  reduced_two_at i d h =
      let e : reduced_two p i ≡ d + 1 * p.q = rw last_row (omega arith) in
      of_eq e then multiple p.q d 1

  two_at_two : Congruent p.q (reduced_two p 1) 1
  two_at_two = reduced_two_at 1 1 (omega (arith, ap weight digits_two, weight_zeros (p.r - 2)))

  two_at_power : (l : ℕ) → suc l < p.r → Congruent p.q (reduced_two p (p.q ^ l - 1)) 0
  two_at_power l h =
      let two : 2 ≤ p.q = omega arith in
      let k : l < p.r - 1 = omega arith in
      reduced_two_at (p.q ^ l - 1) 0 (rw power_position (digit_sum_power p.q (p.r - 1) l two k))

  reduced_at_power : (j l : ℕ) → suc l < p.r → Congruent p.q (reduced_row p (suc j) (p.q ^ l - 1)) (check_row p j (p.q ^ l - 1))
  reduced_at_power j l h =
      simp (mul-zero, add-zero) at (add (same (check_row p j (p.q ^ l - 1))) (scale (p.q - check_row p j 1) (two_at_power l h)))

  pub reduced_same : (k : ℕ) → k < p.r → Congruent p.q (reduced_row p k (pivot p k)) 1
  reduced_same zero h = two_at_two
  reduced_same (suc j) h = reduced_at_power j j h then of_eq (row_power_same j h)

  pub reduced_other : (k l : ℕ) → k < p.r → l < p.r → k ≢ l → Congruent p.q (reduced_row p k (pivot p l)) 0
  reduced_other zero zero h g d = absurd (d refl)
  reduced_other zero (suc l) h g d = two_at_power l g
  reduced_other (suc j) zero h g d =
      let k : ℕ = p.q - check_row p j 1 in
      let e : check_row p j 1 + k * 1 ≡ 0 + 1 * p.q = omega (arith, row_digit j 1 h, digits_below p.q (p.r - 1) 2 j (q_positive p s)) in
      add (same (check_row p j 1)) (scale k two_at_two) then of_eq e then multiple p.q 0 1
  reduced_other (suc j) (suc l) h g d = reduced_at_power j l g then of_eq (row_power_other j l h (λ e. d (ap suc e)))

  -- so the check positions differ
  pub pivot_injective : (k l : ℕ) → k < p.r → l < p.r → pivot p k ≡ pivot p l → k ≡ l
  pivot_injective k l h g e =
      elim (ℕ_discrete k l) [
        | yes x ↦ x
        | no d ↦
            absurd (one_not_zero p s (symm (reduced_same k h) then of_eq (ap (reduced_row p k) e) then reduced_other k l h g d))
      ]

  pub check_count : passing (check_at p) p.n ≡ p.r
  check_count = count_image (pivot p) p.r p.n (check_at p) pivot_below pivot_injective pivot_check check_pivot

  -- The check rows and the reduced rows vanish together.

  digit_sum_vanishes : (c : List ℕ) → ((j : ℕ) → suc j < p.r → Congruent p.q (dot (check_row p j) c) 0)
      → Congruent p.q (dot (digit_sum p) c) 0
  digit_sum_vanishes c h = dot_digit_sum p.q (p.r - 1) suc c digit
    where
      digit : (j : ℕ) → j < p.r - 1 → Congruent p.q (dot (λ i. get_or (digits p.q (p.r - 1) (suc i)) j 0) c) 0
      digit j l =
          let k : suc j < p.r = omega arith in
          of_eq (dot_same (λ i. get_or (digits p.q (p.r - 1) (suc i)) j 0) (check_row p j) c (λ i m. sym (row_digit j i k))) then h j k

  pub reduced_rows : (c : List ℕ) → Zero p c → Vanish p p.r c
  reduced_rows c h = each
    where
      two : Congruent p.q (dot (reduced_two p) c) 0
      two =
          dot_add_vanishing (digit_sum p) (check_row p (p.r - 1)) (p.q - 1) c (h (p.r - 1) (last_below p s))
          then digit_sum_vanishes c (λ j l. h j (omega arith))

      each : Vanish p p.r c
      each zero l = two
      each (suc j) l = dot_add_vanishing (check_row p j) (reduced_two p) (p.q - check_row p j 1) c two then h j (omega arith)

  pub rows_reduced : (c : List ℕ) → Vanish p p.r c → Zero p c
  rows_reduced c h j l =
      ⊎_elim (digit j) (λ (k : p.r < suc (suc j)). let e : j ≡ p.r - 1 = omega arith in rw e last) (le_or_lt (suc (suc j)) p.r)
    where
      two : Congruent p.q (dot (reduced_two p) c) 0
      two = h 0 (omega (arith, r_large p s))

      digit : (i : ℕ) → suc i < p.r → Congruent p.q (dot (check_row p i) c) 0
      digit i m = symm (dot_add_vanishing (check_row p i) (reduced_two p) (p.q - check_row p i 1) c two) then h (suc i) m

      last : Congruent p.q (dot (check_row p (p.r - 1)) c) 0
      last =
          let d : ℕ = dot (digit_sum p) c in
          let g : ℕ → ℕ = check_row p (p.r - 1) in
          let x : ℕ = dot g c in
          let e : dot (reduced_two p) c ≡ d + (p.q - 1) * x =
          dot_add (digit_sum p) (λ i. (p.q - 1) * g i) c ∙ ap (λ (y : ℕ). d + y) (dot_scale (p.q - 1) g c) in
          let f : x + dot (reduced_two p) c ≡ d + x * p.q = omega (arith, times_pred p.q x (q_positive p s)) in
          of_eq (sym (add-zero x)) then add (same x) (symm two) then of_eq f then multiple p.q d x then digit_sum_vanishes c digit
