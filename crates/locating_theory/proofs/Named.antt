-- The index that makes a syndrome zero is the candidate: the syndrome is then a multiple of that index's column, or zero where it has none.
-- Assumes nothing.
use mathlib.Core.Path.{◌≡◌, sym, ap, ◌∙◌}
use mathlib.Core.Logic.{◌⊎◌, inl, inr}
use mathlib.Core.Bool.{Bool, true, false}
use mathlib.Core.List.{List}
use Prim.Native.Nat.{ℕ, zero, suc, ◌+◌, ◌-◌, ◌*◌, ◌%◌, ◌≤◌, ◌<◌, zero-le, suc-le-suc}
use native.Mathlib.Nat.{mod-lt, zero-mod, mul_comm, le_refl, le_of_lt, le_trans, eq-or-lt_of_le, le_of_suc-le-suc}
use native.Mathlib.Omega.{arith}
use lib.Dec.{T, eqb, eqb→eq}
use lib.ListN.{get_or, get_or-replicate}
use Rattle.modular_theory.specs.Residue.{Congruent}
use Rattle.modular_theory.specs.Digits.{digits}
use Rattle.modular_theory.proofs.Search.{all_at}
use Rattle.modular_theory.proofs.Residue.{of_eq, same, symm, ◌then◌, add, mul, scale, reduce, small}
use Rattle.modular_theory.proofs.Digits.{digits_zero, digits_below}
use Rattle.code_theory.specs.Parameters.{Parameters, Sized}
use Rattle.code_theory.proofs.Columns.{q_positive, digit_row_lem, entry_in, entry_out}
use Rattle.decoding_theory.specs.Syndromes.{tabulate, zero_syndrome, column_position, column_entry, moved, moved_of}
use Rattle.decoding_theory.specs.Decoded.{position_count}
use Rattle.decoding_theory.proofs.Value.{tabulate_at, length_tabulate, value_digits}
use Rattle.locating_theory.specs.Candidates.{named_by, before, candidate}
use Rattle.locating_theory.proofs.Inverse.{negative}

-- a row of a moved syndrome that is zero
zero_row_lem : (p : Parameters) (g a : ℕ) (S : List ℕ) → T (zero_syndrome p (moved p g a S)) → (j : ℕ) → j < p.r
    → Congruent p.q (get_or S j 0 + g * column_entry p j a) 0
unfolding zero_syndrome moved
zero_row_lem p g a S t j l =
    let f : ℕ → ℕ = λ j. (get_or S j 0 + g * column_entry p j a) % p.q in
    let zero_at : get_or (tabulate f p.r) j 0 ≡ 0 = eqb→eq _ 0 (all_at (λ j. eqb (get_or (tabulate f p.r) j 0) 0) p.r t j l) in
    record { same = sym (tabulate_at f p.r j l) ∙ zero_at ∙ sym (zero-mod p.q) }

-- x + g c is 0 and g h is -1: so h x is c
solved : {q : ℕ} (g h x c : ℕ) → Congruent q (g * h + 1) 0 → Congruent q (x + g * c) 0 → Congruent q (h * x) c
solved g h x c u z =
    let a : h * x ≡ h * x + 0 * c = omega arith in
    let f : h * x + (g * h + 1) * c ≡ h * (x + g * c) + c = omega arith in
    let b : h * 0 + c ≡ c = omega arith in
    of_eq a then add (same (h * x)) (symm (mul u (same c))) then of_eq f then add (scale h z) (same c) then of_eq b

module _ (p : Parameters) (s : Sized p) where
  -- the rows above the last are the digits of the column's position
  entry_digit : (a j : ℕ) → a ≤ p.n → j < p.r - 1 → column_entry p j a ≡ get_or (digits p.q (p.r - 1) a) j 0
  entry_digit zero j h l =
      sym (ap (λ (d : List ℕ). get_or d j 0) (digits_zero p.q (p.r - 1)) ∙ get_or-replicate {A = ℕ} (p.r - 1) j 0 0 l)
  entry_digit (suc a) j h l = entry_in p j a h ∙ digit_row_lem p j a l

  -- h times S is column a, or zero for a = 0
  named_is : (h : ℕ) (S : List ℕ) (a : ℕ) → a ≤ p.n → ((j : ℕ) → j < p.r → Congruent p.q (h * get_or S j 0) (column_entry p j a))
      → named_by p h S ≡ a
  unfolding named_by column_position
  named_is h S a l e =
      let f : ℕ → ℕ = λ j. h * get_or S j 0 % p.q in
      value_digits p.q (p.r - 1) a (tabulate f p.r) (q_positive p s) (le_trans (suc-le-suc l) s.columns)
      (rw length_tabulate (omega arith))
      (λ j m.
      let k : j < p.r = omega arith in
      tabulate_at f p.r j k
      ∙ small (mod-lt (h * get_or S j 0) (q_positive p s)) (digits_below p.q (p.r - 1) a j (q_positive p s))
      (reduce p.q (h * get_or S j 0) then e j k then of_eq (entry_digit a j l m)))

  -- the index whose next column is h times S; past column n there is none
  before_is : (h : ℕ) (S : List ℕ) (k : ℕ) → k ≤ p.n
      → ((j : ℕ) → j < p.r → Congruent p.q (h * get_or S j 0) (column_entry p j (suc k))) → before p (named_by p h S) ≡ k
  before_is h S k l e = go (eq-or-lt_of_le l)
    where
      past : (j : ℕ) → column_entry p j (suc p.n) ≡ 0
      past j = entry_out p j p.n (le_refl p.n)

      go : (k ≡ p.n) ⊎ (k < p.n) → before p (named_by p h S) ≡ k
      go (inl x) =
          ap (before p) (named_is h S 0 zero-le (λ j m. e j m then of_eq (ap (λ (z : ℕ). column_entry p j (suc z)) x ∙ past j))) ∙ sym x
      go (inr m) = ap (before p) (named_is h S (suc k) m e)

  -- i is the inverse of g
  module _ (g i : ℕ) (m : g ≤ p.q) (n : i ≤ p.q) (u : Congruent p.q (g * i) 1) where
    by_inverse : (a : ℕ) (S : List ℕ) → T (zero_syndrome p (moved p (p.q - g) a S)) → (j : ℕ) → j < p.r
        → Congruent p.q (i * get_or S j 0) (column_entry p j a)
    by_inverse a S t j l = solved (p.q - g) i (get_or S j 0) (column_entry p j a) (negative p.q g i m u) (zero_row_lem p (p.q - g) a S t j l)

    by_negative : (a : ℕ) (S : List ℕ) → T (zero_syndrome p (moved p g a S)) → (j : ℕ) → j < p.r
        → Congruent p.q ((p.q - i) * get_or S j 0) (column_entry p j a)
    by_negative a S t j l =
        let turned : g * (p.q - i) + 1 ≡ (p.q - i) * g + 1 = omega arith in
        solved g (p.q - i) (get_or S j 0) (column_entry p j a)
        (of_eq turned then negative p.q i g n (of_eq (mul_comm i g) then u)) (zero_row_lem p g a S t j l)

    pub candidate_is : (c b : Bool) (k : ℕ) (S : List ℕ) → k < position_count p b → T (zero_syndrome p (moved_of p c b k g S))
        → candidate p c b i S ≡ k
    unfolding moved_of
    candidate_is true true k S l t = before_is i S k (le_of_suc-le-suc l) (by_inverse (suc k) S t)
    candidate_is true false k S l t = before_is (p.q - i) S k (le_of_lt l) (by_negative (suc k) S t)
    candidate_is false true k S l t = named_is (p.q - i) S k (le_of_suc-le-suc l) (by_negative k S t)
    candidate_is false false k S l t = before_is i S k (le_of_lt l) (by_inverse (suc k) S t)
