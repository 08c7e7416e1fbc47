-- The tests of syndromes are the tests of their components: a zero syndrome is that of a component in code, and the digits of a column name
-- the one symbol that has it.
-- Assumes nothing.
use mathlib.Core.Path.{◌≡◌, refl, sym, ap, subst, ◌∙◌}
use mathlib.Core.Logic.{◌⊎◌, inl, inr, ⊎_elim}
use mathlib.Core.Bool.{Bool, true, false, ◌||◌}
use mathlib.Core.List.{List}
use Prim.Native.Nat.{ℕ, suc, ◌-◌, ◌≤◌, ◌<◌, suc-le-suc}
use native.Mathlib.Nat.{mod-lt, le_refl, le_trans, eq-or-lt_of_le}
use native.Mathlib.Omega.{arith}
use lib.Dec.{T, eqb, leb, eqb→eq, leb→le, le→leb}
use lib.ListN.{length, get_or}
use Rattle.modular_theory.specs.Search.{all_below}
use Rattle.modular_theory.specs.Sum.{dot}
use Rattle.modular_theory.specs.Residue.{Congruent}
use Rattle.modular_theory.specs.Digits.{digits}
use Rattle.modular_theory.proofs.Search.{eq_test, same_test, all_at, all_of, or_cases, or_left, or_right, holds}
use Rattle.modular_theory.proofs.Residue.{of_eq, symm, ◌then◌, reduce, small}
use Rattle.modular_theory.proofs.Digits.{digits_below}
use Rattle.code_theory.specs.Parameters.{Parameters, Sized}
use Rattle.code_theory.specs.Component.{check_row, syndrome, in_code}
use Rattle.code_theory.specs.Codeword.{lowered, near_code, restored}
use Rattle.code_theory.proofs.Syndrome.{Zero, ColumnOf, code_zero, zero_code, near_cases, zero_near, column_near}
use Rattle.code_theory.proofs.Columns.{q_positive, last_row, last_below, digit_row_lem}
use Rattle.code_theory.proofs.Restored.{restored_zero, restored_column}
use Rattle.decoding_theory.specs.Syndromes.{syndromes, zero_syndrome, column_position, column_syndrome, near_syndrome, restored_by}
use Rattle.decoding_theory.proofs.Tests.{and_three, three_parts}
use Rattle.decoding_theory.proofs.Value.{tabulate_at, length_tabulate, Digits, digits_value, value_digits}

-- the list begins with the syndrome of c
pub record Rows (p : Parameters) (c S : List ℕ) : Type 0 where
  pub long : p.r ≤ length S
  pub at : (j : ℕ) → j < p.r → get_or S j 0 ≡ syndrome p c j

pub syndromes_rows : (p : Parameters) (c : List ℕ) → Rows p c (syndromes p c)
syndromes_rows p c =
    record {
      long = rw length_tabulate (le_refl p.r);
      at = λ j h. tabulate_at (syndrome p c) p.r j h;
    }

-- a row is a sum mod q
pub rows_congruent : {p : Parameters} {c S : List ℕ} → Rows p c S → (j : ℕ) → j < p.r
    → Congruent p.q (get_or S j 0) (dot (check_row p j) c)
unfolding syndrome
rows_congruent {p} {c} w j h = of_eq (w.at j h) then reduce p.q (dot (check_row p j) c)

pub rows_below : {p : Parameters} {c S : List ℕ} → 1 ≤ p.q → Rows p c S → (j : ℕ) → j < p.r → get_or S j 0 < p.q
unfolding syndrome
rows_below {p} {c} l w j h = rw (w.at j h) (mod-lt (dot (check_row p j) c) l)

-- rows that are equal are zero together
pub all_zero_lem : (f g : ℕ → ℕ) (k : ℕ) → ((j : ℕ) → j < k → f j ≡ g j) → T (all_below (λ j. eqb (f j) 0) k) → T (all_below (λ j. eqb (g j) 0) k)
all_zero_lem f g k e t = all_of (λ j. eqb (g j) 0) k (λ j h. subst (λ (x : ℕ). T (eqb x 0)) (e j h) (all_at (λ j. eqb (f j) 0) k t j h))

pub zero_test : {p : Parameters} {c S : List ℕ} → Rows p c S → zero_syndrome p S ≡ in_code p c
unfolding zero_syndrome in_code
zero_test {p} {c} {S} w =
    let f : ℕ → ℕ = λ j. get_or S j 0 in
    let g : ℕ → ℕ = syndrome p c in
    same_test _ _ (all_zero_lem f g p.r w.at) (all_zero_lem g f p.r (λ j h. sym (w.at j h)))

-- what the test of a column says
pub record Named (p : Parameters) (S : List ℕ) : Type 0 where
  pub last : get_or S (p.r - 1) 0 ≡ 1
  pub some : 1 ≤ column_position p S
  pub within : column_position p S ≤ p.n

pub named : (p : Parameters) (S : List ℕ) → T (column_syndrome p S) → Named p S
unfolding column_syndrome
named p S t =
    let (a, b, c) = three_parts (eqb (get_or S (p.r - 1) 0) 1) (leb 1 (column_position p S)) (leb (column_position p S) p.n) t in
    record { last = eqb→eq _ _ a; some = leb→le _ _ b; within = leb→le _ _ c }

pub named_test : (p : Parameters) (S : List ℕ) → Named p S → T (column_syndrome p S)
unfolding column_syndrome
named_test p S n =
    and_three (eqb (get_or S (p.r - 1) 0) 1) (leb 1 (column_position p S)) (leb (column_position p S) p.n) (eq_test n.last)
    (le→leb 1 (column_position p S) n.some) (le→leb (column_position p S) p.n n.within)

-- a component with a zero syndrome stays as it is, and any other loses 1 at the position named
pub restored_as_is : (p : Parameters) (S c : List ℕ) → zero_syndrome p S ≡ true → restored_by p S c ≡ c
unfolding restored_by
restored_as_is p S c e = rw (e, restored_by)

pub restored_at_position : (p : Parameters) (S c : List ℕ) → zero_syndrome p S ≡ false
    → restored_by p S c ≡ lowered p.q c (column_position p S - 1)
unfolding restored_by
restored_at_position p S c e = rw (e, restored_by)

module _ (p : Parameters) (s : Sized p) {c S : List ℕ} (w : Rows p c S) where
  row_digits : Digits p.q (p.r - 1) S
  row_digits = record { long = omega (arith, w.long); below = λ j h. rows_below (q_positive p s) w j (omega arith) }

  -- a row of a syndrome that is a column, by its digits and its last row
  row_cases : (j : ℕ) → j < p.r → (j ≡ p.r - 1) ⊎ (j < p.r - 1)
  row_cases j h = let k : j ≤ p.r - 1 = omega arith in eq-or-lt_of_le k

  -- the syndrome is the column of the position that it names
  pub column_named : T (column_syndrome p S) → ColumnOf p c (column_position p S - 1)
  unfolding column_position
  column_named t j h = symm (rows_congruent w j h) then of_eq (go (row_cases j h))
    where
      i : ℕ
      i = column_position p S - 1

      is : suc i ≡ column_position p S
      is = omega (arith, (named p S t).some)

      go : (j ≡ p.r - 1) ⊎ (j < p.r - 1) → get_or S j 0 ≡ check_row p j i
      go (inl e) = ap (λ (x : ℕ). get_or S x 0) e ∙ (named p S t).last ∙ sym (last_row p i) ∙ ap (λ (x : ℕ). check_row p x i) (sym e)
      go (inr l) =
          sym (digits_value p.q (p.r - 1) S row_digits j l)
          ∙ ap (λ (x : ℕ). get_or (digits p.q (p.r - 1) x) j 0) (sym is)
          ∙ sym (digit_row_lem p j i l)

  -- and where it is a column it names that column's position
  module _ (i : ℕ) (l : i < p.n) (k : ColumnOf p c i) where
    entry_below : (j : ℕ) → j < p.r → check_row p j i < p.q
    entry_below j h = go (row_cases j h)
      where
        go : (j ≡ p.r - 1) ⊎ (j < p.r - 1) → check_row p j i < p.q
        go (inl e) = rw (e, last_row p i) (omega (arith, s.levels))
        go (inr m) = rw (digit_row_lem p j i m) (digits_below p.q (p.r - 1) (suc i) j (q_positive p s))

    row_is : (j : ℕ) → j < p.r → get_or S j 0 ≡ check_row p j i
    row_is j h = small (rows_below (q_positive p s) w j h) (entry_below j h) (rows_congruent w j h then k j h)

    pub position_named : column_position p S ≡ suc i
    unfolding column_position
    position_named =
        value_digits p.q (p.r - 1) (suc i) S (q_positive p s) (le_trans (suc-le-suc l) s.columns) row_digits.long
        (λ j h. row_is j (omega arith) ∙ digit_row_lem p j i h)

    pub column_test : T (column_syndrome p S)
    column_test =
        let last : get_or S (p.r - 1) 0 ≡ 1 = row_is (p.r - 1) (last_below p s) ∙ last_row p i in
        named_test p S (record { last = last; some = omega (arith, position_named); within = omega (arith, position_named) })

  module _ (n : length c ≡ p.n) where
    position_within : T (column_syndrome p S) → column_position p S - 1 < length c
    position_within t = omega (arith, (named p S t).some, (named p S t).within)

    pub near_test : near_syndrome p S ≡ near_code p c
    unfolding near_syndrome
    near_test =
        same_test _ _
        (λ t.
        ⊎_elim (λ (z : T (zero_syndrome p S)). zero_near p c (code_zero p c (subst T (zero_test w) z)))
        (λ (k : T (column_syndrome p S)). column_near p (q_positive p s) c (column_position p S - 1) (position_within k) (column_named k))
        (or_cases (zero_syndrome p S) (column_syndrome p S) t))
        (λ t.
        ⊎_elim (λ (z : Zero p c). or_left (zero_syndrome p S) (column_syndrome p S) (subst T (sym (zero_test w)) (zero_code p c z)))
        (λ (k : (i : ℕ) × (i < length c) × ColumnOf p c i).
        or_right (zero_syndrome p S) (column_syndrome p S) (column_test k.0 (subst (λ (x : ℕ). k.0 < x) n k.1) k.2))
        (near_cases p (q_positive p s) c t))

    -- the component is restored as its syndrome says
    pub restored_by_lem : T (near_syndrome p S) → restored_by p S c ≡ restored p c
    unfolding near_syndrome
    restored_by_lem t = go (zero_syndrome p S) refl t
      where
        go : (b : Bool) → zero_syndrome p S ≡ b → T (b || column_syndrome p S) → restored_by p S c ≡ restored p c
        go true e k = restored_as_is p S c e ∙ sym (restored_zero p s c n (code_zero p c (subst T (zero_test w) (holds _ e))))
        go false e k =
            restored_at_position p S c e ∙ sym (restored_column p s c n (column_position p S - 1) (position_within k) (column_named k))
