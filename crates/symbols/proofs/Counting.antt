-- Counting up in base q, and the table of columns, a row at a time.
-- Assumes nothing.
use mathlib.Core.Path.{◌≡◌, refl, sym, ap, subst, ◌∙◌}
use mathlib.Core.Logic.{◌≢◌}
use mathlib.Core.Bool.{Bool, true, false}
use mathlib.Core.List.{List, [], ◌∷◌, ◌++◌}
use Prim.Native.Nat.{ℕ, zero, suc, min, ◌+◌, ◌-◌, ◌/◌, ◌%◌, ◌≤◌, ◌<◌, zero-le, suc-le-suc}
use native.Mathlib.Nat.{not-suc-le-zero, le_of_suc-le-suc, min-eq_left}
use native.Mathlib.Numerals.{add-one, one-add}
use native.Mathlib.Omega.{arith}
use lib.ListN.{get_or, set}
use borrow.Author.Tests.{eq-eqb, ne_eqb}
use Rattle.modular_theory.specs.Digits.{digits}
use Rattle.modular_theory.proofs.Digits.{digits_below, digits_next, digits_carry}
use Rattle.symbols.specs.Columns.{Columns, AllBelow, digit_rows, rows_of_zeros, positions, columns_of}

-- One more, by the digit that does not carry.

module _ {q : ℕ} (some : 1 ≤ q) (d : List ℕ) (i : ℕ) (is : d ≡ digits q 3 i) where
  first : get_or d 0 0 ≡ i % q
  first = ap (λ (l : List ℕ). get_or l 0 0) is

  second : get_or d 1 0 ≡ i / q % q
  second = ap (λ (l : List ℕ). get_or l 1 0) is

  third : get_or d 2 0 ≡ i / q / q % q
  third = ap (λ (l : List ℕ). get_or l 2 0) is

  pub next_first : get_or d 0 0 + 1 < q → (get_or d 0 0 + 1) ∷ get_or d 1 0 ∷ get_or d 2 0 ∷ [] ≡ digits q 3 (suc i)
  next_first h = rw (digits_next q 2 i (rw first at h), first, second, third)

  module _ (a : q ≤ get_or d 0 0 + 1) where
    pub next_second : get_or d 1 0 + 1 < q → 0 ∷ (get_or d 1 0 + 1) ∷ get_or d 2 0 ∷ [] ≡ digits q 3 (suc i)
    next_second h = rw (digits_carry q 2 i some (rw first at a), digits_next q 1 (i / q) (rw second at h), second, third)

    module _ (b : q ≤ get_or d 1 0 + 1) where
      pub next_third : get_or d 2 0 + 1 < q → 0 ∷ 0 ∷ (get_or d 2 0 + 1) ∷ [] ≡ digits q 3 (suc i)
      next_third h =
          let low = digits_carry q 2 i some (rw first at a) in
          let mid = digits_carry q 1 (i / q) some (rw second at b) in
          rw (low, mid, digits_next q 0 (i / q / q) (rw third at h), third)

      pub next_none : q ≤ get_or d 2 0 + 1 → 0 ∷ 0 ∷ 0 ∷ [] ≡ digits q 3 (suc i)
      next_none h =
          let low = digits_carry q 2 i some (rw first at a) in
          let mid = digits_carry q 1 (i / q) some (rw second at b) in
          rw (low, mid, digits_carry q 0 (i / q / q) some (rw third at h))

-- How many positions have a column.

abbrev counting : ℕ → Bool → ℕ
counting n b = elim b [ true ↦ 0 | false ↦ min n 48 ]

pub positions_none : (q n : ℕ) → q ≡ 0 → 0 ≡ positions q n
unfolding positions
positions_none q n h = ap (counting n) (sym (eq-eqb q 0 h))

pub positions_some : (q n : ℕ) → q ≢ 0 → min n 48 ≡ positions q n
unfolding positions
positions_some q n h = ap (counting n) (sym (ne_eqb q 0 h))

-- where there is one there are levels
pub positions_levels : (q n : ℕ) {k i : ℕ} → k ≡ positions q n → i < k → 1 ≤ q
positions_levels zero n {k} {i} e h = let z : 0 ≡ positions 0 n = positions_none 0 n refl in absurd (omega arith)
positions_levels (suc q) n e h = suc-le-suc zero-le

-- The table.

-- one row more
filled : (q p k m : ℕ) → set (digit_rows q p k ++ rows_of_zeros (suc m)) k (digits q 3 (p + k)) ≡ digit_rows q p (suc k) ++ rows_of_zeros m
filled q p zero m = let e : p + 0 ≡ p = omega arith in rw e
filled q p (suc k) m =
    let e : p + suc k ≡ suc p + k = omega arith in
    ap (λ (l : List (List ℕ)). digits q 3 p ∷ l) (rw e (filled q (suc p) k m))

-- the rows of the first i positions are built, and i is counted
pub record Built (q : ℕ) (table : List (List ℕ)) (d : List ℕ) (i : ℕ) : Type 0 where
  pub is : table ≡ digit_rows q 1 i ++ rows_of_zeros (48 - i)
  pub count : d ≡ digits q 3 i

module _ {q : ℕ} {table : List (List ℕ)} {d : List ℕ} {i : ℕ} (b : Built q table d i) where
  pub built_digits : 1 ≤ q → AllBelow q d
  built_digits some = record { first = at 0; second = at 1; third = at 2 }
    where
      at : (j : ℕ) → get_or d j 0 < q
      at j = subst (λ (l : List ℕ). get_or l j 0 < q) (sym b.count) (digits_below q 3 i j some)

  pub built_more : {e : List ℕ} → i < 48 → ((k : ℕ) → d ≡ digits q 3 k → e ≡ digits q 3 (suc k)) → Built q (set table i e) e (i + 1)
  built_more {e} l f =
      let next : e ≡ digits q 3 (suc i) = f i b.count in
      let left : 48 - i ≡ suc (48 - suc i) = omega arith in
      record { is = rw (add-one i, next, b.is, left) (rw one-add at (filled q 1 i (48 - suc i))); count = rw (add-one i) next }

  pub built_all : (n : ℕ) → i ≡ positions q n → table ≡ columns_of q n
  unfolding columns_of
  built_all n e = b.is ∙ ap (λ (k : ℕ). digit_rows q 1 k ++ rows_of_zeros (48 - k)) e

-- What the table holds.

rows_at_lem : (q p k i : ℕ) (rest : List (List ℕ)) → i < k → get_or (digit_rows q p k ++ rest) i [] ≡ digits q 3 (p + i)
rows_at_lem q p zero i rest h = absurd (not-suc-le-zero h)
rows_at_lem q p (suc k) zero rest h = let e : p ≡ p + 0 = omega arith in ap (digits q 3) e
rows_at_lem q p (suc k) (suc i) rest h =
    let e : suc p + i ≡ p + suc i = omega arith in
    rows_at_lem q (suc p) k i rest (le_of_suc-le-suc h) ∙ ap (digits q 3) e

-- there is room for the positions from 1 to n
pub columns_right : {q n : ℕ} {columns : List (List ℕ)} → columns ≡ columns_of q n → 1 ≤ q → n ≤ 48 → Columns q n columns
unfolding columns_of
columns_right {q} {n} {columns} is some room =
    let k : ℕ = positions q n in
    let all : k ≡ n = sym (positions_some q n (λ z. omega arith)) ∙ min-eq_left room in
    record {
      at =
          λ i l.
          let e : i < k = rw all l in
          ap (λ (t : List (List ℕ)). get_or t i []) is ∙ rw one-add at (rows_at_lem q 1 k i (rows_of_zeros (48 - k)) e);
    }

-- a digit of a column is below q
pub digit_below : {q n : ℕ} {columns : List (List ℕ)} → 1 ≤ q → Columns q n columns → (i j : ℕ) → i < n → get_or (get_or columns i []) j 0 < q
digit_below {q} h k i j l = rw (k.at i l) (digits_below q 3 (suc i) j h)
