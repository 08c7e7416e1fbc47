-- The four rows that the code keeps of a syndrome against the r rows of the definitions: the digit rows that r does not have are 0.
-- Assumes nothing.
use mathlib.Core.Path.{◌≡◌, refl, sym, ap, ap₂, ◌∙◌}
use mathlib.Core.Logic.{◌⊎◌, inl, inr, ⊎_elim}
use mathlib.Core.Bool.{Bool, true, false, ◌&&◌, ◌||◌}
use mathlib.Core.List.{List}
use Prim.Native.Nat.{ℕ, zero, suc, ◌+◌, ◌-◌, ◌*◌, ◌≤◌, ◌<◌}
use native.Mathlib.Nat.{eq-or-lt_of_le}
use native.Mathlib.Omega.{arith}
use lib.Dec.{T, eqb, leb, eqb→eq}
use lib.ListN.{length, get_or}
use borrow.Author.Tests.{eq-eqb, ne_eqb}
use Rattle.modular_theory.proofs.Search.{eq_test, same_test, all_at, all_of, le_or_lt}
use Rattle.code_theory.proofs.Columns.{q_positive, r_large, last_below}
use Rattle.decoding_theory.specs.Syndromes.{tabulate, from_digits, zero_syndrome, column_position, column_syndrome, near_syndrome, near_syndromes}
use Rattle.decoding_theory.proofs.Value.{tabulate_at}
use Rattle.profiles.specs.declared.row.Row.{Row}
use Rattle.profiles.specs.Row.{parameters, Valid}
use Rattle.symbols.specs.declared.sums.Syndrome.{Syndrome}
use Rattle.symbols.specs.Columns.{Columns}
use Rattle.symbols.specs.Syndromes.{four_rows, rows, row_sums}
use Rattle.symbols.proofs.Rows.{sums_below, sums_unused}
use Rattle.syndromes.specs.FourRows.{zero_rows}
use Rattle.syndromes.specs.Rows.{FourRows, row_index, rows_among, rows_of}
use Rattle.syndromes.proofs.Rows.{zero_by, position_is}

-- the row sums of a component
pub four_rows_lem : (t : Row) → Valid t → {columns : List (List ℕ)} → Columns t.q t.n columns → (c : List ℕ) → length c ≤ t.n
    → FourRows t (row_sums t.q columns c)
four_rows_lem t v right c l =
    let some : 1 ≤ t.q = q_positive (parameters t) v.sized in
    record {
      below = sums_below some right c l;
      unused = sums_unused some right c l (t.r - 1) (omega (arith, v.sized.columns));
    }

module _ (t : Row) (v : Valid t) where
  index_digit : (j : ℕ) → j < t.r - 1 → row_index t.r j ≡ j
  index_digit j h = ap (λ (b : Bool). elim b [ true ↦ 3 | false ↦ j ]) (ne_eqb (suc j) t.r (λ e. omega arith))

  index_last : row_index t.r (t.r - 1) ≡ 3
  index_last =
      let e : suc (t.r - 1) ≡ t.r = omega (arith, r_large (parameters t) v.sized) in
      ap (λ (b : Bool). elim b [ true ↦ 3 | false ↦ t.r - 1 ]) (eq-eqb (suc (t.r - 1)) t.r e)

  -- a row is a digit row or the last
  pub row_cases : (j : ℕ) → j < t.r → (j ≡ t.r - 1) ⊎ (j < t.r - 1)
  row_cases j h = let k : j ≤ t.r - 1 = omega arith in eq-or-lt_of_le k

  pub rows_digit : (s : List ℕ) (j : ℕ) → j < t.r - 1 → get_or (rows_of t s) j 0 ≡ get_or s j 0
  unfolding rows_of rows_among
  rows_digit s j h =
      tabulate_at (λ j. get_or s (row_index t.r j) 0) t.r j (omega arith) ∙ ap (λ (i : ℕ). get_or s i 0) (index_digit j h)

  pub rows_last : (s : List ℕ) → get_or (rows_of t s) (t.r - 1) 0 ≡ get_or s 3 0
  unfolding rows_of rows_among
  rows_last s =
      tabulate_at (λ j. get_or s (row_index t.r j) 0) t.r (t.r - 1) (last_below (parameters t) v.sized)
      ∙ ap (λ (i : ℕ). get_or s i 0) index_last

  module _ (s : List ℕ) where
    zero_to : ((j : ℕ) → j < 4 → get_or s j 0 ≡ 0) → T (zero_syndrome (parameters t) (rows_of t s))
    unfolding zero_syndrome
    zero_to e = all_of (λ j. eqb (get_or (rows_of t s) j 0) 0) t.r (λ j h. eq_test (at j (row_cases j h)))
      where
        at : (j : ℕ) → (j ≡ t.r - 1) ⊎ (j < t.r - 1) → get_or (rows_of t s) j 0 ≡ 0
        at j (inl l) = ap (λ (i : ℕ). get_or (rows_of t s) i 0) l ∙ rows_last s ∙ e 3 (omega arith)
        at j (inr l) = rows_digit s j l ∙ e j (omega (arith, v.checks))

    zero_from : FourRows t s → T (zero_syndrome (parameters t) (rows_of t s)) → (j : ℕ) → j < 4 → get_or s j 0 ≡ 0
    unfolding zero_syndrome
    zero_from w h j l =
        ⊎_elim (λ (k : t.r - 1 ≤ j). past j k l) (λ (k : j < t.r - 1). sym (rows_digit s j k) ∙ at j (omega arith))
        (le_or_lt (t.r - 1) j)
      where
        at : (i : ℕ) → i < t.r → get_or (rows_of t s) i 0 ≡ 0
        at i k = eqb→eq _ 0 (all_at (λ j. eqb (get_or (rows_of t s) j 0) 0) t.r h i k)

        past : (i : ℕ) → t.r - 1 ≤ i → i < 4 → get_or s i 0 ≡ 0
        past i k m =
            let last : get_or s 3 0 ≡ 0 = sym (rows_last s) ∙ at (t.r - 1) (last_below (parameters t) v.sized) in
            ⊎_elim (λ (g : 3 ≤ i). let e : i ≡ 3 = omega arith in rw e last) (λ (g : i < 3). w.unused i k g) (le_or_lt 3 i)

    pub zero_same : FourRows t s → zero_rows s ≡ zero_syndrome (parameters t) (rows_of t s)
    unfolding zero_rows
    zero_same w =
        same_test _ _ (λ h. zero_to (λ j l. eqb→eq _ 0 (all_at (λ j. eqb (get_or s j 0) 0) 4 h j l)))
        (λ h. all_of (λ j. eqb (get_or s j 0) 0) 4 (λ j l. eq_test (zero_from w h j l)))

    digits_are : FourRows t s → (get_or s 2 0 * t.q + get_or s 1 0) * t.q + get_or s 0 0 ≡ column_position (parameters t) (rows_of t s)
    unfolding column_position rows_of rows_among
    digits_are w = go t.r (r_large (parameters t) v.sized) v.checks w.unused
      where
        go : (r : ℕ) → 2 ≤ r → r ≤ 4 → ((j : ℕ) → r - 1 ≤ j → j < 3 → get_or s j 0 ≡ 0)
            → (get_or s 2 0 * t.q + get_or s 1 0) * t.q + get_or s 0 0 ≡ from_digits t.q (r - 1) (tabulate (λ j. get_or s (row_index r j) 0) r)
        go zero a b u = absurd (omega arith)
        go (suc zero) a b u = absurd (omega arith)
        go (suc (suc zero)) a b u = rw (u 2 (omega arith) (omega arith), u 1 (omega arith) (omega arith)) (omega arith)
        go (suc (suc (suc zero))) a b u = rw (u 2 (omega arith) (omega arith)) (omega arith)
        go (suc (suc (suc (suc zero)))) a b u = omega arith
        go (suc (suc (suc (suc (suc r))))) a b u = absurd (omega arith)

  -- The tests of four rows are those of the r rows.
  module _ (s : Syndrome) (w : FourRows t (rows s)) where
    pub position_same : from_digits t.q 3 (rows s) ≡ column_position (parameters t) (rows_of t (rows s))
    position_same = sym (position_is t.q s.low s.mid s.high s.ones) ∙ digits_are (rows s) w

    zero_four : zero_syndrome (four_rows t.q t.n) (rows s) ≡ zero_syndrome (parameters t) (rows_of t (rows s))
    zero_four = zero_by t.q t.n (rows s) (sym (zero_same (rows s) w)) refl

    position_four : column_position (four_rows t.q t.n) (rows s) ≡ column_position (parameters t) (rows_of t (rows s))
    unfolding column_position
    position_four = position_same

    column_four : column_syndrome (four_rows t.q t.n) (rows s) ≡ column_syndrome (parameters t) (rows_of t (rows s))
    unfolding column_syndrome
    column_four = ap₂ (λ (l i : ℕ). eqb l 1 && leb 1 i && leb i t.n) (sym (rows_last (rows s))) position_four

    near_four : near_syndrome (four_rows t.q t.n) (rows s) ≡ near_syndrome (parameters t) (rows_of t (rows s))
    unfolding near_syndrome
    near_four = ap₂ ◌||◌ zero_four column_four

  pub near_same : (s s' : Syndrome) → FourRows t (rows s) → FourRows t (rows s')
      → near_syndromes (four_rows t.q t.n) (rows s) (rows s') ≡ near_syndromes (parameters t) (rows_of t (rows s)) (rows_of t (rows s'))
  unfolding near_syndromes
  near_same s s' w w' = ap₂ ◌||◌ (ap₂ ◌&&◌ (zero_four s w) (near_four s' w')) (ap₂ ◌&&◌ (near_four s w) (zero_four s' w'))
