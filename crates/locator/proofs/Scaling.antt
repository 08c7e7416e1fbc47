-- A multiple of four rows, mod q: the rows are those of the definition, and name its position.
-- Assumes nothing.
use mathlib.Core.Path.{◌≡◌, refl, sym, ap, ◌∙◌}
use mathlib.Core.Logic.{◌⊎◌, inl, inr}
use mathlib.Core.Bool.{Bool, true}
use Prim.Native.Nat.{ℕ, zero, suc, ◌+◌, ◌-◌, ◌*◌, ◌%◌, ◌≤◌, ◌<◌}
use native.Mathlib.Nat.{mod-lt, mod-eq_of_lt, mul-zero, zero-mod, zero-add, one-mul}
use native.Mathlib.Omega.{arith}
use lib.Dec.{T, ltb, ltb→lt}
use lib.ListN.{get_or}
use borrow.Author.Tests.{lt-ltb, le-ltb}
use Rattle.modular_theory.proofs.Search.{all_at, holds}
use Rattle.code_theory.proofs.Columns.{q_positive, r_large}
use Rattle.decoding_theory.specs.Syndromes.{tabulate, from_digits, column_position}
use Rattle.modular.specs.Remainder.{residue}
use Rattle.modular.proofs.Dividing.{residue_is}
use Rattle.profiles.specs.declared.row.Row.{Row}
use Rattle.profiles.specs.Row.{parameters, Valid}
use Rattle.symbols.specs.declared.sums.Syndrome.{Syndrome}
use Rattle.symbols.specs.Syndromes.{rows}
use Rattle.syndromes.specs.Plus.{syndrome_plus}
use Rattle.syndromes.specs.Rows.{FourRows, rows_of}
use Rattle.syndromes.proofs.FourRows.{row_cases, rows_digit, rows_last, position_same}
use Rattle.syndromes.proofs.Moving.{rows_are}
use Rattle.locating_theory.specs.Candidates.{named_by}
use Rattle.locator.specs.Steps.{digit_row, level_rows, ReducedRows}

-- the code's syndrome of zeros
abbrev pub zeros : Syndrome
zeros = record { low = 0; mid = 0; high = 0; ones = 0 }

-- one row, and each of the four
row_is : {q : ℕ} → 1 ≤ q → (h x : ℕ) → residue q (0 + h * x) ≡ h * x % q
row_is {q} some h x = residue_is (0 + h * x) some ∙ ap (λ (y : ℕ). y % q) (zero-add (h * x))

scaled_rows : {q : ℕ} → 1 ≤ q → (h : ℕ) (s : Syndrome) {r : Syndrome} → r ≡ syndrome_plus q h s zeros → (j : ℕ) → j < 4
    → get_or (rows r) j 0 ≡ h * get_or (rows s) j 0 % q
scaled_rows some h s e zero l = ap (λ (r : Syndrome). r.low) e ∙ row_is some h s.low
scaled_rows some h s e (suc zero) l = ap (λ (r : Syndrome). r.mid) e ∙ row_is some h s.mid
scaled_rows some h s e (suc (suc zero)) l = ap (λ (r : Syndrome). r.high) e ∙ row_is some h s.high
scaled_rows some h s e (suc (suc (suc zero))) l = ap (λ (r : Syndrome). r.ones) e ∙ row_is some h s.ones
scaled_rows some h s e (suc (suc (suc (suc j)))) l = absurd (omega arith)

module _ (t : Row) (v : Valid t) (h : ℕ) (s : Syndrome) (unused : (j : ℕ) → t.r - 1 ≤ j → j < 3 → get_or (rows s) j 0 ≡ 0) {r : Syndrome}
    (e : r ≡ syndrome_plus t.q h s zeros) where
  some : 1 ≤ t.q
  some = q_positive (parameters t) v.sized

  row_at : (j : ℕ) → j < 4 → get_or (rows r) j 0 ≡ h * get_or (rows s) j 0 % t.q
  row_at = scaled_rows some h s e

  scaled_levels : FourRows t (rows r)
  scaled_levels =
      record {
        below = λ j l. rw (row_at j l) (mod-lt (h * get_or (rows s) j 0) some);
        unused = λ j k l. row_at j (omega arith) ∙ rw (unused j k l, mul-zero) (zero-mod t.q);
      }

  scaled_are : rows_of t (rows r) ≡ tabulate (λ j. h * get_or (rows_of t (rows s)) j 0 % t.q) t.r
  scaled_are =
      rows_are t v (rows r) (λ j. h * get_or (rows_of t (rows s)) j 0 % t.q)
      (λ j l. row_at j (omega (arith, v.checks)) ∙ sym (scale (rows_digit t v (rows s) j l)))
      (row_at 3 (omega arith) ∙ sym (scale (rows_last t v (rows s))))
    where
      scale : {x y : ℕ} → x ≡ y → h * x % t.q ≡ h * y % t.q
      scale = ap (λ (x : ℕ). h * x % t.q)

pub named_is : (t : Row) → Valid t → (h : ℕ) (s : Syndrome) → FourRows t (rows s) → {r : Syndrome} → r ≡ syndrome_plus t.q h s zeros
    → {a : ℕ} → a ≡ from_digits t.q 3 (rows r) → a ≡ named_by (parameters t) h (rows_of t (rows s))
unfolding named_by
named_is t v h s w {r} e f =
    f ∙ position_same t v r (scaled_levels t v h s w.unused e)
    ∙ ap (column_position (parameters t)) (scaled_are t v h s w.unused e)

-- The rows that are kept.

pub row_dropped : (r least x : ℕ) → r < least → 0 ≡ digit_row r least x
row_dropped r least x l = rw (lt-ltb r least l, digit_row)

pub row_kept : (r least x : ℕ) → least ≤ r → x ≡ digit_row r least x
row_kept r least x l = rw (le-ltb r least l, digit_row)

module _ (t : Row) (v : Valid t) (s : Syndrome) {mid high : ℕ} (m : mid ≡ digit_row t.r 3 s.mid)
    (h : high ≡ digit_row t.r 4 s.high) where
  abbrev kept : Syndrome
  kept = record { low = s.low; mid = mid; high = high; ones = s.ones }

  kept_same : (j : ℕ) → j < t.r - 1 → get_or (rows kept) j 0 ≡ get_or (rows s) j 0
  kept_same zero l = refl
  kept_same (suc zero) l = m ∙ sym (row_kept t.r 3 s.mid (omega arith))
  kept_same (suc (suc zero)) l = h ∙ sym (row_kept t.r 4 s.high (omega arith))
  kept_same (suc (suc (suc j))) l = absurd (omega (arith, v.checks))

  kept_unused : (j : ℕ) → t.r - 1 ≤ j → j < 3 → get_or (rows kept) j 0 ≡ 0
  kept_unused zero k l = absurd (omega (arith, r_large (parameters t) v.sized))
  kept_unused (suc zero) k l = m ∙ sym (row_dropped t.r 3 s.mid (omega arith))
  kept_unused (suc (suc zero)) k l = h ∙ sym (row_dropped t.r 4 s.high (omega arith))
  kept_unused (suc (suc (suc j))) k l = absurd (omega arith)

  pub reduced_is : {r : Syndrome} → r ≡ syndrome_plus t.q 1 kept zeros → ReducedRows t (rows s) (rows r)
  reduced_is {r} e = record { levels = scaled_levels t v 1 kept kept_unused e; row = λ j l. at j (row_cases t v j l) }
    where
      one : {x y : ℕ} → x ≡ y → 1 * x % t.q ≡ y % t.q
      one {x} f = ap (λ (z : ℕ). z % t.q) (one-mul x ∙ f)

      at : (j : ℕ) → (j ≡ t.r - 1) ⊎ (j < t.r - 1) → get_or (rows_of t (rows r)) j 0 ≡ get_or (rows_of t (rows s)) j 0 % t.q
      at j (inl z) =
          rw (z, rows_last t v (rows r), rows_last t v (rows s)) (row_at t v 1 kept kept_unused e 3 (omega arith) ∙ one refl)
      at j (inr l) =
          rw (rows_digit t v (rows r) j l, rows_digit t v (rows s) j l)
          (row_at t v 1 kept kept_unused e j (omega (arith, v.checks)) ∙ one (kept_same j l))

-- Rows that are levels already stay as they are.

module _ (q : ℕ) (s : Syndrome) where
  abbrev is_level : ℕ → Bool
  is_level j = ltb (get_or (rows s) j 0) q

  below_levels : T (level_rows q (rows s)) → (j : ℕ) → j < 4 → get_or (rows s) j 0 < q
  unfolding level_rows
  below_levels t j l = ltb→lt _ _ (all_at is_level 4 t j l)

module _ (t : Row) (v : Valid t) (s : Syndrome) {mid high : ℕ} (m : mid ≡ digit_row t.r 3 s.mid)
    (h : high ≡ digit_row t.r 4 s.high) {tested : Bool} (test : tested ≡ level_rows t.q (rows (kept t v s m h))) where
  pub levels_kept : tested ≡ true → ReducedRows t (rows s) (rows (kept t v s m h))
  levels_kept e = record { levels = record { below = below; unused = kept_unused t v s m h }; row = λ j l. at j (row_cases t v j l) }
    where
      below : (j : ℕ) → j < 4 → get_or (rows (kept t v s m h)) j 0 < t.q
      below = below_levels t.q (kept t v s m h) (holds _ (sym test ∙ e))

      same : {x y : ℕ} → x ≡ y → x < t.q → x ≡ y % t.q
      same f g = sym (mod-eq_of_lt g) ∙ ap (λ (z : ℕ). z % t.q) f

      at : (j : ℕ) → (j ≡ t.r - 1) ⊎ (j < t.r - 1)
          → get_or (rows_of t (rows (kept t v s m h))) j 0 ≡ get_or (rows_of t (rows s)) j 0 % t.q
      at j (inl z) = rw (z, rows_last t v (rows (kept t v s m h)), rows_last t v (rows s)) (same refl (below 3 (omega arith)))
      at j (inr l) =
          rw (rows_digit t v (rows (kept t v s m h)) j l, rows_digit t v (rows s) j l)
          (same (kept_same t v s m h j l) (below j (omega (arith, v.checks))))
