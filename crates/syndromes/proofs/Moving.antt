-- The four rows moved by a column are the r rows so moved.
-- Assumes nothing.
use mathlib.Core.Path.{◌≡◌, refl, sym, ap, ◌∙◌}
use mathlib.Core.Logic.{◌⊎◌, inl, inr, ⊎_elim}
use mathlib.Core.Bool.{Bool, true, false}
use mathlib.Core.List.{List}
use Prim.Native.Nat.{ℕ, zero, suc, ◌+◌, ◌-◌, ◌*◌, ◌%◌, ◌≤◌, ◌<◌, suc-le-suc}
use native.Mathlib.Nat.{mod-lt, mod-eq_of_lt, mul-zero, add-zero, zero-mod, le_trans}
use native.Mathlib.Omega.{arith}
use lib.ListN.{get_or}
use borrow.Author.Tests.{lt-ltb, le-ltb}
use Rattle.modular_theory.specs.Digits.{digits}
use Rattle.modular_theory.specs.Residue.{Congruent}
use Rattle.modular_theory.proofs.Residue.{same, add, mul}
use Rattle.modular_theory.proofs.Search.{le_or_lt}
use Rattle.code_theory.specs.Parameters.{Parameters}
use Rattle.code_theory.specs.Component.{check_row}
use Rattle.code_theory.proofs.Columns.{q_positive, last_row, digit_row_lem}
use Rattle.decoding_theory.specs.Syndromes.{tabulate, column_entry, moved}
use Rattle.decoding_theory.proofs.Value.{tabulate_at, tabulate_same}
use Rattle.profiles.specs.declared.row.Row.{Row}
use Rattle.profiles.specs.Row.{parameters, Valid}
use Rattle.symbols.proofs.Digits.{digits_same, digits_high}
use Rattle.syndromes.specs.Rows.{FourRows, row_index, rows_among, rows_of, Moved}
use Rattle.syndromes.proofs.FourRows.{row_cases, rows_digit, rows_last}

-- a factor counts mod q
pub moved_congruent : (p : Parameters) {f g : ℕ} (a : ℕ) (S : List ℕ) → Congruent p.q f g → moved p f a S ≡ moved p g a S
unfolding moved
moved_congruent p {f} {g} a S e =
    tabulate_same (λ j. (get_or S j 0 + f * column_entry p j a) % p.q) (λ j. (get_or S j 0 + g * column_entry p j a) % p.q) p.r
    (λ j h. (add (same (get_or S j 0)) (mul e (same (column_entry p j a)))).same)

-- there is no column 0, and none past n
entry_none : (p : Parameters) (j a : ℕ) → (a ≡ 0) ⊎ (p.n < a) → column_entry p j a ≡ 0
entry_none p j zero h = refl
entry_none p j (suc a) (inl e) = absurd (omega arith)
entry_none p j (suc a) (inr h) =
    ap (λ (b : Bool). elim b [ true ↦ check_row p j a | false ↦ 0 ]) (le-ltb a p.n (omega arith))

entry_some : (p : Parameters) (j i : ℕ) → i < p.n → column_entry p j (suc i) ≡ check_row p j i
entry_some p j i h = ap (λ (b : Bool). elim b [ true ↦ check_row p j i | false ↦ 0 ]) (lt-ltb i p.n h)

module _ (t : Row) (v : Valid t) where
  -- the r rows are those of g
  pub rows_are : (s : List ℕ) (g : ℕ → ℕ) → ((j : ℕ) → j < t.r - 1 → get_or s j 0 ≡ g j) → get_or s 3 0 ≡ g (t.r - 1)
      → rows_of t s ≡ tabulate g t.r
  unfolding rows_of rows_among
  rows_are s g d l =
      tabulate_same (λ j. get_or s (row_index t.r j) 0) g t.r
      (λ j h. sym (tabulate_at (λ j. get_or s (row_index t.r j) 0) t.r j h) ∙ at j (row_cases t v j h))
    where
      at : (j : ℕ) → (j ≡ t.r - 1) ⊎ (j < t.r - 1) → get_or (rows_of t s) j 0 ≡ g j
      at j (inl e) = ap (λ (i : ℕ). get_or (rows_of t s) i 0) e ∙ rows_last t v s ∙ l ∙ ap g (sym e)
      at j (inr h) = rows_digit t v s j h ∙ d j h

  module _ (s : List ℕ) (w : FourRows t s) (f : ℕ) where
    pub moved_none : (a : ℕ) → (a ≡ 0) ⊎ (t.n < a) → rows_of t s ≡ moved (parameters t) f a (rows_of t s)
    unfolding moved
    moved_none a h =
        rows_are s (λ j. (get_or (rows_of t s) j 0 + f * column_entry (parameters t) j a) % t.q)
        (λ j l. sym (still j j (rows_digit t v s j l) (omega (arith, v.checks))))
        (sym (still (t.r - 1) 3 (rows_last t v s) (omega arith)))
      where
        still : (j i : ℕ) → get_or (rows_of t s) j 0 ≡ get_or s i 0 → i < 4
            → (get_or (rows_of t s) j 0 + f * column_entry (parameters t) j a) % t.q ≡ get_or s i 0
        still j i e l = rw (e, entry_none (parameters t) j a h, mul-zero, add-zero) (mod-eq_of_lt (w.below i l))

    pub moved_still : (a : ℕ) → (a ≡ 0) ⊎ (t.n < a) → Moved t f a s s
    moved_still a h = record { levels = w; are = moved_none a h }

    -- the column of index i, by its three digits
    module _ (i : ℕ) (h : i < t.n) (digit : ℕ → ℕ) (digit-is : (j : ℕ) → digit j ≡ get_or (digits t.q 3 (suc i)) j 0) (d : List ℕ) where
      pub moved_some : ((j : ℕ) → j < 3 → get_or d j 0 ≡ (get_or s j 0 + f * digit j) % t.q)
          → get_or d 3 0 ≡ (get_or s 3 0 + f * 1) % t.q
          → Moved t f (suc i) s d
      unfolding moved
      moved_some e l = record { levels = record { below = below; unused = unused }; are = rows_are d rows digits_are last_is }
        where
          rows : ℕ → ℕ
          rows j = (get_or (rows_of t s) j 0 + f * column_entry (parameters t) j (suc i)) % t.q

          below : (j : ℕ) → j < 4 → get_or d j 0 < t.q
          below j m =
              let q : 1 ≤ t.q = q_positive (parameters t) v.sized in
              ⊎_elim (λ (g : 3 ≤ j). let z : j ≡ 3 = omega arith in rw (z, l) (mod-lt _ q)) (λ (g : j < 3). rw (e j g) (mod-lt _ q))
              (le_or_lt 3 j)

          unused : (j : ℕ) → t.r - 1 ≤ j → j < 3 → get_or d j 0 ≡ 0
          unused j m n =
              let z : digit j ≡ 0 = digit-is j
              ∙ digits_high t.q (t.r - 1) 3 (suc i) j (q_positive (parameters t) v.sized)
              (le_trans (suc-le-suc h) v.sized.columns) m in
              e j n ∙ rw (w.unused j m n, z, mul-zero) (zero-mod t.q)

          digits_are : (j : ℕ) → j < t.r - 1 → get_or d j 0 ≡ rows j
          digits_are j m =
              let c : digit j ≡ column_entry (parameters t) j (suc i) =
              digit-is j ∙ digits_same t.q 3 (t.r - 1) (suc i) j (omega (arith, v.checks)) m
              ∙ sym (digit_row_lem (parameters t) j i m) ∙ sym (entry_some (parameters t) j i h) in
              e j (omega (arith, v.checks)) ∙ rw (← rows_digit t v s j m, c)

          last_is : get_or d 3 0 ≡ rows (t.r - 1)
          last_is = l ∙ rw (rows_last t v s, entry_some (parameters t) (t.r - 1) i h, last_row (parameters t) i)
