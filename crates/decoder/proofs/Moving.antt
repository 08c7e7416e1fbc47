-- The four rows moved by a column of the matrix are the r rows so moved.
-- Assumes nothing.
use mathlib.Core.Path.{◌≡◌, refl, ap, ◌∙◌}
use mathlib.Core.Logic.{◌≢◌, ◌⊎◌}
use mathlib.Core.List.{List, [], ◌∷◌}
use Prim.Native.Nat.{ℕ, zero, suc, ◌+◌, ◌-◌, ◌*◌, ◌%◌, ◌≤◌, ◌<◌}
use native.Mathlib.Omega.{arith}
use lib.Dec.{eqb}
use lib.ListN.{get_or}
use borrow.Author.Tests.{ne_eqb}
use Rattle.code_theory.proofs.Columns.{q_positive}
use Rattle.decoding_theory.specs.Syndromes.{zero_syndrome, moved}
use Rattle.profiles.specs.declared.row.Row.{Row}
use Rattle.profiles.specs.Row.{parameters, Valid}
use Rattle.modular.specs.Remainder.{residue}
use Rattle.modular.proofs.Dividing.{residue_is}
use Rattle.symbols.specs.declared.sums.Syndrome.{Syndrome}
use Rattle.symbols.specs.Columns.{Columns}
use Rattle.symbols.specs.Syndromes.{rows}
use Rattle.symbols.proofs.Counting.{digit_below}
use Rattle.syndromes.specs.FourRows.{zero_rows}
use Rattle.syndromes.specs.Plus.{syndrome_plus}
use Rattle.syndromes.specs.Rows.{FourRows, rows_of, Moved}
use Rattle.syndromes.proofs.Rows.{zero_not}
use Rattle.syndromes.proofs.FourRows.{zero_same}
use Rattle.syndromes.proofs.Moving.{moved_none, moved_some}
use Rattle.decoder.specs.Multiples.{Multiples}
use Rattle.decoder.specs.Rows.{moved_rows, Movable}

module _ (t : Row) (v : Valid t) where
  -- what a column of the matrix asks
  pub movable : {columns : List (List ℕ)} → Columns t.q t.n columns → {s : List ℕ} → FourRows t s → {table : List ℕ}
      → Multiples t.q table → (a : ℕ) → a ≢ 0 → a ≤ t.n → Movable t.q (get_or columns (a - 1) []) s table
  movable {columns} k w m a z l =
      record {
        some = omega (arith, v.sized.levels);
        levels = v.levels;
        first_digit = digit 0;
        second_digit = digit 1;
        third_digit = digit 2;
        low = w.below 0 (omega arith);
        mid = w.below 1 (omega arith);
        high = w.below 2 (omega arith);
        ones = w.below 3 (omega arith);
        table = m;
      }
    where
      digit : (j : ℕ) → get_or (get_or columns (a - 1) []) j 0 < t.q
      digit j = digit_below (q_positive (parameters t) v.sized) k (a - 1) j (omega arith)

  module _ (s : List ℕ) (w : FourRows t s) (f : ℕ) where
    pub zero_none : (a : ℕ) → (a ≡ 0) ⊎ (t.n < a) → zero_rows s ≡ zero_syndrome (parameters t) (moved (parameters t) f a (rows_of t s))
    zero_none a h = zero_same t v s w ∙ ap (zero_syndrome (parameters t)) (moved_none t v s w f a h)

    module _ {columns : List (List ℕ)} (k : Columns t.q t.n columns) (a : ℕ) (z : a ≢ 0) (l : a ≤ t.n) where
      -- the four rows so moved
      pub moved_column : {d : List ℕ} → d ≡ moved_rows t.q f (get_or columns (a - 1) []) s → Moved t f a s d
      moved_column {d} g =
          let e : suc (a - 1) ≡ a = omega arith in
          let i : a - 1 < t.n = omega arith in
          let m = moved_some t v s w f (a - 1) i (λ j. get_or (get_or columns (a - 1) []) j 0)
          (λ j. ap (λ (l : List ℕ). get_or l j 0) (k.at (a - 1) i)) d
          digit_rows_lem (ap (λ (x : List ℕ). get_or x 3 0) g) in
          record { levels = m.levels; are = m.are ∙ ap (λ (x : ℕ). moved (parameters t) f x (rows_of t s)) e }
        where
          digit_rows_lem : (j : ℕ) → j < 3 → get_or d j 0 ≡ (get_or s j 0 + f * get_or (get_or columns (a - 1) []) j 0) % t.q
          digit_rows_lem zero h = ap (λ (x : List ℕ). get_or x 0 0) g
          digit_rows_lem (suc zero) h = ap (λ (x : List ℕ). get_or x 1 0) g
          digit_rows_lem (suc (suc zero)) h = ap (λ (x : List ℕ). get_or x 2 0) g
          digit_rows_lem (suc (suc (suc j))) h = absurd (omega arith)

      pub zero_column : zero_rows (moved_rows t.q f (get_or columns (a - 1) []) s)
          ≡ zero_syndrome (parameters t) (moved (parameters t) f a (rows_of t s))
      zero_column =
          let d = moved_rows t.q f (get_or columns (a - 1) []) s in
          let m = moved_column {d = d} refl in
          zero_same t v d m.levels ∙ ap (zero_syndrome (parameters t)) m.are

-- four rows, one by one
pub four_equal : {a b c d a' b' c' d' : ℕ} → a ≡ a' → b ≡ b' → c ≡ c' → d ≡ d' → a ∷ b ∷ c ∷ d ∷ [] ≡ a' ∷ b' ∷ c' ∷ d' ∷ []
four_equal e f g h = cc

-- a multiple of a column of the matrix added row by row
module _ (t : Row) (v : Valid t) (s : Syndrome) (w : FourRows t (rows s)) (f : ℕ) {columns : List (List ℕ)}
    (k : Columns t.q t.n columns) (a : ℕ) (z : a ≢ 0) (l : a ≤ t.n) where
  -- that column, as a syndrome
  abbrev column_at : Syndrome
  column_at =
      record {
        low = get_or (get_or columns (a - 1) []) 0 0;
        mid = get_or (get_or columns (a - 1) []) 1 0;
        high = get_or (get_or columns (a - 1) []) 2 0;
        ones = 1;
      }

  pub plus_moved : {r : Syndrome} → r ≡ syndrome_plus t.q f column_at s → Moved t f a (rows s) (rows r)
  plus_moved {r} e =
      let row : (x : ℕ) → residue t.q x ≡ x % t.q = λ x. residue_is x (q_positive (parameters t) v.sized) in
      moved_column t v (rows s) w f k a z l (ap rows e ∙ four_equal (row _) (row _) (row _) (row _))

-- the high row decides where the others are 0
pub zero_high : {a b d : ℕ} (c : ℕ) → a ≡ 0 → b ≡ 0 → d ≡ 0 → eqb c 0 ≡ zero_rows (a ∷ b ∷ c ∷ d ∷ [])
unfolding zero_rows
zero_high zero e f g = rw (e, f, g)
zero_high {a} {b} {d} (suc c) e f g =
    ne_eqb (suc c) 0 (λ z. omega arith) ∙ zero_not (a ∷ b ∷ suc c ∷ d ∷ []) 2 (omega arith) (λ z. let y : suc c ≡ 0 = z in omega arith)
