-- The four row sums of a component, a symbol at a time, and what they are where the table of columns is right.
-- Assumes nothing.
use mathlib.Core.Path.{◌≡◌, sym, ap, ap₂, ◌∙◌}
use mathlib.Core.List.{List, [], ◌∷◌}
use Prim.Native.Nat.{ℕ, zero, suc, ◌+◌, ◌*◌, ◌%◌, ◌^◌, ◌≤◌, ◌<◌}
use native.Mathlib.Nat.{mod-lt, zero-mod}
use native.Mathlib.Numerals.{add-one}
use native.Mathlib.Omega.{arith}
use lib.ListN.{length, get_or, take}
use lib.Seq.{take_all}
use Rattle.modular_theory.specs.Sum.{weight, dot}
use Rattle.modular_theory.proofs.Sum.{dot_same, dot_one, dot_zero}
use Rattle.code_theory.specs.Component.{check_row, syndrome}
use Rattle.modular.specs.Remainder.{residue}
use Rattle.modular.proofs.Dividing.{residue_is}
use Rattle.symbols.specs.declared.sums.Unreduced.{Unreduced}
use Rattle.symbols.specs.Columns.{Columns}
use Rattle.symbols.specs.Syndromes.{four_rows, column_digit, row_sums, Added}
use Rattle.symbols.proofs.Digits.{digits_high}
use Rattle.symbols.proofs.Words.{dot_take, weight_take}

-- s holds the sums of the first i symbols of c, each of them a byte times a byte
pub record Summing (columns : List (List ℕ)) (c : List ℕ) (i : ℕ) (s : Unreduced) : Type 0 where
  pub low : s.low ≡ dot (column_digit columns 0) (take i c)
  pub mid : s.mid ≡ dot (column_digit columns 1) (take i c)
  pub high : s.high ≡ dot (column_digit columns 2) (take i c)
  pub ones : s.ones ≡ weight (take i c)
  pub low_small : s.low ≤ 65025 * i
  pub middle_small : s.mid ≤ 65025 * i
  pub high_small : s.high ≤ 65025 * i
  pub ones_small : s.ones ≤ 65025 * i

module _ {columns : List (List ℕ)} {c : List ℕ} {i : ℕ} {s : Unreduced} (h : Summing columns c i s) where
  pub summing_more : {x : ℕ} → get_or c i 0 ≡ x → {r : Unreduced} → Added s (get_or columns i []) x r → Summing columns c (i + 1) r
  summing_more {x} e {r} a =
      let f : i + 1 ≡ suc i = add-one i in
      record {
        low = rw f (row 0 h.low a.low);
        mid = rw f (row 1 h.mid a.mid);
        high = rw f (row 2 h.high a.high);
        ones = rw f (omega (arith, weight_take i c));
        low_small = omega arith;
        middle_small = omega arith;
        high_small = omega arith;
        ones_small = omega arith;
      }
    where
      row : (j : ℕ) {y z : ℕ} → y ≡ dot (column_digit columns j) (take i c) → z ≡ y + column_digit columns j i * x
          → z ≡ dot (column_digit columns j) (take (suc i) c)
      row j hy hz = hz ∙ ap₂ (λ (u v : ℕ). u + column_digit columns j i * v) hy (sym e) ∙ sym (dot_take (column_digit columns j) i c)

  pub summing_all : (q : ℕ) → length c ≤ i
      → {l : List ℕ} → l ≡ residue q s.low ∷ residue q s.mid ∷ residue q s.high ∷ residue q s.ones ∷ []
      → l ≡ row_sums q columns c
  unfolding row_sums
  summing_all q k e =
      let t : take i c ≡ c = take_all i c k in
      e ∙ rw (h.low, h.mid, h.high, h.ones, t)

-- a digit of a column, three of them
column_digit_lem : {q n : ℕ} {columns : List (List ℕ)} → Columns q n columns → (i j : ℕ) → i < n → j < 3
    → column_digit columns j i ≡ check_row (four_rows q n) j i
column_digit_lem c i zero h k = ap (λ (l : List ℕ). get_or l 0 0) (c.at i h)
column_digit_lem c i (suc zero) h k = ap (λ (l : List ℕ). get_or l 1 0) (c.at i h)
column_digit_lem c i (suc (suc zero)) h k = ap (λ (l : List ℕ). get_or l 2 0) (c.at i h)
column_digit_lem c i (suc (suc (suc j))) h k = absurd (omega arith)

-- The sums by a right table of columns.
module _ {q n : ℕ} {columns : List (List ℕ)} (some : 1 ≤ q) (right : Columns q n columns) (c : List ℕ) (room : length c ≤ n) where
  digit_row_lem : (j : ℕ) → j < 3 → residue q (dot (column_digit columns j) c) ≡ dot (check_row (four_rows q n) j) c % q
  digit_row_lem j h =
      residue_is (dot (column_digit columns j) c) some
      ∙ ap (λ (s : ℕ). s % q)
      (dot_same (column_digit columns j) (check_row (four_rows q n) j) c (λ i l. column_digit_lem right i j (omega arith) h))

  -- they are the syndrome of four rows
  pub sums_are : (j : ℕ) → j < 4 → get_or (row_sums q columns c) j 0 ≡ syndrome (four_rows q n) c j
  unfolding row_sums syndrome
  sums_are zero h = digit_row_lem 0 (omega arith)
  sums_are (suc zero) h = digit_row_lem 1 (omega arith)
  sums_are (suc (suc zero)) h = digit_row_lem 2 (omega arith)
  sums_are (suc (suc (suc zero))) h = residue_is (weight c) some ∙ ap (λ (s : ℕ). s % q) (sym (dot_one c))
  sums_are (suc (suc (suc (suc j)))) h = absurd (omega arith)

  pub sums_below : (j : ℕ) → j < 4 → get_or (row_sums q columns c) j 0 < q
  unfolding syndrome
  sums_below j h = rw (sums_are j h) (mod-lt (dot (check_row (four_rows q n) j) c) some)

  -- a digit row past the digits of every position is 0
  pub sums_unused : (k : ℕ) → length c < q ^ k → (j : ℕ) → k ≤ j → j < 3 → get_or (row_sums q columns c) j 0 ≡ 0
  unfolding syndrome
  sums_unused k within j h l =
      sums_are j (omega arith)
      ∙ ap (λ (s : ℕ). s % q) (dot_same (check_row (four_rows q n) j) (λ i. 0) c (λ i m. zero_at i m) ∙ dot_zero c)
      ∙ zero-mod q
    where
      zero_at : (i : ℕ) → i < length c → check_row (four_rows q n) j i ≡ 0
      zero_at i m =
          sym (column_digit_lem right i j (omega arith) l)
          ∙ ap (λ (d : List ℕ). get_or d j 0) (right.at i (omega arith))
          ∙ digits_high q k 3 (suc i) j some (omega arith) h
