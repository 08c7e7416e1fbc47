-- The syndrome of a component by its four rows, and the component that a syndrome restores.
-- Assumes nothing.
use mathlib.Core.Path.{◌≡◌, refl, sym, ap, ap₂, ◌∙◌}
use mathlib.Core.Logic.{⊎_elim}
use mathlib.Core.Bool.{Bool, true, false, not}
use mathlib.Core.List.{List}
use Prim.Native.Nat.{ℕ, zero, suc, ◌+◌, ◌-◌, ◌*◌, ◌%◌, ◌≤◌, ◌<◌}
use native.Mathlib.Omega.{arith}
use native.Mathlib.Decide.{ℕ_discrete}
use lib.Dec.{T}
use lib.ListN.{length, get_or, take, drop, set, length-set}
use lib.Seq.{get_or-set_same, get_or-set_other, take-set-lt, drop-set-add}
use Rattle.modular_theory.specs.Residue.{minus}
use Rattle.modular_theory.proofs.Search.{or_cases}
use Rattle.modular_theory.proofs.Sum.{dot_same}
use Rattle.code_theory.specs.Parameters.{Parameters}
use Rattle.code_theory.specs.Component.{check_row, syndrome, message}
use Rattle.code_theory.specs.Codeword.{alternate}
use Rattle.code_theory.proofs.Weights.{double, double_is}
use Rattle.code_theory.proofs.Alternate.{first_set, second_kept, second_set, first_kept}
use Rattle.code_theory.proofs.Columns.{last_row, digit_row_lem}
use Rattle.decoding_theory.specs.Syndromes.{syndromes, zero_syndrome, column_position, column_syndrome, near_syndrome, restored_by}
use Rattle.decoding_theory.proofs.Near.{named}
use Rattle.decoding_theory.proofs.Tests.{false_test}
use Rattle.profiles.specs.declared.row.Row.{Row}
use Rattle.profiles.specs.Row.{parameters, Valid}
use Rattle.symbols.specs.Syndromes.{four_rows, part}
use Rattle.symbols.proofs.Digits.{digits_same}
use Rattle.symbols.proofs.Parts.{part_first, part_second}
use Rattle.syndromes.specs.Rows.{rows_of}
use Rattle.decoder.specs.Sides.{is_first}
use Rattle.decoder.specs.Received.{BodyArray}
use Rattle.decoder.specs.Outputs.{Restored, Messages, RestoredMessages}
use Rattle.syndromes.proofs.Moving.{rows_are}

module _ (t : Row) (v : Valid t) (c s : List ℕ) (n : length c ≤ t.n)
    (e : (j : ℕ) → j < 4 → get_or s j 0 ≡ syndrome (four_rows t.q t.n) c j) where
  abbrev four : Parameters
  four = four_rows t.q t.n

  -- a row among four that agrees with one among r
  agree : (j k : ℕ) → j < 4 → ((i : ℕ) → i < t.n → check_row four j i ≡ check_row (parameters t) k i)
      → get_or s j 0 ≡ syndrome (parameters t) c k
  unfolding syndrome
  agree j k h f = e j h ∙ ap (λ (x : ℕ). x % t.q) (dot_same (check_row four j) (check_row (parameters t) k) c (λ i l. f i (omega arith)))

  -- the r rows are the syndrome
  pub four_are : rows_of t s ≡ syndromes (parameters t) c
  four_are =
      rows_are t v s (syndrome (parameters t) c)
      (λ j h. agree j j (omega (arith, v.checks)) (λ i l. digit_row_lem four j i (omega (arith, v.checks))
      ∙ digits_same t.q 3 (t.r - 1) (suc i) j (omega (arith, v.checks)) h ∙ sym (digit_row_lem (parameters t) j i h)))
      (agree 3 (t.r - 1) (omega arith) (λ i l. last_row four i ∙ sym (last_row (parameters t) i)))

-- One symbol of a component set in the array of both.
module _ (n : ℕ) (x : List ℕ) (i y : ℕ) (h : i < n) where
  -- in the list of both components' symbols
  inner : (k : ℕ) → k < 2 * n → drop 1 (take (2 * n + 1) (set x (1 + k) y)) ≡ set (drop 1 (take (2 * n + 1) x)) k y
  inner k l =
      let m : 1 + k < 2 * n + 1 = omega arith in
      ap (λ (z : List ℕ). drop 1 z) (take-set-lt (2 * n + 1) x (1 + k) y m) ∙ drop-set-add 1 (take (2 * n + 1) x) k y

  at : (side k : ℕ) → k < 2 * n → 1 + k ≡ 2 * i + 1 + side → (b : Bool)
      → part b n (set x (2 * i + 1 + side) y) ≡ alternate b (set (drop 1 (take (2 * n + 1) x)) k y)
  at side k l e b = rw (← e) (ap (alternate b) (inner k l))

  part_set : (side : ℕ) → side ≤ 1 → part (is_first side) n (set x (2 * i + 1 + side) y) ≡ set (part (is_first side) n x) i y
  part_set zero l =
      at 0 (double i) (omega (arith, double_is i)) (omega (arith, double_is i)) true ∙ first_set (drop 1 (take (2 * n + 1) x)) i y
  part_set (suc zero) l =
      at 1 (suc (double i)) (omega (arith, double_is i)) (omega (arith, double_is i)) false ∙ second_set (drop 1 (take (2 * n + 1) x)) i y
  part_set (suc (suc side)) l = absurd (omega arith)

  part_kept : (side : ℕ) → side ≤ 1 → part (not (is_first side)) n (set x (2 * i + 1 + side) y) ≡ part (not (is_first side)) n x
  part_kept zero l =
      at 0 (double i) (omega (arith, double_is i)) (omega (arith, double_is i)) false ∙ second_kept (drop 1 (take (2 * n + 1) x)) i y
  part_kept (suc zero) l =
      at 1 (suc (double i)) (omega (arith, double_is i)) (omega (arith, double_is i)) true ∙ first_kept (drop 1 (take (2 * n + 1) x)) i y
  part_kept (suc (suc side)) l = absurd (omega arith)

part_at : (n : ℕ) (x : List ℕ) (i side : ℕ) → i < n → side ≤ 1 → get_or (part (is_first side) n x) i 0 ≡ get_or x (2 * i + 1 + side) 0
part_at n x i zero h l = let e : 2 * i + 1 ≡ 2 * i + 1 + 0 = omega arith in rw (← e) (part_first n x i h)
part_at n x i (suc zero) h l = let e : 2 * i + 2 ≡ 2 * i + 1 + 1 = omega arith in rw (← e) (part_second n x i h)
part_at n x i (suc (suc side)) h l = absurd (omega arith)

-- The position that a near syndrome names, where it is not zero.
module _ (p : Parameters) (S : List ℕ) (z : zero_syndrome p S ≡ false) (near : T (near_syndrome p S)) where
  names : T (column_syndrome p S)
  unfolding near_syndrome
  names =
      ⊎_elim (λ (h : T (zero_syndrome p S)). absurd (false_test z h)) (λ (h : T (column_syndrome p S)). h)
      (or_cases (zero_syndrome p S) (column_syndrome p S) near)

  position_some : 1 ≤ column_position p S
  position_some = (named p S names).some

  position_within : column_position p S ≤ p.n
  position_within = (named p S names).within

module _ {t : Row} {x : List ℕ} (b : BodyArray t x) (S : List ℕ) where
  pub restored_same : (side : ℕ) → zero_syndrome (parameters t) S ≡ true → Restored t S (is_first side) x x
  unfolding restored_by
  restored_same side z = record { levels = b; this = rw (z, restored_by); other = refl }

  module _ (z : zero_syndrome (parameters t) S ≡ false) (near : T (near_syndrome (parameters t) S)) {at : ℕ}
      (e : at ≡ column_position (parameters t) S) {side : ℕ} (l : side ≤ 1) where
    -- the component, and the index in the array of its symbol that is too high
    abbrev component : List ℕ
    component = part (is_first side) t.n x

    abbrev i : ℕ
    i = 2 * at - 1 + side

    inside : at - 1 < t.n
    inside = omega (arith, position_some (parameters t) S z near, position_within (parameters t) S z near)

    pub lowered_some : 1 ≤ at
    lowered_some = omega (arith, position_some (parameters t) S z near)

    pub lowered_within : i < t.balanced
    lowered_within = omega (arith, inside, lowered_some, b.valid.balanced)

    pub restored_lowered : {y : ℕ} → (y ≡ minus t.q (get_or x i 0) 1) × (y < t.q) → Restored t S (is_first side) x (set x i y)
    unfolding restored_by
    restored_lowered {y} g =
        let f : i ≡ 2 * (at - 1) + 1 + side = omega (arith, lowered_some) in
        let h : y ≡ minus t.q (get_or component (at - 1) 0) 1 =
        g.0 ∙ ap (λ (v : ℕ). minus t.q v 1) (ap (λ (j : ℕ). get_or x j 0) f ∙ sym (part_at t.n x (at - 1) side inside l)) in
        record {
          levels = record { valid = b.valid; size = length-set x i y ∙ b.size; below = λ j m. below j m (ℕ_discrete j i) };
          this =
              ap (λ (j : ℕ). part (is_first side) t.n (set x j y)) f
              ∙ part_set t.n x (at - 1) y inside side l
              ∙ ap₂ (λ (j v : ℕ). set component (j - 1) v) e h
              ∙ ap (λ (j : ℕ). set component (column_position (parameters t) S - 1) (minus t.q (get_or component (j - 1) 0) 1)) e
              ∙ rw (z, restored_by);
          other = ap (λ (j : ℕ). part (not (is_first side)) t.n (set x j y)) f ∙ part_kept t.n x (at - 1) y inside side l;
        }
      where
        below : (j : ℕ) → j < t.balanced → Dec (j ≡ i) → get_or (set x i y) j 0 < t.q
        below j m (yes j-is) =
            let k : i < length x = omega (arith, lowered_within, b.size, b.valid.balanced, b.valid.length) in
            rw (j-is, get_or-set_same x i y 0 k) g.1
        below j m (no n) = rw (get_or-set_other x i j y 0 n) (b.below j m)

-- the messages of both components restored, one after the other
pub written_by : {t : Row} {S S' x y z first second : List ℕ} → Restored t S true x y → Restored t S' false y z → Messages t z first second
    → RestoredMessages (parameters t) (part true t.n x) (part false t.n x) S S' first second
written_by {t} {S} {S'} a b m =
    record {
      first_is = m.first_is ∙ ap (message (parameters t)) (b.other ∙ a.this);
      second_is = m.second_is ∙ ap (message (parameters t)) (b.this ∙ ap (restored_by (parameters t) S') a.other);
    }
