-- A symbol put where 0 stood moves the sums as it moves the word: y times the effects of one more are what y more does.
-- Assumes nothing.
use mathlib.Core.Path.{◌≡◌, refl, sym, ap, subst, ◌∙◌}
use mathlib.Core.Logic.{⊎_elim}
use mathlib.Core.Bool.{Bool, true, false, not}
use mathlib.Core.List.{List}
use Prim.Native.Nat.{ℕ, ◌+◌, ◌-◌, ◌*◌, ◌/◌, ◌%◌, ◌≤◌, ◌<◌}
use native.Mathlib.Nat.{zero-add}
use native.Mathlib.Omega.{arith}
use lib.Dec.{eqb}
use lib.ListN.{length, get_or, set}
use lib.IntN.{ℤ, pos, ◌+ℤ◌, ◌-ℤ◌}
use lib.Seq.{get_or-set_same}
use borrow.Author.Tests.{eq-eqb, ne_eqb, lt-ltb, le-ltb}
use Rattle.modular_theory.specs.Sum.{weight}
use Rattle.modular_theory.specs.Residue.{Congruent}
use Rattle.modular_theory.proofs.Residue.{of_eq, same, symm, ◌then◌, add, reduce, scale}
use Rattle.modular_theory.proofs.Integer.{difference_more}
use Rattle.code_theory.specs.Parameters.{Parameters, Sized, balanced_length, codeword_length}
use Rattle.code_theory.specs.Codeword.{body}
use Rattle.code_theory.proofs.Weights.{sign}
use Rattle.code_theory.proofs.Columns.{q_positive}
use Rattle.decoding_theory.specs.Syndromes.{column_entry, moved, index, column_of, times, moved_of}
use Rattle.decoding_theory.specs.Decoded.{check_symbol, check_index, Sums, update, gain_by, target, position_count}
use Rattle.decoding_theory.specs.Filled.{added_by_one, Erased, in_body, as_check, erased_at, plus_multiple, sums_with}
use Rattle.decoding_theory.proofs.Tests.{for_both}
use Rattle.decoding_theory.proofs.Value.{tabulate_at, tabulate_same}
use Rattle.decoding_theory.proofs.Moved.{less, gain_small, sign_gain}
use Rattle.decoding_theory.proofs.Changed.{OfParity, of_parity, in_parity, index_cases, check_within, check_past}
use Rattle.decoding_theory.proofs.Changed.{body_kept, other_kept, Summed, update_here, update_other, summed_moved}
use Rattle.decoding_theory.proofs.Nearby.{received_kept}

-- Effects.

-- 1 or -1 mod q: how often the column comes in by one more, edition aside
side : Parameters → Bool → Bool → ℕ
side p true true = p.q - 1
side p true false = 1
side p false true = 1
side p false false = p.q - 1

times_side : (p : Parameters) → 1 ≤ p.q → (c b : Bool) (e a : ℕ) → e ≤ p.q → Congruent p.q (times p c b e * a) (side p c b * a * e)
unfolding side
times_side p h true true e a l = symm (less p.q a e h l)
times_side p h true false e a l = let f : e * a ≡ 1 * a * e = omega arith in of_eq f
times_side p h false true e a l = let f : e * a ≡ 1 * a * e = omega arith in of_eq f
times_side p h false false e a l = symm (less p.q a e h l)

-- a column comes in y times as often by y more as by one more
often : (p : Parameters) → 1 ≤ p.q → (c b : Bool) (y a : ℕ) → y ≤ p.q
    → Congruent p.q (y * (times p c b (gain_by p 1) * a)) (times p c b (gain_by p y) * a)
often p h c b y a l =
    let s : ℕ = side p c b * a in
    let f : y * (s * (sign p * 1)) ≡ s * (sign p * y) = omega arith in
    scale y (times_side p h c b (gain_by p 1) a (gain_small p 1 h) then scale s (symm (sign_gain p 1 h h))) then of_eq f
    then scale s (sign_gain p y h l) then symm (times_side p h c b (gain_by p y) a (gain_small p y l))

pub plus_effect : (p : Parameters) → 1 ≤ p.q → (c b : Bool) (k y : ℕ) → y ≤ p.q → (S : List ℕ)
    → plus_multiple p y (added_by_one p c b k) S ≡ moved_of p c b k (gain_by p y) S
unfolding plus_multiple added_by_one moved_of moved
plus_effect p h c b k y l S = tabulate_same _ _ p.r row
  where
    entry : ℕ → ℕ
    entry j = column_entry p j (column_of c b k)

    once : ℕ → ℕ
    once j = times p c b (gain_by p 1) * entry j

    row : (j : ℕ) → j < p.r
        → (get_or S j 0 + y * get_or (added_by_one p c b k) j 0) % p.q ≡ (get_or S j 0 + times p c b (gain_by p y) * entry j) % p.q
    row j m =
        let e : get_or (added_by_one p c b k) j 0 ≡ (0 + once j) % p.q = tabulate_at (λ j. (0 + once j) % p.q) p.r j m in
        (add (same (get_or S j 0))
        (of_eq (ap (λ (x : ℕ). y * x) e) then scale y (reduce p.q (0 + once j) then of_eq (zero-add (once j)))
        then often p h c b y (entry j) l)).same

-- Where an erased symbol stands.

-- d describes the symbol at index i of the word
pub data AtIndex (p : Parameters) : ℕ → Erased → Type 0 where
  in_body_lem : (b : Bool) (k : ℕ) → k < position_count p b → AtIndex p (index b k) (in_body b (added_by_one p true b k) (added_by_one p false b k))
  as_check_lem : (b : Bool) → AtIndex p (check_index p b) (as_check b)

own_parity : (b : Bool) (k : ℕ) → eqb (index b k % 2) 0 ≡ b
own_parity true k = eq-eqb (2 * k % 2) 0 (omega arith)
own_parity false k = ne_eqb ((2 * k + 1) % 2) 0 (λ e. omega arith)

own_index : (b : Bool) (k : ℕ) → index b k / 2 ≡ k
own_index true k = omega arith
own_index false k = omega arith

own_check : (p : Parameters) (b : Bool) → eqb (check_index p b) (balanced_length p) ≡ b
own_check p true = eq-eqb (balanced_length p) (balanced_length p) refl
own_check p false = ne_eqb (balanced_length p + 1) (balanced_length p) (λ e. omega arith)

body_placed : (p : Parameters) (i : ℕ) → i < balanced_length p → OfParity p i → AtIndex p i (erased_at p i)
unfolding erased_at
body_placed p i l (of_parity b k m) =
    rw (lt-ltb (index b k) (balanced_length p) l, erased_at, own_parity b k, own_index b k) (in_body_lem b k m)

check_placed : (p : Parameters) (b : Bool) → AtIndex p (check_index p b) (erased_at p (check_index p b))
unfolding erased_at
check_placed p b = rw (le-ltb (check_index p b) (balanced_length p) (check_past p b), erased_at, own_check p b) (as_check_lem b)

pub placed : (p : Parameters) (i : ℕ) → i < codeword_length p → AtIndex p i (erased_at p i)
placed p i h =
    ⊎_elim (λ (l : i < balanced_length p). body_placed p i l (in_parity p i l))
    (λ (c : (b : Bool) × (i ≡ check_index p b)). subst (λ (j : ℕ). AtIndex p j (erased_at p j)) (sym c.1) (check_placed p c.0))
    (index_cases p i h)

-- The sums of v are t, and y takes the place of 0.
module _ (p : Parameters) (s : Sized p) {v : List ℕ} (n : length v ≡ codeword_length p) {t : Sums} (m : Summed p v t) (y : ℕ) where
  check_with : (b : Bool) → Summed p (set v (check_index p b) y) (sums_with p (as_check b) y t)
  check_with b =
      record {
        excess = m.excess ∙ ap (λ (w : List ℕ). pos (weight w) -ℤ pos (target p)) (sym (body_kept p v b y));
        asked = λ c. m.asked c ∙ ap (check_symbol p.q c) (sym (body_kept p v b y));
        arrived =
            for_both b (λ c. update b y t.arrived c ≡ get_or (set v (check_index p b) y) (check_index p c) 0)
            (update_here b y t.arrived ∙ sym (get_or-set_same v (check_index p b) y 0 (rw n (check_within p b))))
            (update_other b y t.arrived ∙ m.arrived (not b) ∙ sym (other_kept p v b y));
        first = rw (received_kept p v b y true) m.first;
        second = rw (received_kept p v b y false) m.second;
      }

  -- y more is y more of the excess
  heavier : (b : Bool) (k : ℕ) → get_or v (index b k) 0 ≡ 0 → (a : ℕ) → a + get_or v (index b k) 0 ≡ weight (body p v) + y
      → t.excess +ℤ pos y ≡ pos a -ℤ pos (target p)
  heavier b k z a e =
      let w : ℕ = weight (body p v) in
      let f : w + y ≡ a = omega arith in
      ap (λ (x : ℤ). x +ℤ pos y) m.excess ∙ difference_more w (target p) y ∙ ap (λ (x : ℕ). pos x -ℤ pos (target p)) f

  pub summed_with : {i : ℕ} {d : Erased} → AtIndex p i d → y ≤ p.q → get_or v i 0 ≡ 0 → Summed p (set v i y) (sums_with p d y t)
  summed_with (in_body_lem b k l) h z =
      rw (plus_effect p (q_positive p s) true b k y h t.first, plus_effect p (q_positive p s) false b k y h t.second)
      (summed_moved p s n m b k y y (t.excess +ℤ pos y) l h (of_eq (ap (λ (x : ℕ). x + y) z ∙ zero-add y)) (heavier b k z))
  summed_with (as_check_lem b) h z = check_with b
