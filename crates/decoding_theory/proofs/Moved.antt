-- One changed symbol moves a syndrome by a multiple of one column, since a row of a component is a weighted sum over the word. The edition
-- is a sign of that multiple.
-- Assumes nothing.
use mathlib.Core.Path.{◌≡◌, refl, sym, ap, ◌∙◌}
use mathlib.Core.Bool.{Bool, true, false}
use mathlib.Core.List.{List}
use Prim.Native.Nat.{ℕ, zero, suc, ◌+◌, ◌-◌, ◌*◌, ◌%◌, ◌≤◌, ◌<◌}
use native.Mathlib.Nat.{le_refl, mul_comm, one-mul}
use native.Mathlib.Omega.{arith}
use lib.ListN.{length, get_or, set, length-set}
use Rattle.modular_theory.specs.Sum.{dot}
use Rattle.modular_theory.specs.Residue.{Congruent}
use Rattle.modular_theory.proofs.Residue.{of_eq, same, symm, ◌then◌, add, scale, multiple, cancel}
use Rattle.modular_theory.proofs.Sum.{dot_gain}
use Rattle.code_theory.specs.Parameters.{Edition, edition13, edition18, Parameters, in_edition}
use Rattle.code_theory.specs.Component.{check_row, syndrome}
use Rattle.code_theory.specs.Codeword.{differenced}
use Rattle.code_theory.proofs.Weights.{double, double_is, sign, later, dot_differenced, times_pred, weight_first_odd}
use Rattle.code_theory.proofs.Weights.{weight_second_odd, weight_first_even, weight_second_even}
use Rattle.code_theory.proofs.Columns.{entry}
use Rattle.code_theory.proofs.Moves.{row_weight}
use Rattle.decoding_theory.specs.Syndromes.{column_entry, moved, index, column_of, times, moved_of}
use Rattle.decoding_theory.specs.Decoded.{gain_by}
use Rattle.decoding_theory.proofs.Value.{tabulate_at, length_tabulate}
use Rattle.decoding_theory.proofs.Near.{Rows, rows_congruent}

-- the index among all positions, as the weights recur on it
pub index_odd : (k : ℕ) → index true k ≡ double k
index_odd k = sym (double_is k)

pub index_even : (k : ℕ) → index false k ≡ suc (double k)
index_even k = omega (arith, double_is k)

-- e times less a column is q - e times the column
pub less : (q a e : ℕ) → 1 ≤ q → e ≤ q → Congruent q ((q - 1) * a * e) ((q - e) * a)
less q a e h l =
    let f : (q - 1) * a * e + e * a ≡ 0 + a * e * q = omega (arith, times_pred q (a * e) h) in
    let k : q - e + e ≡ q = omega arith in
    let g : (q - e) * a + e * a ≡ 0 + a * q = omega (arith, ap (λ (x : ℕ). x * a) k) in
    cancel (e * a) (of_eq f then multiple q 0 (a * e) then symm (multiple q 0 a) then of_eq (sym g))

entry_is : (p : Parameters) (j a : ℕ) → column_entry p j a ≡ later (entry p j) a
entry_is p j zero = refl
entry_is p j (suc a) = refl

-- the rows of a component that gains g times column a
moved_rows_lem : {p : Parameters} {c S : List ℕ} (d : List ℕ) (g a : ℕ) → Rows p c S
    → ((j : ℕ) → j < p.r → Congruent p.q (dot (check_row p j) d) (dot (check_row p j) c + g * column_entry p j a))
    → Rows p d (moved p g a S)
unfolding moved syndrome
moved_rows_lem {p} {c} {S} d g a w h =
    record {
      long = rw length_tabulate (le_refl p.r);
      at = λ j l.
          tabulate_at (λ j. (get_or S j 0 + g * column_entry p j a) % p.q) p.r j l
          ∙ (add (rows_congruent w j l) (same (g * column_entry p j a)) then symm (h j l)).same;
    }

-- y is e more, mod q, than the symbol at index k of the parity b of a word of 2 n + 1
pub record Gain (p : Parameters) (w : List ℕ) (b : Bool) (k y e : ℕ) : Type 0 where
  pub long : length w ≡ suc (double p.n)
  pub within : index b k < length w
  pub small : e ≤ p.q
  pub gained : Congruent p.q (get_or w (index b k) 0 + e) y

module _ {p : Parameters} (h : 1 ≤ p.q) {w : List ℕ} {b : Bool} {k y e : ℕ} (m : Gain p w b k y e) where
  -- the syndrome of component c, where at that index its rows have the weights of column a, times g in place of e with the sign
  moved_by : (c : Bool) (g a : ℕ) {S : List ℕ}
      → ((j : ℕ) → Congruent p.q (row_weight p c j (index b k) * (sign p * e)) (g * column_entry p j a)) → Rows p (differenced p c w) S
      → Rows p (differenced p c (set w (index b k) y)) (moved p g a S)
  moved_by c g a f r =
      moved_rows_lem (differenced p c (set w (index b k) y)) g a r
      (λ j l.
      let row : ℕ → ℕ = check_row p j in
      let weights : ℕ → ℕ = row_weight p c j in
      let i : ℕ = index b k in
      let out : sign p * (dot weights w + weights i * e) ≡ sign p * dot weights w + weights i * (sign p * e) = omega arith in
      dot_differenced p h c row (set w i y) (length-set w i y ∙ m.long)
      then scale (sign p) (dot_gain weights w i y e m.within m.gained) then of_eq out
      then add (symm (dot_differenced p h c row w m.long)) (f j))

-- the weights of row j at index k of a parity
weight_at_lem : (p : Parameters) (c : Bool) (j : ℕ) {i i' x : ℕ} (e : ℕ) → i ≡ i' → row_weight p c j i' ≡ x → row_weight p c j i * e ≡ x * e
weight_at_lem p c j e f g = ap (λ (i : ℕ). row_weight p c j i * e) f ∙ ap (λ (x : ℕ). x * e) g

pub weight_times : (p : Parameters) → 1 ≤ p.q → (c b : Bool) (k e j : ℕ) → e ≤ p.q
    → Congruent p.q (row_weight p c j (index b k) * e) (times p c b e * column_entry p j (column_of c b k))
weight_times p h true true k e j l =
    of_eq (weight_at_lem p true j e (index_odd k) (weight_first_odd p (check_row p j) k)) then less p.q (entry p j k) e h l
weight_times p h true false k e j l =
    of_eq (weight_at_lem p true j e (index_even k) (weight_first_even p (check_row p j) k) ∙ mul_comm (entry p j k) e)
weight_times p h false true k e j l =
    of_eq
    (weight_at_lem p false j e (index_odd k) (weight_second_odd p (check_row p j) k ∙ sym (entry_is p j k))
    ∙ mul_comm (column_entry p j k) e)
weight_times p h false false k e j l =
    of_eq (weight_at_lem p false j e (index_even k) (weight_second_even p (check_row p j) k)) then less p.q (entry p j k) e h l

-- the sign by what the components gain
pub gain_small : (p : Parameters) (e : ℕ) → e ≤ p.q → gain_by p e ≤ p.q
gain_small p e l = go p.edition
  where
    go : (o : Edition) → gain_by (in_edition o p) e ≤ p.q
    go edition13 = l
    go edition18 = omega arith

pub sign_gain : (p : Parameters) (e : ℕ) → 1 ≤ p.q → e ≤ p.q → Congruent p.q (sign p * e) (gain_by p e)
sign_gain p e h l = go p.edition
  where
    go : (o : Edition) → Congruent p.q (sign (in_edition o p) * e) (gain_by (in_edition o p) e)
    go edition13 = of_eq (one-mul e)
    go edition18 =
        let f : (p.q - 1) * e ≡ (p.q - 1) * 1 * e = omega arith in
        let g : (p.q - e) * 1 ≡ p.q - e = omega arith in
        of_eq f then less p.q 1 e h l then of_eq g

pub moved_side : {p : Parameters} → 1 ≤ p.q → {w S : List ℕ} (c b : Bool) {k y e : ℕ} → Gain p w b k y e → Rows p (differenced p c w) S
    → Rows p (differenced p c (set w (index b k) y)) (moved_of p c b k (gain_by p e) S)
unfolding moved_of
moved_side {p} h c b {k} {y} {e} m r =
    moved_by h m c (times p c b (gain_by p e)) (column_of c b k)
    (λ j.
    scale (row_weight p c j (index b k)) (sign_gain p e h m.small)
    then weight_times p h c b k (gain_by p e) j (gain_small p e m.small))
    r
