-- The four rows moved by a column, given by its digits, and the syndromes so moved.
-- Assumes nothing.
use mathlib.Core.Path.{◌≡◌, sym, ap, ap₂, ◌∙◌}
use mathlib.Core.Bool.{true, false}
use mathlib.Core.List.{List, [], ◌∷◌}
use Prim.Native.Nat.{ℕ, zero, suc, ◌+◌, ◌-◌, ◌*◌, ◌/◌, ◌%◌, ◌≤◌, ◌<◌}
use native.Mathlib.Numerals.{add-one}
use native.Mathlib.Omega.{arith}
use lib.ListN.{get_or}
use Rattle.modular_theory.specs.Digits.{digits}
use Rattle.code_theory.specs.Parameters.{Parameters}
use Rattle.code_theory.proofs.Columns.{q_positive}
use Rattle.decoding_theory.specs.Syndromes.{near_syndromes, moved, moved_of}
use Rattle.modular.specs.Remainder.{residue}
use Rattle.modular.proofs.Dividing.{residue_is}
use Rattle.profiles.specs.declared.row.Row.{Row}
use Rattle.profiles.specs.Row.{parameters, Valid}
use Rattle.symbols.specs.declared.sums.Syndrome.{Syndrome}
use Rattle.symbols.specs.Syndromes.{rows}
use Rattle.syndromes.specs.Plus.{syndrome_plus}
use Rattle.syndromes.specs.Rows.{FourRows, rows_of, Moved}
use Rattle.syndromes.proofs.Moving.{moved_some}
use Rattle.locating_theory.specs.ErrorPosition.{near_with}

module _ (t : Row) (v : Valid t) (s : Syndrome) (w : FourRows t (rows s)) (f a : ℕ) (some : 1 ≤ a) (within : a ≤ t.n) {c : Syndrome}
    (column : rows c ≡ a % t.q ∷ a / t.q % t.q ∷ a / t.q / t.q % t.q ∷ 1 ∷ []) {r : Syndrome}
    (e : r ≡ syndrome_plus t.q f c s) where
  -- row j of the column
  digit : ℕ → ℕ
  digit j = get_or (digits t.q 3 a) j 0

  row_is : {d : ℕ} (x y : ℕ) → y ≡ d → residue t.q (x + f * y) ≡ (x + f * d) % t.q
  row_is x y g = residue_is (x + f * y) (q_positive (parameters t) v.sized) ∙ ap (λ (z : ℕ). (x + f * z) % t.q) g

  rows_moved : (j : ℕ) → j < 3 → get_or (rows r) j 0 ≡ (get_or (rows s) j 0 + f * digit j) % t.q
  unfolding digit
  rows_moved zero l = ap (λ (r : Syndrome). r.low) e ∙ row_is s.low c.low (ap (λ (x : List ℕ). get_or x 0 0) column)
  rows_moved (suc zero) l = ap (λ (r : Syndrome). r.mid) e ∙ row_is s.mid c.mid (ap (λ (x : List ℕ). get_or x 1 0) column)
  rows_moved (suc (suc zero)) l = ap (λ (r : Syndrome). r.high) e ∙ row_is s.high c.high (ap (λ (x : List ℕ). get_or x 2 0) column)
  rows_moved (suc (suc (suc j))) l = absurd (omega arith)

  ones_moved : get_or (rows r) 3 0 ≡ (get_or (rows s) 3 0 + f * 1) % t.q
  ones_moved = ap (λ (r : Syndrome). r.ones) e ∙ row_is s.ones c.ones (ap (λ (x : List ℕ). get_or x 3 0) column)

  pub moved_by : Moved t f a (rows s) (rows r)
  unfolding digit
  moved_by =
      let i : a - 1 < t.n = omega arith in
      let g : a ≡ suc (a - 1) = omega arith in
      let m = moved_some t v (rows s) w f (a - 1) i digit (λ j. ap (λ (x : ℕ). get_or (digits t.q 3 x) j 0) g) (rows r)
      rows_moved ones_moved in
      record { levels = m.levels; are = m.are ∙ ap (λ (x : ℕ). moved (parameters t) f x (rows_of t (rows s))) (sym g) }

-- The syndromes, moved at index k.

module _ (p : Parameters) (g k : ℕ) (S S' : List ℕ) {A B : List ℕ} where
  pub near_odd : A ≡ moved p (p.q - g) (k + 1) S → B ≡ moved p g k S' → near_syndromes p A B ≡ near_with p true g S S' k
  unfolding near_with moved_of
  near_odd a b = ap₂ (near_syndromes p) (a ∙ ap (λ (x : ℕ). moved p (p.q - g) x S) (add-one k)) b

  pub near_even : A ≡ moved p g (k + 1) S → B ≡ moved p (p.q - g) (k + 1) S' → near_syndromes p A B ≡ near_with p false g S S' k
  unfolding near_with moved_of
  near_even a b =
      ap₂ (near_syndromes p) (a ∙ ap (λ (x : ℕ). moved p g x S) (add-one k)) (b ∙ ap (λ (x : ℕ). moved p (p.q - g) x S') (add-one k))
