-- Integrating a word: its sums, and each of them mod q.
-- Assumes nothing.
use mathlib.Core.Path.{◌≡◌, sym, ap, ◌∙◌}
use mathlib.Core.List.{List, [], ◌∷◌}
use Prim.Native.Nat.{ℕ, zero, suc, ◌+◌, ◌*◌, ◌%◌, ◌≤◌, ◌<◌}
use native.Mathlib.Nat.{not-suc-le-zero, le_of_suc-le-suc, le_refl, mod-lt}
use native.Mathlib.Numerals.{add-one}
use native.Mathlib.Omega.{arith}
use lib.ListN.{length, get_or, take, set}
use lib.Seq.{get_or-take, take-take, ext_get_or, length-take-le}
use Rattle.modular_theory.specs.Sum.{weight}
use Rattle.modular_theory.proofs.Residue.{of_eq, same, add, reduce, ◌then◌}
use Rattle.code_theory.specs.Balance.{integrate}
use Rattle.code_theory.proofs.Shifted.{length_integrate}
use Rattle.modular.specs.Remainder.{residues_of}
use Rattle.modular.proofs.Filling.{FilledTo, filled_more}
use Rattle.modular.proofs.Dividing.{residue_is, residue_at_lem, residues_long}
use Rattle.symbols.proofs.Words.{weight_take}
use Rattle.encoder.specs.Symbols.{SymbolArray, PrefixSums}

-- The sums.

-- those up to i are written, and `sum` is the last
pub record PrefixSumming (x sums : List ℕ) (sum i : ℕ) : Type 0 where
  pub is : sum ≡ weight (take i x)
  pub small : sum ≤ 255 * i
  pub written : FilledTo (λ k. weight (take (suc k) x)) 97 sums i

pub prefix_more : {x sums : List ℕ} {sum i : ℕ} → PrefixSumming x sums sum i → i < 97 → {y : ℕ} → y ≡ get_or x i 0 → y ≤ 255
    → PrefixSumming x (set sums i (sum + y)) (sum + y) (i + 1)
prefix_more {x} {sums} {sum} {i} s l {y} e b =
    let is : sum + y ≡ weight (take (suc i) x) = omega (arith, s.is, weight_take i x) in
    record { is = rw add-one is; small = omega (arith, s.small); written = filled_more s.written l is }

-- The integral.

integrate_at : (q a : ℕ) (x : List ℕ) (i : ℕ) → i < length x → get_or (integrate q a x) i 0 ≡ (a + weight (take (suc i) x)) % q
integrate_at q a [] i l = absurd (not-suc-le-zero l)
integrate_at q a (x ∷ xs) zero l = let e : a + x ≡ a + (x + 0) = omega arith in ap (λ (n : ℕ). n % q) e
integrate_at q a (x ∷ xs) (suc i) l =
    let w : ℕ = weight (take (suc i) xs) in
    let e : a + x + w ≡ a + (x + w) = omega arith in
    integrate_at q ((a + x) % q) xs i (le_of_suc-le-suc l) ∙ (add (reduce q (a + x)) (same w) then of_eq e).same

module _ {q m : ℕ} {x sums d : List ℕ} (s : SymbolArray q m x) (w : PrefixSums m x sums)
    (r : d ≡ residues_of q (λ i. get_or sums i 0) 97) where
  at : (i : ℕ) → i < 97 → get_or d i 0 ≡ get_or sums i 0 % q
  at i h = rw (r, residue_at_lem q (λ i. get_or sums i 0) 97 i h) (residue_is (get_or sums i 0) s.some)

  size : length d ≡ 97
  size = rw r (residues_long q (λ i. get_or sums i 0) 97)

  pub integral_is : take m d ≡ integrate q 0 (take m x)
  integral_is =
      let n : length (take m d) ≡ m = length-take-le m d (omega (arith, s.room, size)) in
      let o : length (take m x) ≡ m = length-take-le m x (omega (arith, s.room, s.size)) in
      ext_get_or 0 (take m d) (integrate q 0 (take m x)) (n ∙ sym (length_integrate q 0 (take m x) ∙ o))
      (λ i l.
      let h : i < m = omega arith in
      let j : i < length (take m x) = omega arith in
      let z : weight (take (suc i) x) ≡ 0 + weight (take (suc i) x) = omega arith in
      get_or-take m d i 0 h
      ∙ at i (omega (arith, s.room))
      ∙ ap (λ (n : ℕ). n % q) (w.at i h ∙ z)
      ∙ sym (integrate_at q 0 (take m x) i j ∙ ap (λ (t : List ℕ). (0 + weight t) % q) (take-take (suc i) m x h)))

  -- all of the array holds symbols
  pub integral_symbols : SymbolArray q 97 d
  integral_symbols =
      record {
        size = size;
        some = s.some;
        levels = s.levels;
        room = le_refl 97;
        below = λ i h. rw (at i h) (mod-lt (get_or sums i 0) s.some);
      }
