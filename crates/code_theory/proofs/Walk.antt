-- Both editions' choices run through one walk: w of a choice is a shift of the walked word, or in edition 18 the complement of one. So one
-- weighs half of the highest weight where the other does, and for the components of a pair both editions walk the same word.
-- Assumes nothing.
use mathlib.Core.Path.{◌≡◌, refl, sym, ap, ap₂, ◌∙◌}
use mathlib.Core.List.{List, [], ◌∷◌, ◌++◌, head-eq_of_cons-eq}
use Prim.Native.Nat.{ℕ, zero, suc, ◌+◌, ◌-◌, ◌*◌, ◌%◌, ◌≤◌, ◌<◌}
use native.Mathlib.Nat.{mod-lt}
use native.Mathlib.Omega.{arith}
use lib.ListN.{length, length-map}
use Rattle.modular_theory.specs.Sum.{weight}
use Rattle.modular_theory.specs.Residue.{Congruent, minus}
use Rattle.modular_theory.proofs.Residue.{◌then◌, of_eq, same, symm, reduce, add, multiple, small, cancel, minus_add, minus_below}
use Rattle.code_theory.specs.Parameters.{Edition, edition13, edition18, Parameters, in_edition}
use Rattle.code_theory.specs.Balance.{add_before, integrate, integrate_from_end, shifted, shifted_from, with_zero, choice, chosen}
use Rattle.code_theory.specs.Walk.{negated, complement, walked, shift_of, unwalked}
use Rattle.code_theory.proofs.Delta.{sum_exact}
use Rattle.code_theory.proofs.Shifted.{chosen_shifted, length_integrate}
use Rattle.code_theory.proofs.FromEnd.{shifted_upto, length_from_end, choice_upto}

-- The complement of a shift is a shift of the negated word.

-- a symbol shifted by s and its negative shifted by t, where s and t make q - 1
complement_symbol : (q a s t : ℕ) → 1 ≤ q → Congruent q (s + t + 1) 0 → (a + s) % q ≡ q - 1 - (minus q 0 a + t) % q
complement_symbol q a s t h k =
    let b : ℕ = minus q 0 a in
    let e : a + s + (b + t) + 1 ≡ b + a + (s + t + 1) = omega arith in
    let f : q - 1 + 1 ≡ 0 + 1 * q = omega arith in
    let g : (a + s) % q + (b + t) % q ≡ q - 1 =
    sum_exact q ((a + s) % q) ((b + t) % q) (mod-lt (a + s) h) (mod-lt (b + t) h)
    (add (reduce q (a + s)) (reduce q (b + t))
    then cancel 1 (of_eq e then add (minus_add q 0 a h) k then symm (multiple q 0 1) then of_eq (sym f))) in
    omega arith

complement_shifted : (q s t : ℕ) (d : List ℕ) → 1 ≤ q → Congruent q (s + t + 1) 0 → shifted q s d ≡ complement q (shifted q t (negated q d))
complement_shifted q s t [] h k = refl
complement_shifted q s t (a ∷ d) h k = ap₂ ◌∷◌ (complement_symbol q a s t h k) (complement_shifted q s t d h k)

complement_upto : (q s t i : ℕ) (d : List ℕ) → 1 ≤ q → Congruent q (s + suc t + 1) 0
    → shifted_upto q s i d ≡ complement q (shifted_from q t i (negated q d))
complement_upto q s t zero d h k = complement_shifted q s (suc t) d h k
complement_upto q s t (suc i) [] h k = refl
complement_upto q s t (suc i) (a ∷ d) h k =
    let e : suc s + t + 1 ≡ s + suc t + 1 = omega arith in
    ap₂ ◌∷◌ (complement_symbol q a (suc s) t h (of_eq e then k)) (complement_upto q s t i d h k)

-- s and its shift in edition 18
shift_sum : (q s : ℕ) → 1 ≤ q → Congruent q (s + suc (minus q (q - 1) (suc s)) + 1) 0
shift_sum q s h =
    let t : ℕ = minus q (q - 1) (suc s) in
    let e : s + suc t + 1 ≡ t + suc s + 1 = omega arith in
    let f : q - 1 + 1 ≡ 0 + 1 * q = omega arith in
    of_eq e then add (minus_add q (q - 1) (suc s) h) (same 1) then of_eq f then multiple q 0 1

module _ (p : Parameters) (h : 1 ≤ p.q) where
  pub chosen_walked : (x : List ℕ) (s i : ℕ) → i < length x
      → chosen p x s (choice p i) ≡ unwalked p (shifted_from p.q (shift_of p s) i (walked p x))
  unfolding chosen
  chosen_walked x s i l = go p.edition
    where
      go : (e : Edition)
          → let r : Parameters = in_edition e p in
          chosen r x s (choice r i) ≡ unwalked r (shifted_from p.q (shift_of r s) i (walked r x))
      go edition13 = chosen_shifted p x s i l
      go edition18 =
          choice_upto (in_edition edition18 p) s x i l
          ∙ complement_upto p.q s (shift_of (in_edition edition18 p) s) i (integrate_from_end p.q x) h (shift_sum p.q s h)

  pub length_walked : (x : List ℕ) → length (walked p x) ≡ length x
  length_walked x = go p.edition
    where
      go : (e : Edition) → length (walked (in_edition e p) x) ≡ length x
      go edition13 = length_integrate p.q 0 x
      go edition18 = length-map (integrate_from_end p.q x) (minus p.q 0) ∙ length_from_end p.q x

  pub shift_below : (s : ℕ) → s < p.q → shift_of p s < p.q
  shift_below s l = go p.edition
    where
      go : (e : Edition) → shift_of (in_edition e p) s < p.q
      go edition13 = l
      go edition18 = minus_below p.q (p.q - 1) (suc s) h

  -- every shift is one of these
  pub shift_met : (t : ℕ) → t < p.q → (s : ℕ) × (s < p.q) × (shift_of p s ≡ t)
  shift_met t l = go p.edition
    where
      q : ℕ
      q = p.q

      go : (e : Edition) → (s : ℕ) × (s < q) × (shift_of (in_edition e p) s ≡ t)
      go edition13 = (t, l, refl)
      go edition18 =
          let s : ℕ = minus q (q - 1) (suc t) in
          let f : t + suc s ≡ s + suc t = omega arith in (
            s,
            minus_below q (q - 1) (suc t) h,
            small (minus_below q (q - 1) (suc s) h) l
                (cancel (suc s) (minus_add q (q - 1) (suc s) h then symm (minus_add q (q - 1) (suc t) h) then of_eq (sym f))),
          )

-- Weights.

weight_complement : (q t : ℕ) (d : List ℕ) → 1 ≤ q → weight (complement q (shifted q t d)) + weight (shifted q t d) ≡ length d * (q - 1)
weight_complement q t [] h = omega arith
weight_complement q t (a ∷ d) h = omega (arith, weight_complement q t d h, mod-lt (a + t) h)

weight_complement_from : (q t i : ℕ) (d : List ℕ) → 1 ≤ q
    → weight (complement q (shifted_from q t i d)) + weight (shifted_from q t i d) ≡ length d * (q - 1)
weight_complement_from q t zero d h = weight_complement q (suc t) d h
weight_complement_from q t (suc i) [] h = omega arith
weight_complement_from q t (suc i) (a ∷ d) h = omega (arith, weight_complement_from q t i d h, mod-lt (a + t) h)

-- A has half of the highest weight exactly where B has
pub record Together (A B w : ℕ) : Type 0 where
  pub to : A ≡ w → B ≡ w
  pub from : B ≡ w → A ≡ w

pub halves_together : (p : Parameters) → 1 ≤ p.q → (d : List ℕ) (t i w : ℕ) → length d * (p.q - 1) ≡ 2 * w
    → Together (weight (unwalked p (shifted_from p.q t i d))) (weight (shifted_from p.q t i d)) w
halves_together p h d t i w m = go p.edition
  where
    go : (e : Edition) → Together (weight (unwalked (in_edition e p) (shifted_from p.q t i d))) (weight (shifted_from p.q t i d)) w
    go edition13 = record { to = λ g. g; from = λ g. g }
    go edition18 =
        let k = weight_complement_from p.q t i d h in
        record { to = λ g. omega (arith, k, g); from = λ g. omega (arith, k, g) }

-- The walked word of a pair: the sums from the end are the negatives of those from the front, where all symbols sum to 0 mod q.

negative_unique : (q a b : ℕ) → 1 ≤ q → Congruent q (a + b) 0 → minus q 0 b ≡ a % q
negative_unique q a b h e =
    small (minus_below q 0 b h) (mod-lt a h) (cancel b (minus_add q 0 b h then symm e then add (symm (reduce q a)) (same b)))

-- a symbol x before the word l, whose negated first symbol is the sum so far and x
before_negated : (q a x : ℕ) (l z : List ℕ) → 1 ≤ q → negated q l ≡ (a % q + x) % q ∷ z
    → negated q (add_before q x l) ≡ a % q ∷ (a % q + x) % q ∷ z
before_negated q a x [] z h e = absurd (omega (arith, ap length e))
before_negated q a x (w ∷ l) z h e =
    let first : minus q 0 w ≡ (a % q + x) % q = head-eq_of_cons-eq e in
    let f : a + (w + x) ≡ a + x + w = omega arith in
    ap₂ ◌∷◌
    (negative_unique q a ((w + x) % q) h
    (add (same a) (reduce q (w + x)) then of_eq f then add (add (symm (reduce q a)) (same x)) (same w)
    then add (symm (reduce q (a % q + x)) then of_eq (sym first)) (same w) then minus_add q 0 w h))
    e

from_end_negated : (q a : ℕ) (z : List ℕ) → 1 ≤ q → Congruent q (a + weight z) 0
    → negated q (integrate_from_end q (z ++ (0 ∷ []))) ≡ a % q ∷ integrate q (a % q) z
from_end_negated q a [] h k = ap (λ (t : ℕ). t ∷ []) (negative_unique q a (0 % q) h (add (same a) (reduce q 0) then k))
from_end_negated q a (x ∷ z) h k =
    let e : a + x + weight z ≡ a + (x + weight z) = omega arith in
    before_negated q a x (integrate_from_end q (z ++ (0 ∷ []))) (integrate q ((a % q + x) % q) z) h
    (from_end_negated q (a % q + x) z h (add (add (reduce q a) (same x)) (same (weight z)) then of_eq e then k))

pub walked_zero_first : (p : Parameters) → 1 ≤ p.q → (z : List ℕ) → Congruent p.q (weight z) 0
    → walked p (with_zero p z) ≡ integrate p.q 0 (0 ∷ z)
walked_zero_first p h z k = go p.edition
  where
    go : (e : Edition) → walked (in_edition e p) (with_zero (in_edition e p) z) ≡ integrate p.q 0 (0 ∷ z)
    go edition13 = refl
    go edition18 = let e : 0 + 0 + weight z ≡ weight z = omega arith in from_end_negated p.q (0 + 0) z h (of_eq e then k)
