-- Sums of shifted words, a symbol at a time.
-- Assumes nothing.
use mathlib.Core.Path.{◌≡◌, refl, sym, ap, ap₂, ◌∙◌}
use mathlib.Core.List.{List, [], ◌∷◌}
use Prim.Native.Nat.{ℕ, zero, suc, ◌+◌, ◌-◌, ◌*◌, ◌%◌, ◌≤◌, ◌<◌, max, zero-le}
use native.Mathlib.Nat.{le_of_suc-le-suc, not-suc-le-zero, mod-lt, mul-le-mul, suc-mul, max_comm, min-le_right}
use native.Mathlib.Omega.{arith}
use lib.ListN.{length, get_or, take, drop, length-take, length-drop}
use lib.Seq.{length-take-le, get_or-take}
use Rattle.modular_theory.specs.Sum.{weight}
use Rattle.code_theory.specs.Balance.{shifted, shifted_from}
use Rattle.code_theory.specs.RunningSum.{largest}
use Rattle.code_theory.proofs.Balance.{weight_step}
use Rattle.symbols.proofs.Words.{weight_take}
use Rattle.peaks_theory.proofs.Shift.{length_shifted, length_shifted_from}
use Rattle.peaks_theory.specs.Costs.{gap, size_of, prefix_peak, suffix_peak}
use Rattle.peaks.specs.Sums.{zero_sum, Summed, SymbolsFit}

-- Shifted words.

pub shifted_at : (q s i : ℕ) (d : List ℕ) → i < length d → get_or (shifted q s d) i 0 ≡ (get_or d i 0 + s) % q
shifted_at q s i [] l = absurd (not-suc-le-zero l)
shifted_at q s zero (a ∷ d) l = refl
shifted_at q s (suc i) (a ∷ d) l = shifted_at q s i d (le_of_suc-le-suc l)

take_shifted : (q s i : ℕ) (d : List ℕ) → take i (shifted q s d) ≡ shifted q s (take i d)
take_shifted q s zero d = refl
take_shifted q s (suc i) [] = refl
take_shifted q s (suc i) (a ∷ d) = ap (λ (u : List ℕ). (a + s) % q ∷ u) (take_shifted q s i d)

pub drop_shifted : (q s i : ℕ) (d : List ℕ) → drop i (shifted q s d) ≡ shifted q s (drop i d)
drop_shifted q s zero d = refl
drop_shifted q s (suc i) [] = refl
drop_shifted q s (suc i) (a ∷ d) = drop_shifted q s i d

-- The word that is searched.
module _ {q m : ℕ} {d : List ℕ} (a : SymbolsFit q m d) where
  pub word_size : length (take m d) ≡ m
  word_size = length-take-le m d (omega (arith, a.size, a.room))

  pub word_at : (k : ℕ) → k < m → get_or d k 0 ≡ get_or (take m d) k 0
  word_at k h = sym (get_or-take m d k 0 h)

-- a word that has no symbol above h in the mean, and 97 symbols at most
pub record Light (h : ℕ) (u : List ℕ) : Type 0 where
  pub light : weight u ≤ length u * h
  pub short : length u ≤ 97

module _ {q : ℕ} (some : 1 ≤ q) where
  level : (n : ℕ) → n % q ≤ q - 1
  level n = omega (arith, mod-lt n some)

  shifted_light : (s : ℕ) (d : List ℕ) → weight (shifted q s d) ≤ length (shifted q s d) * (q - 1)
  shifted_light s [] = zero-le
  shifted_light s (a ∷ d) = omega (arith, level (a + s), shifted_light s d, suc-mul (length (shifted q s d)) (q - 1))

  from_light : (s i : ℕ) (d : List ℕ) → weight (shifted_from q s i d) ≤ length (shifted_from q s i d) * (q - 1)
  from_light s zero d = shifted_light (suc s) d
  from_light s (suc i) [] = zero-le
  from_light s (suc i) (a ∷ d) = omega (arith, level (a + s), from_light s i d, suc-mul (length (shifted_from q s i d)) (q - 1))

  module _ (d : List ℕ) (short : length d ≤ 97) where
    pub light_shifted : (s : ℕ) → Light (q - 1) (shifted q s d)
    light_shifted s = record { light = shifted_light s d; short = rw (length_shifted q s d) short }

    pub light_from : (s i : ℕ) → Light (q - 1) (shifted_from q s i d)
    light_from s i = record { light = from_light s i d; short = rw (length_shifted_from q s i d) short }

  pub light_take : (d : List ℕ) → length d ≤ 97 → (s i : ℕ) → Light (q - 1) (take i (shifted q s d))
  light_take d short s i =
      rw (take_shifted q s i d) (light_shifted (take i d) (omega (arith, short, length-take i d, min-le_right i (length d))) s)

  pub light_drop : (d : List ℕ) → length d ≤ 97 → (s i : ℕ) → Light (q - 1) (drop i (shifted q s d))
  light_drop d short s i = rw (drop_shifted q s i d) (light_shifted (drop i d) (omega (arith, short, length-drop i d)) s)

-- Sums.

-- with eight levels a sum moves by 679 at most
pub most : {h : ℕ} {u : List ℕ} → h ≤ 7 → Light h u → length u * h ≤ 679
most few l = mul-le-mul l.short few

module _ {h : ℕ} {u : List ℕ} {s : ℕ} (a : Summed h u s) where
  pub summed_room : h ≤ 7 → Light h u → (1369 ≤ s) × (s ≤ 2727)
  summed_room few l =
      (omega (arith, most few l, l.light, a.is), omega (arith, most few l, l.light, a.is))

  pub summed_size : gap s zero_sum ≡ size_of h u
  summed_size = omega (arith, a.is)

pub summed_none : (h : ℕ) → Summed h [] zero_sum
summed_none h = record { is = omega arith }

-- one symbol more in front, and at the end
pub summed_cons : {h y s r : ℕ} {u : List ℕ} → Summed h u s → h ≤ s + 2 * y → r ≡ s + 2 * y - h → Summed h (y ∷ u) r
summed_cons {h} {y} {s} {r} {u} a room e = record { is = omega (arith, a.is, suc-mul (length u) h) }

pub summed_more : {h s r : ℕ} (u : List ℕ) (i : ℕ) → i < length u → Summed h (take i u) s → h ≤ s + 2 * get_or u i 0
    → r ≡ s + 2 * get_or u i 0 - h → Summed h (take (suc i) u) r
summed_more {h} {s} {r} u i l a room e =
    let was : length (take i u) ≡ i = length-take-le i u (omega arith) in
    let now : length (take (suc i) u) ≡ suc i = length-take-le (suc i) u l in
    record {
      is =
          let b : s + i * h ≡ zero_sum + 2 * weight (take i u) = rw was at a.is in
          rw now (omega (arith, b, suc-mul i h, weight_take i u));
    }

-- the sum of a whole word as the index passes a symbol
pub summed_passed : {h : ℕ} (q t i : ℕ) (w : List ℕ) → i < length w → {s r : ℕ} → Summed h (shifted_from q t i w) s
    → 2 * ((get_or w i 0 + suc t) % q) ≤ s + 2 * ((get_or w i 0 + t) % q)
    → r ≡ s + 2 * ((get_or w i 0 + t) % q) - 2 * ((get_or w i 0 + suc t) % q) → Summed h (shifted_from q t (suc i) w) r
summed_passed {h} q t i w l {s} {r} a room e =
    let was : s + length w * h ≡ zero_sum + 2 * weight (shifted_from q t i w) = rw (length_shifted_from q t i w) at a.is in
    record { is = rw (length_shifted_from q t (suc i) w) (omega (arith, was, weight_step q t i w l)) }

-- Peaks.

max_assoc : (a b c : ℕ) → max a (max b c) ≡ max (max a b) c
max_assoc a b c = omega arith

largest_more : (f : ℕ → ℕ) (n : ℕ) → largest f (suc n) ≡ max (largest f n) (f (suc n))
largest_more f zero = max_comm (f 1) 0
largest_more f (suc n) = ap (max (f 1)) (largest_more (λ i. f (suc i)) n) ∙ max_assoc (f 1) (largest (λ i. f (suc i)) n) (f (suc (suc n)))

pub head_more : {h p s r : ℕ} (u : List ℕ) (i : ℕ) → p ≡ prefix_peak h u i → Summed h (take (suc i) u) s → r ≡ max p (gap s zero_sum)
    → r ≡ prefix_peak h u (suc i)
head_more {h} u i e a g = g ∙ ap₂ max e (summed_size a) ∙ sym (largest_more (λ j. size_of h (take j u)) i)

pub tail_more : {h p s r y : ℕ} {u : List ℕ} → p ≡ suffix_peak h u → Summed h (y ∷ u) s → r ≡ max p (gap s zero_sum)
    → r ≡ suffix_peak h (y ∷ u)
tail_more {h} {p} {y = y} {u} e a g = g ∙ ap₂ max e (summed_size a) ∙ max_comm (suffix_peak h u) (size_of h (y ∷ u))
