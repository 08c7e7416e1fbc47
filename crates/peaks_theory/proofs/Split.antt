-- The peak of a balanced word, from its two parts: at any position the sum so far is minus that of the rest, so its size is the rest's.
-- Assumes nothing.
use mathlib.Core.Path.{◌≡◌, refl, sym, ap, ap₂, ◌∙◌}
use mathlib.Core.Bool.{Bool, true, false, cond}
use mathlib.Core.List.{List, [], ◌∷◌, ◌++◌}
use Prim.Native.Nat.{ℕ, zero, suc, ◌+◌, ◌-◌, ◌*◌, ◌≤◌, ◌<◌, max, zero-le, suc-le-suc}
use native.Mathlib.Nat.{zero-add, zero-max, max-zero}
use native.Mathlib.Omega.{arith}
use borrow.Author.Tests.{ltb-true, ltb-false}
use lib.Dec.{ltb}
use lib.IntN.{pos, negsuc, ◌-ℤ◌, nat_abs}
use lib.ListN.{length, take}
use lib.Seq.{length-take-le}
use Rattle.modular_theory.specs.Sum.{weight}
use Rattle.code_theory.specs.RunningSum.{running_digital_sum, largest, peak}
use Rattle.peaks_theory.specs.Costs.{gap, size_of, prefix_peak, suffix_peak}

-- Sizes.

size_case : (a b : ℕ) (t : Bool) → ltb a (suc b) ≡ t → nat_abs (cond t (negsuc (suc b - suc a)) (pos (a - suc b))) ≡ gap a (suc b)
size_case a b true e = let k : a < suc b = ltb-true a (suc b) e in omega arith
size_case a b false e = let k : suc b ≤ a = ltb-false a (suc b) e in omega arith

-- the size of a difference of naturals
size : (a b : ℕ) → nat_abs (pos a -ℤ pos b) ≡ gap a b
size a zero = omega arith
size a (suc b) = size_case a b (ltb a (suc b)) refl

-- a - c is d - b, so they have one size
pub mirrored : (a b c d : ℕ) → a + b ≡ c + d → gap a c ≡ gap b d
mirrored a b c d e = omega arith

pub gap_self : (a b : ℕ) → a ≡ b → gap a b ≡ 0
gap_self a b e = omega arith

-- The largest of a run.

pub largest_same : (f g : ℕ → ℕ) (n : ℕ) → ((i : ℕ) → i < n → f (suc i) ≡ g (suc i)) → largest f n ≡ largest g n
largest_same f g zero e = refl
largest_same f g (suc n) e =
    ap₂ max (e 0 (suc-le-suc zero-le)) (largest_same (λ i. f (suc i)) (λ i. g (suc i)) n (λ i l. e (suc i) (suc-le-suc l)))

-- The peak by recursion on the word.

-- the largest size over the positions of u, where the sum before it is a - c
abbrev pub peak_from : ℕ → ℕ → ℕ → List ℕ → ℕ
peak_from h a c [] = 0
peak_from h a c (y ∷ u) = max (gap (a + 2 * y) (c + h)) (peak_from h (a + 2 * y) (c + h) u)

-- the size after u, where the sum before it is a - c
abbrev after : ℕ → ℕ → ℕ → List ℕ → ℕ
after h a c u = gap (a + 2 * weight u) (c + length u * h)

after_cons : (h a c y : ℕ) (u : List ℕ) → after h a c (y ∷ u) ≡ after h (a + 2 * y) (c + h) u
after_cons h a c y u =
    let e : a + 2 * (y + weight u) ≡ a + 2 * y + 2 * weight u = omega arith in
    let f : c + suc (length u) * h ≡ c + h + length u * h = omega arith in
    ap₂ gap e f

after_none : (h a c : ℕ) → after h a c [] ≡ gap a c
after_none h a c =
    let e : a + 2 * 0 ≡ a = omega arith in
    let f : c + 0 * h ≡ c = omega arith in
    ap₂ gap e f

peak_from_lem : (h a c : ℕ) (u : List ℕ) → largest (λ i. after h a c (take i u)) (length u) ≡ peak_from h a c u
peak_from_lem h a c [] = refl
peak_from_lem h a c (y ∷ u) =
    ap₂ max (after_cons h a c y [] ∙ after_none h (a + 2 * y) (c + h))
    (largest_same (λ i. after h a c (y ∷ take i u)) (λ i. after h (a + 2 * y) (c + h) (take i u)) (length u)
    (λ i l. after_cons h a c y (take (suc i) u))
    ∙ peak_from_lem h (a + 2 * y) (c + h) u)

pub prefix_from : (h : ℕ) (u : List ℕ) → prefix_peak h u (length u) ≡ peak_from h 0 0 u
prefix_from h u =
    largest_same (λ i. size_of h (take i u)) (λ i. after h 0 0 (take i u)) (length u)
    (λ i l. sym (ap₂ gap (zero-add (2 * weight (take (suc i) u))) (zero-add (length (take (suc i) u) * h))))
    ∙ peak_from_lem h 0 0 u

pub peak_prefix : (q : ℕ) (u : List ℕ) → peak q u ≡ prefix_peak (q - 1) u (length u)
unfolding peak running_digital_sum
peak_prefix q u =
    largest_same (λ i. nat_abs (pos (2 * weight (take i u)) -ℤ pos (i * (q - 1)))) (λ i. size_of (q - 1) (take i u)) (length u)
    (λ i l.
    size (2 * weight (take (suc i) u)) (suc i * (q - 1))
    ∙ ap (λ (n : ℕ). gap (2 * weight (take (suc i) u)) (n * (q - 1))) (sym (length-take-le (suc i) u l)))

-- The two parts.

-- where a - c and the sum of v come to 0, the sizes from a - c on through v are those of v and what is left of it
suffix_from : (h a c : ℕ) (v : List ℕ) → a + 2 * weight v ≡ c + length v * h → max (gap a c) (peak_from h a c v) ≡ suffix_peak h v
suffix_from h a c [] e = max-zero (gap a c) ∙ gap_self a c (omega arith)
suffix_from h a c (y ∷ v) e =
    let f : a + 2 * y + 2 * weight v ≡ c + h + length v * h = omega arith in
    ap₂ max (mirrored a (2 * weight (y ∷ v)) c (suc (length v) * h) e) (suffix_from h (a + 2 * y) (c + h) v f)

parts_none : (a b s : ℕ) → max a b ≡ s → max a b ≡ max (max a 0) s
parts_none a b s e = omega arith

max_assoc : (a b c : ℕ) → max (max a b) c ≡ max a (max b c)
max_assoc a b c = omega arith

-- and with those of u before them
parts : (h a c : ℕ) (u v : List ℕ) → a + 2 * weight (u ++ v) ≡ c + length (u ++ v) * h
    → max (gap a c) (peak_from h a c (u ++ v)) ≡ max (max (gap a c) (peak_from h a c u)) (suffix_peak h v)
parts h a c [] v e = parts_none (gap a c) (peak_from h a c v) (suffix_peak h v) (suffix_from h a c v e)
parts h a c (y ∷ u) v e =
    let f : a + 2 * y + 2 * weight (u ++ v) ≡ c + h + length (u ++ v) * h = omega arith in
    ap (max (gap a c)) (parts h (a + 2 * y) (c + h) u v f)
    ∙ sym (max_assoc (gap a c) (peak_from h a c (y ∷ u)) (suffix_peak h v))

pub split : (q : ℕ) (u v : List ℕ) → 2 * weight (u ++ v) ≡ length (u ++ v) * (q - 1)
    → peak q (u ++ v) ≡ max (prefix_peak (q - 1) u (length u)) (suffix_peak (q - 1) v)
split q u v e =
    let h : ℕ = q - 1 in
    let f : 0 + 2 * weight (u ++ v) ≡ 0 + length (u ++ v) * h = omega arith in
    peak_prefix q (u ++ v)
    ∙ prefix_from h (u ++ v)
    ∙ sym (zero-max (peak_from h 0 0 (u ++ v)))
    ∙ parts h 0 0 u v f
    ∙ ap (λ (n : ℕ). max n (suffix_peak h v)) (zero-max (peak_from h 0 0 u) ∙ sym (prefix_from h u))
