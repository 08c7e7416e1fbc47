-- The walk: of any word, raised by s and by 1 more from an index on, the weight falls by at most 1 a step as the index rises and s falls,
-- it comes back to where it was, and its mean is half of the highest: so some step has that weight.
-- Assumes nothing.
use mathlib.Core.Path.{◌≡◌, refl, sym, ap, ap₂, ◌∙◌}
use mathlib.Core.Logic.{◌≢◌, ⊎_elim}
use mathlib.Core.List.{List, [], ◌∷◌}
use Prim.Native.Nat.{ℕ, zero, suc, ◌+◌, ◌-◌, ◌*◌, ◌%◌, ◌≤◌, ◌<◌, zero-le, suc-le-suc}
use native.Mathlib.Nat.{zero-add, suc-add, add-zero, add-suc, zero-mul, add-mod_right, suc-mod, mod-le}
use native.Mathlib.Nat.{mod-eq_of_lt, le_of_suc-le-suc, not-suc-le-zero, le_refl, lt_of_not-le, not-le_of_lt}
use native.Mathlib.Omega.{arith}
use lib.ListN.{length, get_or}
use Rattle.modular_theory.specs.Sum.{weight}
use Rattle.modular_theory.proofs.Search.{le_or_lt}
use Rattle.code_theory.specs.Balance.{shifted, shifted_from}

-- The weight from step to step.

-- past the last index nothing more is added
pub shifted_end : (q s : ℕ) (d : List ℕ) → shifted_from q s (length d) d ≡ shifted q s d
shifted_end q s [] = refl
shifted_end q s (a ∷ d) = ap (λ (t : List ℕ). (a + s) % q ∷ t) (shifted_end q s d)

-- to add q is to add nothing
add_all : (q a : ℕ) → (a + q) % q ≡ (a + 0) % q
add_all q a = add-mod_right a q ∙ ap (λ (b : ℕ). b % q) (sym (add-zero a))

shifted_all : (q : ℕ) (d : List ℕ) → shifted q q d ≡ shifted q 0 d
shifted_all q [] = refl
shifted_all q (a ∷ d) = ap₂ ◌∷◌ (add_all q a) (shifted_all q d)

-- the choices at i and at i + 1 differ in the symbol at i only
pub weight_step : (q s i : ℕ) (d : List ℕ) → i < length d
    → weight (shifted_from q s i d) + (get_or d i 0 + s) % q ≡ weight (shifted_from q s (suc i) d) + (get_or d i 0 + suc s) % q
weight_step q s i [] l = absurd (not-suc-le-zero l)
weight_step q s zero (a ∷ d) l = omega arith
weight_step q s (suc i) (a ∷ d) l = omega (arith, weight_step q s i d (le_of_suc-le-suc l))

weight_falls : (q s i : ℕ) (d : List ℕ) → i < length d → weight (shifted_from q s i d) ≤ weight (shifted_from q s (suc i) d) + 1
weight_falls q s i d l =
    let a : ℕ = get_or d i 0 in
    let e : (a + suc s) % q ≡ suc ((a + s) % q) % q = ap (λ (n : ℕ). n % q) (add-suc a s) ∙ suc-mod (a + s) q in
    omega (arith, weight_step q s i d l, mod-le (suc ((a + s) % q)) q)

-- as long as the choices miss w, a weight that is at least w stays so
stays_above : (q w s : ℕ) (d : List ℕ) → ((i : ℕ) → i < length d → weight (shifted_from q s i d) ≢ w)
    → w ≤ weight (shifted_from q s 0 d) → (i : ℕ) → i ≤ length d → w ≤ weight (shifted_from q s i d)
stays_above q w s d miss h zero l = h
stays_above q w s d miss h (suc i) l = omega (arith, stays_above q w s d miss h i (omega arith), miss i l, weight_falls q s i d l)

-- Sums, and the mean weight.

-- f 0 + .. + f (n - 1)
abbrev total : (ℕ → ℕ) → ℕ → ℕ
total f zero = 0
total f (suc n) = total f n + f n

total_constant : (c n : ℕ) → total (λ s. c) n ≡ n * c
total_constant c zero = sym (zero-mul c)
total_constant c (suc n) = omega (arith, total_constant c n)

total_add : (f g : ℕ → ℕ) (n : ℕ) → total (λ s. f s + g s) n ≡ total f n + total g n
total_add f g zero = refl
total_add f g (suc n) = omega (arith, total_add f g n)

total_lt : (f g : ℕ → ℕ) (n : ℕ) → ((s : ℕ) → s < n → f s < g s) → total f n + n ≤ total g n
total_lt f g zero h = zero-le
total_lt f g (suc n) h = omega (arith, total_lt f g n (λ s l. h s (omega arith)), h n (le_refl (suc n)))

-- f 1 + .. + f n
total_rotate : (f : ℕ → ℕ) (n : ℕ) → total (λ s. f (suc s)) n + f 0 ≡ total f n + f n
total_rotate f zero = refl
total_rotate f (suc n) = omega (arith, total_rotate f n)

-- 0 + .. + (n - 1)
total_count : (f : ℕ → ℕ) (n : ℕ) → ((s : ℕ) → s < n → f s ≡ s) → 2 * total f n + n ≡ n * n
total_count f zero h = refl
total_count f (suc n) h = omega (arith, total_count f n (λ s l. h s (omega arith)), h n (le_refl (suc n)))

-- the remainders of q numbers in a row
total_remainders : (q a : ℕ) → 2 * total (λ s. (a + s) % q) q + q ≡ q * q
total_remainders q zero = total_count (λ s. (0 + s) % q) q (λ s l. ap (λ (n : ℕ). n % q) (zero-add s) ∙ mod-eq_of_lt l)
total_remainders q (suc a) =
    simp (suc-add, ← add-suc) (omega (arith, total_remainders q a, total_rotate (λ s. (a + s) % q) q, add_all q a))

total_weights : (q : ℕ) (d : List ℕ) → 2 * total (λ s. weight (shifted q s d)) q + length d * q ≡ length d * (q * q)
total_weights q [] = omega (arith, total_constant 0 q)
total_weights q (a ∷ d) =
    omega (arith, total_add (λ s. (a + s) % q) (λ s. weight (shifted q s d)) q, total_remainders q a, total_weights q d)

mean_weight : (q w : ℕ) (d : List ℕ) → 1 ≤ q → length d * (q - 1) ≡ 2 * w → total (λ s. weight (shifted q s d)) q ≡ q * w
mean_weight q w d levels even =
    let r : q ≡ q - 1 + 1 = omega arith in
    let e : length d * q * q ≡ length d * (q - 1 + 1) * q = ap (λ (n : ℕ). length d * n * q) r in
    let f : length d * (q - 1) * q ≡ 2 * w * q = ap (λ (n : ℕ). n * q) even in
    omega (arith, total_weights q d)

-- A function that is at least w wherever its next value is, and that comes back to where it was, does not miss its mean w.

-- at least w at n, so at every s before it
descend : (w : ℕ) (f : ℕ → ℕ) (n s : ℕ) → ((t : ℕ) → t < n → w ≤ f (suc t) → w ≤ f t) → w ≤ f n → s ≤ n → w ≤ f s
descend w f zero zero step h l = h
descend w f zero (suc s) step h l = absurd (not-suc-le-zero l)
descend w f (suc n) zero step h l = descend w f n zero (λ t k. step t (omega arith)) (step n (le_refl (suc n)) h) zero-le
descend w f (suc n) (suc s) step h l = descend w (λ t. f (suc t)) n s (λ t k. step (suc t) (suc-le-suc k)) h (le_of_suc-le-suc l)

module _ (f : ℕ → ℕ) (q w : ℕ) (step : (s : ℕ) → s < q → w ≤ f (suc s) → w ≤ f s) (back : f q ≡ f 0) where
  all_above : ((s : ℕ) → s < q → f (suc s) ≢ w) → w ≤ f 0 → (s : ℕ) → s < q → w < f (suc s)
  all_above miss h s l = omega (arith, miss s l, descend w f q (suc s) step (omega arith) l)

  all_below_lem : f 0 < w → (s : ℕ) → s < q → f (suc s) < w
  all_below_lem h s l = lt_of_not-le (λ k. not-le_of_lt h (descend w f (suc s) 0 (λ t j. step t (omega arith)) k zero-le))

  meets_mean : 1 ≤ q → total f q ≡ q * w → ((s : ℕ) → s < q → f (suc s) ≢ w) → ⊥
  meets_mean levels mean miss =
      let e : total (λ s. f (suc s)) q ≡ q * w = omega (arith, total_rotate f q) in
      let c : total (λ s. w) q ≡ q * w = total_constant w q in
      ⊎_elim
      (λ (h : w ≤ f 0). omega (arith, total_lt (λ s. w) (λ s. f (suc s)) q (all_above miss h)))
      (λ (h : f 0 < w). omega (arith, total_lt (λ s. f (suc s)) (λ s. w) q (all_below_lem h)))
      (le_or_lt w (f 0))

-- so the choices do not all miss it
pub choices_meet : (q w : ℕ) (d : List ℕ) → 1 ≤ q → 1 ≤ length d → length d * (q - 1) ≡ 2 * w
    → ((s i : ℕ) → s < q → i < length d → weight (shifted_from q s i d) ≢ w) → ⊥
choices_meet q w d levels some even miss =
    meets_mean (λ s. weight (shifted q s d)) q w
    (λ s l h. rw shifted_end at (stays_above q w s d (λ i. miss s i l) h (length d) (le_refl (length d))))
    (ap weight (shifted_all q d)) levels (mean_weight q w d levels even) (λ s l. miss s 0 l some)
