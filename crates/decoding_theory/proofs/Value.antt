-- The value of a list of digits is the number that has them, since numbers below q^k with the same k digits are equal.
-- Assumes nothing.
use mathlib.Core.Path.{◌≡◌, refl, ap, ◌∙◌}
use mathlib.Core.List.{List, [], ◌∷◌}
use Prim.Native.Nat.{ℕ, zero, suc, ◌^◌, ◌≤◌, ◌<◌, zero-le, suc-le-suc}
use native.Mathlib.Nat.{pow-zero, pow-suc, not-suc-le-zero, le_of_suc-le-suc}
use lib.Arith.{digits_lt, digits_div, digits_mod}
use lib.ListN.{length, get_or}
use Rattle.modular_theory.specs.Digits.{digits}
use Rattle.modular_theory.proofs.Digits.{digits_below, digits_injective}
use Rattle.decoding_theory.specs.Syndromes.{tabulate, from_digits}

pub tabulate_at : (f : ℕ → ℕ) (k j : ℕ) → j < k → get_or (tabulate f k) j 0 ≡ f j
tabulate_at f zero j h = absurd (not-suc-le-zero h)
tabulate_at f (suc k) zero h = refl
tabulate_at f (suc k) (suc j) h = tabulate_at (λ i. f (suc i)) k j (le_of_suc-le-suc h)

pub tabulate_same : (f g : ℕ → ℕ) (k : ℕ) → ((j : ℕ) → j < k → f j ≡ g j) → tabulate f k ≡ tabulate g k
tabulate_same f g zero e = refl
tabulate_same f g (suc k) e =
    rw (e 0 (suc-le-suc zero-le), tabulate_same (λ i. f (suc i)) (λ i. g (suc i)) k (λ j h. e (suc j) (suc-le-suc h)))

pub length_tabulate : (f : ℕ → ℕ) (k : ℕ) → length (tabulate f k) ≡ k
length_tabulate f zero = refl
length_tabulate f (suc k) = ap suc (length_tabulate (λ i. f (suc i)) k)

-- the list begins with k digits
pub record Digits (q k : ℕ) (l : List ℕ) : Type 0 where
  pub long : k ≤ length l
  pub below : (j : ℕ) → j < k → get_or l j 0 < q

rest : {q k x : ℕ} {xs : List ℕ} → Digits q (suc k) (x ∷ xs) → Digits q k xs
rest d = record { long = le_of_suc-le-suc d.long; below = λ j h. d.below (suc j) (suc-le-suc h) }

pub value_below : (q k : ℕ) (l : List ℕ) → Digits q k l → from_digits q k l < q ^ k
value_below q zero l d = rw pow-zero (suc-le-suc zero-le)
value_below q (suc k) [] d = absurd (not-suc-le-zero d.long)
value_below q (suc k) (x ∷ xs) d = rw pow-suc (digits_lt (value_below q k xs (rest d)) (d.below 0 (suc-le-suc zero-le)))

-- the digits of the value are the list's
pub digits_value : (q k : ℕ) (l : List ℕ) → Digits q k l → (j : ℕ) → j < k → get_or (digits q k (from_digits q k l)) j 0 ≡ get_or l j 0
digits_value q zero l d j h = absurd (not-suc-le-zero h)
digits_value q (suc k) [] d j h = absurd (not-suc-le-zero d.long)
digits_value q (suc k) (x ∷ xs) d zero h = digits_mod (from_digits q k xs) (d.below 0 (suc-le-suc zero-le))
digits_value q (suc k) (x ∷ xs) d (suc j) h =
    let b : x < q = d.below 0 (suc-le-suc zero-le) in
    rw digits_div (digits_value q k xs (rest d) j (le_of_suc-le-suc h))

-- a list that begins with the digits of i has the value i
pub value_digits : (q k i : ℕ) (l : List ℕ) → 1 ≤ q → i < q ^ k → k ≤ length l → ((j : ℕ) → j < k → get_or l j 0 ≡ get_or (digits q k i) j 0)
    → from_digits q k l ≡ i
value_digits q k i l h b n e =
    let d : Digits q k l = record { long = n; below = λ j m. rw e (digits_below q k i j h) } in
    digits_injective q k (from_digits q k l) i h (value_below q k l d) b (λ j m. digits_value q k l d j m ∙ e j m)
