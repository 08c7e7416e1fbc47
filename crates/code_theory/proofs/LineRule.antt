-- Of the balancing choices one has the least peak: from one that has not, a smaller peak is reached, and peaks are numbers. Rule 2 takes the
-- first of those.
-- Assumes nothing.
use mathlib.Core.Path.{◌≡◌, refl}
use mathlib.Core.Logic.{◌⊎◌, inl, inr, ⊎_elim}
use mathlib.Core.Bool.{Bool, true, false}
use mathlib.Core.List.{List}
use Prim.Native.Nat.{ℕ, zero, suc, ◌≤◌, ◌<◌, zero-le, suc-le-suc}
use native.Mathlib.Nat.{not-suc-le-zero, le_of_suc-le-suc, le_refl, lt_of_not-le}
use native.Mathlib.Omega.{arith}
use lib.Dec.{T, eqb, eqb→eq, leb, le→leb, leb→le}
use lib.IntN.{nat_abs}
use lib.ListN.{length}
use Rattle.modular_theory.specs.Search.{all_below}
use Rattle.modular_theory.specs.Sum.{weight}
use Rattle.modular_theory.proofs.Search.{decide, or_cases, or_left, or_right, eq_test, le_or_lt, all_step, all_join, all_at, all_of, all_miss}
use Rattle.code_theory.specs.Parameters.{Parameters, balancing_value}
use Rattle.code_theory.specs.Balance.{choice, chosen, balances, earliest_s, earliest_v, balanced}
use Rattle.code_theory.specs.Codeword.{interleaved, encoded}
use Rattle.code_theory.specs.RunningSum.{running_digital_sum, largest, peak}
use Rattle.code_theory.specs.LineRule.{rule1, rule2, choice_peak, peaks_from, all_peak_from, has_least_peak}
use Rattle.code_theory.specs.LineRule.{chosen_s, chosen_v, balanced_by, encoded_by}
use Rattle.code_theory.specs.Claims.{Before, Tried, PeaksTold, LeastPeakExists, LeastPeakOfPair, RuleOne, RuleNumbers}
use Rattle.code_theory.proofs.First.{tried_index, first_misses, first_below, first_tried, first_passes, first_is}
use Rattle.code_theory.proofs.Choice.{balances_of, balance_exists}
use Rattle.code_theory.proofs.Pair.{length_interleaved, even_interleaved}

-- The largest of some numbers.

largest_above : (f : ℕ → ℕ) (n i : ℕ) → 1 ≤ i → i ≤ n → f i ≤ largest f n
largest_above f n zero a b = absurd (not-suc-le-zero a)
largest_above f zero (suc i) a b = absurd (not-suc-le-zero b)
largest_above f (suc n) (suc zero) a b = omega arith
largest_above f (suc n) (suc (suc i)) a b =
    omega (arith, largest_above (λ j. f (suc j)) n (suc i) (suc-le-suc zero-le) (le_of_suc-le-suc b))

-- one of them has it
abbrev Met : (ℕ → ℕ) → ℕ → Type 0
Met f n = (i : ℕ) × (1 ≤ i) × (i ≤ n) × (f i ≡ largest f n)

met_later : (f : ℕ → ℕ) (n : ℕ) → Met (λ j. f (suc j)) n → (f 1 ≤ largest (λ j. f (suc j)) n) ⊎ (largest (λ j. f (suc j)) n < f 1)
    → Met f (suc n)
met_later f n (i, a, b, e) (inl h) = (suc i, suc-le-suc zero-le, suc-le-suc b, omega (arith, e))
met_later f n (i, a, b, e) (inr h) = (1, le_refl 1, suc-le-suc zero-le, omega arith)

largest_met : (f : ℕ → ℕ) (n : ℕ) → 1 ≤ n → Met f n
largest_met f zero a = absurd (not-suc-le-zero a)
largest_met f (suc zero) a = (1, le_refl 1, le_refl 1, omega arith)
largest_met f (suc (suc n)) a =
    met_later f (suc n) (largest_met (λ j. f (suc j)) (suc n) (suc-le-suc zero-le)) (le_or_lt (f 1) (largest (λ j. f (suc j)) (suc n)))

pub peaks_told : PeaksTold
unfolding peak
peaks_told q u =
    record {
      above = largest_above (λ i. nat_abs (running_digital_sum q u i)) (length u);
      met = largest_met (λ i. nat_abs (running_digital_sum q u i)) (length u);
    }

-- A test that is asked only where another passes.

if_of : (a b : Bool) → (T a → T b) → T (elim a [ true ↦ b | false ↦ true ])
if_of true b f = f tt
if_of false b f = tt

if_at : (a b : Bool) → T (elim a [ true ↦ b | false ↦ true ]) → T a → T b
if_at true b h k = h
if_at false b h k = absurd k

if_fails : (a b : Bool) → (T (elim a [ true ↦ b | false ↦ true ]) → ⊥) → T a × (T b → ⊥)
if_fails true b h = (tt, h)
if_fails false b h = absurd (h tt)

module _ (p : Parameters) (x : List ℕ) where
  abbrev peak_of : ℕ → ℕ → ℕ
  peak_of s i = choice_peak p x s (choice p i)

  -- the choice at an index balances
  abbrev Fits : ℕ → ℕ → Type 0
  Fits s i = T (balances p x s (choice p i))

  all_peak_of : (n : ℕ) → ((s i : ℕ) → s < p.q → i < length x → Fits s i → n ≤ peak_of s i) → T (all_peak_from p x n)
  unfolding all_peak_from peaks_from
  all_peak_of n f =
      all_of (λ s. all_below (λ i. peaks_from p x n s (choice p i)) (length x)) p.q (λ s a.
      all_of (λ i. peaks_from p x n s (choice p i)) (length x) (λ i b.
      if_of (balances p x s (choice p i)) (leb n (peak_of s i)) (λ h. le→leb n (peak_of s i) (f s i a b h))))

  all_peak_at : (n : ℕ) → T (all_peak_from p x n) → (s i : ℕ) → s < p.q → i < length x → Fits s i → n ≤ peak_of s i
  unfolding all_peak_from peaks_from
  all_peak_at n h s i a b k =
      leb→le n (peak_of s i)
      (if_at (balances p x s (choice p i)) (leb n (peak_of s i))
      (all_at (λ j. peaks_from p x n s (choice p j)) (length x)
      (all_at (λ t. all_below (λ j. peaks_from p x n t (choice p j)) (length x)) p.q h s a) i b) k)

  -- a smaller peak
  pub record Smaller (n : ℕ) : Type 0 where
    pub s : ℕ
    pub i : ℕ
    pub s_below : s < p.q
    pub i_below : i < length x
    pub fits : Fits s i
    pub less : peak_of s i < n

  smaller : (n : ℕ) → (T (all_peak_from p x n) → ⊥) → Smaller n
  unfolding all_peak_from peaks_from
  smaller n h =
      let (s, a, f) = all_miss (λ s. all_below (λ i. peaks_from p x n s (choice p i)) (length x)) p.q h in
      let (i, b, g) = all_miss (λ i. peaks_from p x n s (choice p i)) (length x) f in
      let (k, l) = if_fails (balances p x s (choice p i)) (leb n (peak_of s i)) g in
      record { s = s; i = i; s_below = a; i_below = b; fits = k; less = lt_of_not-le (λ o. l (le→leb n (peak_of s i) o)) }

  least_of_lem : (s v : ℕ) → T (balances p x s v) → T (all_peak_from p x (choice_peak p x s v)) → T (has_least_peak p x s v)
  unfolding has_least_peak
  least_of_lem s v h k = all_join (balances p x s v) (all_peak_from p x (choice_peak p x s v)) h k

  least_parts : (s v : ℕ) → T (has_least_peak p x s v) → T (balances p x s v) × T (all_peak_from p x (choice_peak p x s v))
  unfolding has_least_peak
  least_parts s v h = all_step (balances p x s v) (all_peak_from p x (choice_peak p x s v)) h

  -- rule 2 finds a choice where one balances
  has_least : (s i : ℕ) → s < p.q → i < length x → Fits s i → T (all_peak_from p x (peak_of s i)) → chosen_s rule2 p x < p.q
  unfolding chosen_s
  has_least s i a b h k = first_below p (length x) (has_least_peak p x) s i a b (least_of_lem s (choice p i) h k)

  rule_finds : (n s i : ℕ) → s < p.q → i < length x → Fits s i → peak_of s i ≤ n → chosen_s rule2 p x < p.q
  rule_finds zero s i a b h k = has_least s i a b h (all_peak_of (peak_of s i) (λ t j c d e. omega arith))
  rule_finds (suc n) s i a b h k =
      ⊎_elim (has_least s i a b h) (λ y.
      let z = smaller (peak_of s i) y in
      let l : peak_of z.s z.i ≤ n = omega (arith, z.less) in
      rule_finds n z.s z.i z.s_below z.i_below z.fits l)
      (decide (all_peak_from p x (peak_of s i)))

  -- what is known of the choice that it finds
  module _ (below : chosen_s rule2 p x < p.q) where
    abbrev least : ℕ
    least = choice_peak p x (chosen_s rule2 p x) (chosen_v rule2 p x)

    has : T (has_least_peak p x (chosen_s rule2 p x) (chosen_v rule2 p x))
    unfolding chosen_s chosen_v
    has = first_passes p (length x) (has_least_peak p x) below

    tried : Tried p (length x) (chosen_v rule2 p x)
    unfolding chosen_s chosen_v
    tried = first_tried p (length x) (has_least_peak p x) below

    weighs : weight (balanced_by rule2 p x) ≡ balancing_value p.q (length x)
    unfolding balances balanced_by
    weighs =
        eqb→eq (weight (balanced_by rule2 p x)) (balancing_value p.q (length x))
        (least_parts (chosen_s rule2 p x) (chosen_v rule2 p x) has).0

    lowest : (s i : ℕ) → s < p.q → i < length x → Fits s i → least ≤ peak_of s i
    lowest = all_peak_at least (least_parts (chosen_s rule2 p x) (chosen_v rule2 p x) has).1

    smallest : (s v : ℕ) → s < p.q → Tried p (length x) v → weight (chosen p x s v) ≡ balancing_value p.q (length x)
        → least ≤ choice_peak p x s v
    smallest s v a t e = let (i, l, f) = tried_index p (length x) v t in rw f (lowest s i a l (rw f at (balances_of p x s v e)))

    -- a choice with as small a peak has the least, and none before has that
    first : (s v : ℕ) → Tried p (length x) v → Before s v (chosen_s rule2 p x) (chosen_v rule2 p x)
        → weight (chosen p x s v) ≡ balancing_value p.q (length x) → least < choice_peak p x s v
    unfolding chosen_s chosen_v
    first s v t b e =
        lt_of_not-le (λ (h : choice_peak p x s v ≤ least).
        first_misses p (length x) (has_least_peak p x) s v t b
        (least_of_lem s v (balances_of p x s v e)
        (all_peak_of (choice_peak p x s v) (λ u i a l k. omega (arith, h, lowest u i a l k)))))

  -- a balancing choice whose peak none passes below, and whose peak none before it has, is the one that rule 2 takes
  pub rule_two_is : (s i : ℕ) → s < p.q → i < length x → T (balances p x s (choice p i))
      → ((u j : ℕ) → u < p.q → j < length x → T (balances p x u (choice p j))
      → choice_peak p x s (choice p i) ≤ choice_peak p x u (choice p j))
      → ((u j : ℕ) → j < length x → Before u (choice p j) s (choice p i) → T (balances p x u (choice p j))
      → choice_peak p x s (choice p i) < choice_peak p x u (choice p j))
      → (chosen_s rule2 p x ≡ s) × (chosen_v rule2 p x ≡ choice p i)
  unfolding chosen_s chosen_v
  rule_two_is s i a b h all before =
      first_is p (length x) (has_least_peak p x) s i a b (least_of_lem s (choice p i) h (all_peak_of (peak_of s i) all)) (λ u j l o k.
      let (fits, lower) = least_parts u (choice p j) k in
      let high : peak_of s i < peak_of u j = before u j l o fits in
      let low : peak_of u j ≤ peak_of s i = all_peak_at (peak_of u j) lower s i a b h in
      absurd (omega arith))

pub least_peak_exists : LeastPeakExists
unfolding balanced
least_peak_exists p x levels some even =
    let b = balance_exists p x levels some even in
    let (i, l, f) = tried_index p (length x) (earliest_v p x) b.v_tried in
    let fits : T (balances p x (earliest_s p x) (choice p i)) = rw f at (balances_of p x (earliest_s p x) (earliest_v p x) b.balances) in
    let below : chosen_s rule2 p x < p.q =
    rule_finds p x (choice_peak p x (earliest_s p x) (choice p i)) (earliest_s p x) i b.s_below l fits (le_refl _) in
    record {
      s_below = below;
      v_tried = tried p x below;
      balances = weighs p x below;
      smallest = smallest p x below;
      first = first p x below;
    }

pub least_peak_of_pair_lem : LeastPeakOfPair
least_peak_of_pair_lem p sized a b =
    let e = length_interleaved p a b in
    least_peak_exists p (interleaved p a b) (omega (arith, sized.levels)) (omega (arith, e)) (even_interleaved p a b sized)

-- Rule 1's test is that of the earliest choice.

pub balanced_by_one : (p : Parameters) (x : List ℕ) → balanced_by rule1 p x ≡ balanced p x
unfolding balanced_by chosen_s chosen_v balanced earliest_s earliest_v
balanced_by_one p x = refl

pub rule_one : RuleOne
unfolding encoded_by balanced_by chosen_s chosen_v encoded balanced earliest_s earliest_v
rule_one p a b = refl

pub rule_numbers : RuleNumbers
rule_numbers = (
  λ k. (
    λ h. ⊎_elim (λ a. inl (eqb→eq k 1 a)) (λ a. inr (eqb→eq k 2 a)) (or_cases (eqb k 1) (eqb k 2) h),
    λ h. ⊎_elim (λ a. or_left (eqb k 1) (eqb k 2) (eq_test a)) (λ a. or_right (eqb k 1) (eqb k 2) (eq_test a)) h,
  ),
  refl,
  refl,
)
