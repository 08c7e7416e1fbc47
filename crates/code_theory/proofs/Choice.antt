-- The choices run through the walk of one word: so some choice balances, and the first of them is the earliest.
-- Assumes nothing.
use mathlib.Core.Path.{◌≡◌, refl, ap, ◌∙◌}
use mathlib.Core.Logic.{◌≢◌, inl}
use mathlib.Core.List.{List}
use Prim.Native.Nat.{ℕ, zero, suc, ◌-◌, ◌*◌, ◌%◌, ◌≤◌, ◌<◌}
use native.Mathlib.Nat.{lt_of_not-le}
use native.Mathlib.Omega.{arith}
use lib.Dec.{T, eqb→eq, eqb_refl}
use lib.ListN.{length, length-set}
use Rattle.modular_theory.specs.Sum.{weight}
use Rattle.code_theory.specs.Parameters.{Edition, edition13, edition18, Parameters, in_edition, balancing_value}
use Rattle.code_theory.specs.Balance.{add_at, zero_index, add_one}
use Rattle.code_theory.specs.Balance.{integrated, choice, chosen, balances, earliest_s, earliest_v, balanced}
use Rattle.code_theory.specs.Walk.{walked, shift_of}
use Rattle.code_theory.specs.Claims.{Before, Tried, BalanceExists}
use Rattle.code_theory.proofs.Balance.{choices_meet}
use Rattle.code_theory.proofs.Shifted.{length_integrate}
use Rattle.code_theory.proofs.FromEnd.{length_from_end}
use Rattle.code_theory.proofs.First.{tried_at, first_misses, first_tried, first_passes}
use Rattle.code_theory.proofs.Walk.{chosen_walked, length_walked, shift_met, halves_together}

length_integrated : (p : Parameters) (x : List ℕ) → length (integrated p x) ≡ length x
length_integrated p x = go p.edition
  where
    go : (e : Edition) → length (integrated (in_edition e p) x) ≡ length x
    go edition13 = length_integrate p.q 0 x
    go edition18 = length_from_end p.q x

length_one : (p : Parameters) (x : List ℕ) (v : ℕ) → length (add_one p x v) ≡ length x
length_one p x zero = refl
length_one p x (suc i) = simp length-set

pub length_chosen : (p : Parameters) (x : List ℕ) (s v : ℕ) → length (chosen p x s v) ≡ length x
unfolding chosen
length_chosen p x s v =
    let y : List ℕ = add_at p.q x (zero_index p x) s in
    length_integrated p (add_one p y v) ∙ length_one p y v ∙ simp length-set

-- no choice before the earliest balances
module _ (p : Parameters) (x : List ℕ) where
  pub balances_of : (s v : ℕ) → weight (chosen p x s v) ≡ balancing_value p.q (length x) → T (balances p x s v)
  unfolding balances
  balances_of s v e = rw e (eqb_refl (balancing_value p.q (length x)))

  no_earlier : (s v : ℕ) → Tried p (length x) v → Before s v (earliest_s p x) (earliest_v p x)
      → weight (chosen p x s v) ≢ balancing_value p.q (length x)
  unfolding earliest_s earliest_v
  no_earlier s v t b e = first_misses p (length x) (balances p x) s v t b (balances_of s v e)

  module _ (levels : 1 ≤ p.q) (some : 1 ≤ length x) (even : length x * (p.q - 1) % 2 ≡ 0) where
    s_found : earliest_s p x < p.q
    unfolding balancing_value
    s_found =
        let w : ℕ = balancing_value p.q (length x) in
        let d : List ℕ = walked p x in
        let e : length d ≡ length x = length_walked p levels x in
        let even : length d * (p.q - 1) ≡ 2 * w = rw e (omega arith) in
        lt_of_not-le (λ (h : p.q ≤ earliest_s p x). choices_meet p.q w d levels (rw e some) even (λ t i l j k.
        let (s, b, f) = shift_met p levels t l in
        no_earlier s (choice p i) (tried_at p (length x) i (rw e at j)) (inl (omega arith))
        (ap weight (chosen_walked p levels x s i (rw e at j)) ∙ (halves_together p levels d (shift_of p s) i w even).from (rw f k))))

    v_found : Tried p (length x) (earliest_v p x)
    unfolding earliest_s earliest_v
    v_found = first_tried p (length x) (balances p x) s_found

    found : weight (balanced p x) ≡ balancing_value p.q (length x)
    unfolding balances earliest_s earliest_v balanced
    found =
        eqb→eq (weight (balanced p x)) (balancing_value p.q (length x)) (first_passes p (length x) (balances p x) s_found)

pub balance_exists : BalanceExists
balance_exists p x levels some even =
    record {
      s_below = s_found p x levels some even;
      v_tried = v_found p x levels some even;
      balances = found p x levels some even;
      first = no_earlier p x;
    }
