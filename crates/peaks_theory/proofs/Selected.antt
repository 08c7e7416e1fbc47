-- Of the shifts' least costs the lowest, and of those the first s, gives the choice of line rule 2: its cost is its peak, and a choice
-- before it has a smaller s, with a higher least cost, or a smaller index, with a higher cost.
-- Assumes nothing.
use mathlib.Core.Path.{◌≡◌, sym, ap, subst, ◌∙◌}
use mathlib.Core.Logic.{inl, inr, ⊎_elim}
use mathlib.Core.Bool.{Bool}
use mathlib.Core.List.{List}
use Prim.Native.Nat.{ℕ, ◌+◌, ◌-◌, ◌*◌, ◌/◌, ◌%◌, ◌≤◌, ◌<◌}
use native.Mathlib.Nat.{lt_trans}
use native.Mathlib.Omega.{arith}
use lib.Dec.{T, ltb, lt→ltb, ltb→lt}
use lib.ListN.{length}
use Rattle.modular_theory.proofs.Search.{le_or_lt}
use Rattle.code_theory.specs.Parameters.{Parameters}
use Rattle.code_theory.specs.Balance.{choice, balances, earliest_s, earliest_v, balanced}
use Rattle.code_theory.specs.Walk.{walked, shift_of}
use Rattle.code_theory.specs.LineRule.{rule2, choice_peak, chosen_s, chosen_v}
use Rattle.code_theory.specs.Claims.{Before, Balanced}
use Rattle.code_theory.proofs.First.{tried_index, choice_before}
use Rattle.code_theory.proofs.Choice.{balances_of, balance_exists}
use Rattle.code_theory.proofs.Walk.{length_walked}
use Rattle.code_theory.proofs.LineRule.{rule_two_is}
use Rattle.peaks_theory.specs.Costs.{balanced_at, cost_at}
use Rattle.peaks_theory.specs.Lowest.{no_cost, lowest_cost, lowest_index, Lowest}
use Rattle.peaks_theory.specs.Claims.{Seeded}
use Rattle.peaks_theory.proofs.Lowest.{lowest_some, lowest_upto, lowest_found}
use Rattle.peaks_theory.proofs.Costs.{cost_is_peak}
use Rattle.peaks_theory.proofs.Bound.{cost_below}

module _ (p : Parameters) (odd : p.q % 2 ≡ 1) (x d : List ℕ) (is : d ≡ walked p x) (two : 2 ≤ length x) (first step : ℕ)
    (seeded : Seeded p d first step) (room : (length d + 1) * (p.q - 1) < no_cost) where
  -- of the choices of one s: which balance, what they cost, the least cost and the first index that has it
  abbrev fits : ℕ → ℕ → Bool
  fits s = balanced_at p.q d (shift_of p s)

  abbrev costs : ℕ → ℕ → ℕ
  costs s = cost_at p.q first step d (shift_of p s)

  abbrev pub least_of : ℕ → ℕ
  least_of s = lowest_cost (fits s) (costs s) (length d)

  abbrev pub index_of : ℕ → ℕ
  index_of s = lowest_index (fits s) (costs s) (length d)

  levels : 1 ≤ p.q
  levels = omega arith

  long : length d ≡ length x
  long = ap length is ∙ length_walked p levels x

  even : length x * (p.q - 1) % 2 ≡ 0
  even =
      let e : p.q - 1 ≡ 2 * (p.q / 2) = omega arith in
      let f : length x * (2 * (p.q / 2)) % 2 ≡ 0 = omega arith in
      rw e f

  small : (s i : ℕ) → costs s i < no_cost
  small s i = omega (arith, cost_below p.q first step d (shift_of p s) i levels)

  fits_is : (s i : ℕ) → i < length x → balances p x s (choice p i) ≡ fits s i
  fits_is s i l = (cost_is_peak p odd x d is two first step seeded s i l).0

  fits_of : (s i : ℕ) → i < length x → T (balances p x s (choice p i)) → T (fits s i)
  fits_of s i l h = subst T (fits_is s i l) h

  peak_is : (s i : ℕ) → i < length x → T (balances p x s (choice p i)) → choice_peak p x s (choice p i) ≡ costs s i
  unfolding choice_peak
  peak_is s i l h = (cost_is_peak p odd x d is two first step seeded s i l).1 h

  least_upto : (s i : ℕ) → i < length x → T (balances p x s (choice p i)) → least_of s ≤ costs s i
  least_upto s i l h = lowest_upto (fits s) (costs s) (length d) i (rw long l) (fits_of s i l h)

  -- some choice balances
  found : Balanced p x
  found = balance_exists p x levels (omega arith) even

  some_least : least_of (earliest_s p x) < no_cost
  unfolding balanced
  some_least =
      let (i, l, f) = tried_index p (length x) (earliest_v p x) found.v_tried in
      let h : T (balances p x (earliest_s p x) (choice p i)) =
      rw f at (balances_of p x (earliest_s p x) (earliest_v p x) found.balances) in
      lowest_some (fits (earliest_s p x)) (costs (earliest_s p x)) (length d) i (rw long l) (fits_of (earliest_s p x) i l h)
      (small (earliest_s p x) i)

  -- the first s with the lowest of the least costs, which g gives for each s below q
  module _ (g : ℕ → ℕ) (same : (u : ℕ) → u < p.q → g u ≡ least_of u) {s : ℕ} (taken : s ≡ lowest_index (λ u. ltb (g u) no_cost) g p.q) where
    abbrev cost : ℕ
    cost = lowest_cost (λ u. ltb (g u) no_cost) g p.q

    lowest : Lowest (λ u. ltb (g u) no_cost) g p.q cost s
    lowest =
        let small : g (earliest_s p x) < no_cost = rw (same (earliest_s p x) found.s_below) some_least in
        rw taken
        (lowest_found (λ u. ltb (g u) no_cost) g p.q
        (lowest_some (λ u. ltb (g u) no_cost) g p.q (earliest_s p x) found.s_below (lt→ltb (g (earliest_s p x)) no_cost small) small))

    pub s_below : s < p.q
    s_below = lowest.inside

    least_is : least_of s ≡ cost
    least_is = sym (same s s_below) ∙ lowest.is

    least_small : least_of s < no_cost
    least_small = rw (← same s s_below) (ltb→lt (g s) no_cost lowest.passes)

    -- no s has less, one that no choice balances neither
    lower_none : (u : ℕ) → u < p.q → cost ≤ least_of u
    lower_none u a =
        ⊎_elim (λ (h : no_cost ≤ g u). omega (arith, least_is, least_small, same u a))
        (λ (h : g u < no_cost). omega (arith, lowest.least u a (lt→ltb (g u) no_cost h), same u a)) (le_or_lt no_cost (g u))

    -- and none before has as little
    earlier_more : (u : ℕ) → u < s → cost < least_of u
    earlier_more u a =
        let e = same u (lt_trans a s_below) in
        ⊎_elim (λ (h : no_cost ≤ g u). omega (arith, least_is, least_small, e))
        (λ (h : g u < no_cost). omega (arith, lowest.first u a (lt→ltb (g u) no_cost h), e)) (le_or_lt no_cost (g u))

    abbrev i : ℕ
    i = index_of s

    chosen_least : Lowest (fits s) (costs s) (length d) (least_of s) i
    chosen_least = lowest_found (fits s) (costs s) (length d) least_small

    pub index_below : index_of s < length d
    index_below = chosen_least.inside

    inside : i < length x
    inside = rw (sym long) index_below

    passes : T (balances p x s (choice p i))
    passes = subst T (sym (fits_is s i inside)) chosen_least.passes

    peak_least : choice_peak p x s (choice p i) ≡ least_of s
    peak_least = peak_is s i inside passes ∙ chosen_least.is

    none_lower : (u j : ℕ) → u < p.q → j < length x → T (balances p x u (choice p j))
        → choice_peak p x s (choice p i) ≤ choice_peak p x u (choice p j)
    none_lower u j a l h = omega (arith, peak_least, least_is, lower_none u a, least_upto u j l h, peak_is u j l h)

    none_before : (u j : ℕ) → j < length x → Before u (choice p j) s (choice p i) → T (balances p x u (choice p j))
        → choice_peak p x s (choice p i) < choice_peak p x u (choice p j)
    none_before u j l (inl b) h = omega (arith, peak_least, least_is, earlier_more u b, least_upto u j l h, peak_is u j l h)
    none_before u j l (inr b) h =
        let same : costs u j ≡ costs s j = ap (λ (t : ℕ). costs t j) b.0 in
        let other : T (fits s j) = subst (λ (t : ℕ). T (fits t j)) b.0 (fits_of u j l h) in
        omega (arith, peak_least, chosen_least.first j (choice_before p j i b.1) other, peak_is u j l h, same)

    pub rule_two : (chosen_s rule2 p x ≡ s) × (chosen_v rule2 p x ≡ choice p (index_of s))
    rule_two = rule_two_is p x s i s_below inside passes none_lower none_before
