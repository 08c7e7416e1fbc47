-- How many positions are tried: none past the body, since a changed check symbol leaves the weight.
-- Assumes nothing.
use mathlib.Core.Path.{◌≡◌, refl, sym, ap, subst, ◌∙◌}
use mathlib.Core.Logic.{⊎_elim}
use mathlib.Core.Bool.{Bool, true, false, not}
use mathlib.Core.List.{List}
use Prim.Native.Nat.{ℕ, zero, suc, ◌+◌, ◌/◌, ◌%◌, ◌≤◌, ◌<◌, zero-le}
use native.Mathlib.Nat.{le_refl}
use native.Mathlib.Omega.{arith}
use lib.Dec.{T, T_not, not_T, eqb, eqb→eq}
use lib.ListN.{set}
use lib.Seq.{take-set-le}
use borrow.Author.Tests.{eqb-true, eqb-false}
use Rattle.modular_theory.specs.Sum.{weight}
use Rattle.modular_theory.proofs.Search.{eq_test, and_four, and_parts, le_or_lt, passes, fails, holds}
use Rattle.code_theory.specs.Parameters.{Parameters, balanced_length, codeword_length, balancing_value}
use Rattle.code_theory.specs.Component.{is_word}
use Rattle.code_theory.specs.Codeword.{body, is_balanced, check_sum_agrees, has_checks, has_components, codeword}
use Rattle.code_theory.specs.Erasures.{erasures}
use Rattle.code_theory.specs.Reading.{Correction, clean, corrected, filled, Reading, read, unreadable, reading}
use Rattle.code_theory.specs.TriedPositions.{positions_up_to, searched, last_tried, tried_positions}
use Rattle.code_theory.specs.Profiles.{profile, profile_in}
use Rattle.code_theory.specs.Claims.{CountsTold, MostTried}
use Rattle.code_theory.proofs.Merge.{cases}
use Rattle.code_theory.proofs.Errors.{CorrectedBy, reading_corrected}

-- How many there are of a parity.

pub up_to_odd : (i : ℕ) → positions_up_to true i ≡ (i + 1) / 2
up_to_odd zero = refl
up_to_odd (suc i) =
    cases (eqb (suc i % 2) 1) (λ e. rw (e, positions_up_to) (omega (arith, up_to_odd i, eqb-true (suc i % 2) 1 e)))
    (λ e. rw (e, positions_up_to) (omega (arith, up_to_odd i, eqb-false (suc i % 2) 1 e)))

pub up_to_even : (i : ℕ) → positions_up_to false i ≡ i / 2
up_to_even zero = refl
up_to_even (suc i) =
    cases (eqb (suc i % 2) 0) (λ e. rw (e, positions_up_to) (omega (arith, up_to_even i, eqb-true (suc i % 2) 0 e)))
    (λ e. rw (e, positions_up_to) (omega (arith, up_to_even i, eqb-false (suc i % 2) 0 e)))

-- and in the body
pub of_body : (p : Parameters) (b : Bool) → positions_up_to b (balanced_length p) ≡ elim b [ true ↦ p.n + 1 | false ↦ p.n ]
of_body p true = omega (arith, up_to_odd (balanced_length p))
of_body p false = omega (arith, up_to_even (balanced_length p))

up_to_most : (p : Parameters) (b : Bool) (i : ℕ) → i ≤ balanced_length p → positions_up_to b i ≤ p.n + 1
up_to_most p true i h = omega (arith, up_to_odd i)
up_to_most p false i h = omega (arith, up_to_even i)

-- What is searched, and what is not.

module _ (p : Parameters) (v : List ℕ) where
  parts : (b : Bool) → T (searched p b v)
      → T (eqb (erasures v) 0) × T (not (is_balanced p v)) × T (not (check_sum_agrees p b v)) × T (check_sum_agrees p (not b) v)
  unfolding searched
  parts b h =
      and_parts (eqb (erasures v) 0) (not (is_balanced p v)) (not (check_sum_agrees p b v)) (check_sum_agrees p (not b) v) h

  pub searched_of : (b : Bool) → erasures v ≡ 0 → (T (is_balanced p v) → ⊥) → (T (check_sum_agrees p b v) → ⊥) → T (check_sum_agrees p (not b) v)
      → T (searched p b v)
  unfolding searched
  searched_of b none off wrong right =
      and_four (eqb (erasures v) 0) (not (is_balanced p v)) (not (check_sum_agrees p b v)) (check_sum_agrees p (not b) v) (eq_test none)
      (not_T (is_balanced p v) off) (not_T (check_sum_agrees p b v) wrong) right

  none_tried_lem : ((b : Bool) → T (searched p b v) → ⊥) → tried_positions p v ≡ 0
  unfolding tried_positions
  none_tried_lem f =
      let odd : searched p true v ≡ false = fails (f true) in
      let even : searched p false v ≡ false = fails (f false) in
      rw (odd, tried_positions, even)

  -- of the parity b, up to the last
  pub tried_in_lem : (b : Bool) → T (searched p b v) → tried_positions p v ≡ positions_up_to b (last_tried p (reading p v))
  unfolding tried_positions
  tried_in_lem true h = let odd : searched p true v ≡ true = passes h in rw (odd, tried_positions)
  tried_in_lem false h =
      let odd : searched p true v ≡ false = fails (λ k. T_not (check_sum_agrees p true v) (parts true k).2 (parts false h).3) in
      let even : searched p false v ≡ true = passes h in
      rw (odd, tried_positions, even)

  off_balance : (b : Bool) → T (searched p b v) → T (is_balanced p v) → ⊥
  off_balance b h = T_not (is_balanced p v) (parts b h).1

  alike_none : check_sum_agrees p true v ≡ check_sum_agrees p false v → (b : Bool) → T (searched p b v) → ⊥
  alike_none e true h = T_not (check_sum_agrees p true v) (parts true h).2 (subst T (sym e) (parts true h).3)
  alike_none e false h = T_not (check_sum_agrees p false v) (parts false h).2 (subst T e (parts false h).3)

-- a codeword is balanced
pub balanced_of : (p : Parameters) (u : List ℕ) → T (codeword p u) → T (is_balanced p u)
unfolding codeword
balanced_of p u h = (and_parts (is_word p.q (codeword_length p) u) (is_balanced p u) (has_checks p u) (has_components p u) h).1

-- A symbol that is changed at index i.

module _ (p : Parameters) (v : List ℕ) (i y : ℕ) where
  -- a check symbol leaves the weight
  pub balanced_before : balanced_length p ≤ i → T (codeword p (set v i y)) → T (is_balanced p v)
  unfolding is_balanced body
  balanced_before l h =
      subst (λ (w : List ℕ). T (eqb (weight w) (balancing_value p.q (balanced_length p)))) (take-set-le (balanced_length p) v i y l)
      (balanced_of p (set v i y) h)

-- the position found is one of the body, where the body is not balanced
last_within : (p : Parameters) (v : List ℕ) → (T (is_balanced p v) → ⊥) → last_tried p (reading p v) ≤ balanced_length p
last_within p v off = go (reading p v) refl
  where
    go : (d : Reading) → reading p v ≡ d → last_tried p d ≤ balanced_length p
    go (read clean a b) e = zero-le
    go (read (filled cs) a b) e = zero-le
    go unreadable e = le_refl (balanced_length p)
    go (read (corrected c) a b) e =
        let m : CorrectedBy p v c = reading_corrected p v c a b e in
        ⊎_elim (λ (l : balanced_length p ≤ m.index). absurd (off (balanced_before p v m.index m.symbol l m.makes)))
        (λ (l : m.index < balanced_length p). subst (λ (c : Correction). c.position ≤ balanced_length p) m.is (omega arith))
        (le_or_lt (balanced_length p) m.index)

most_of : (p : Parameters) (v : List ℕ) → tried_positions p v ≤ p.n + 1
unfolding tried_positions
most_of p v =
    cases (searched p true v) (λ e. some true (holds _ e))
    (λ e. cases (searched p false v) (λ f. some false (holds _ f)) (λ f. rw (e, tried_positions, f) zero-le))
  where
    some : (b : Bool) → T (searched p b v) → tried_positions p v ≤ p.n + 1
    some b h = rw (tried_in_lem p v b h) (up_to_most p b (last_tried p (reading p v)) (last_within p v (off_balance p v b h)))

pub counts_told : CountsTold
counts_told p v =
    record {
      if_balanced = λ h. none_tried_lem p v (λ b k. off_balance p v b k h);
      if_erased = λ h. none_tried_lem p v (λ b k. let e : erasures v ≡ 0 = eqb→eq _ _ (parts p v b k).0 in absurd (omega arith));
      if_alike = λ e. none_tried_lem p v (alike_none p v e);
      all =
          λ none off b wrong right e.
          let h = searched_of p v b none (λ t. subst T off t) (λ t. subst T wrong t) (holds _ right) in
          tried_in_lem p v b h ∙ ap (λ (d : Reading). positions_up_to b (last_tried p d)) e ∙ of_body p b;
      most = most_of p v;
    }

-- computed
pub most_tried : MostTried
unfolding profile
most_tried e v = (most 1, most 2, most 3, most 4)
  where
    most : (i : ℕ) → tried_positions (profile_in e i) v ≤ (profile_in e i).n + 1
    most i = (counts_told (profile_in e i) v).most
