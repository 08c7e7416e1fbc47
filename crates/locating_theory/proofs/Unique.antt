-- One index of a parity at most makes two syndromes near: with another one, a gain would be added at the one and taken at the other, which
-- no near syndromes allow.
-- Assumes nothing.
use mathlib.Core.Path.{◌≡◌, refl, sym, subst, ◌∙◌}
use mathlib.Core.Logic.{◌⊎◌, inl, inr, ⊎_elim, ◌≢◌}
use mathlib.Core.Bool.{Bool, true, false, ◌&&◌}
use mathlib.Core.List.{List}
use Prim.Native.Nat.{ℕ, suc, ◌+◌, ◌*◌, ◌%◌, ◌≤◌, ◌<◌}
use native.Mathlib.Omega.{arith}
use lib.Dec.{T, eqb, eqb→eq}
use lib.ListN.{get_or}
use Rattle.modular_theory.specs.Residue.{Congruent, Invertible}
use Rattle.modular_theory.proofs.Search.{all_at, and_left, and_right, or_cases}
use Rattle.modular_theory.proofs.Residue.{of_eq, same, symm, ◌then◌, add, reduce}
use Rattle.code_theory.specs.Parameters.{Parameters, Sized}
use Rattle.code_theory.proofs.Weights.{double, ones, spread_take, spread_skip}
use Rattle.code_theory.proofs.Columns.{q_positive}
use Rattle.code_theory.proofs.Moves.{row_weight, NearRows, neither, first, second, ZeroRows, LastOne, Shift, no_shift}
use Rattle.code_theory.proofs.Told.{told}
use Rattle.code_theory.proofs.Distance.{equal_or_not}
use Rattle.code_theory.proofs.Conditions.{balanced_length_lem}
use Rattle.decoding_theory.specs.Syndromes.{zero_syndrome, column_syndrome, near_syndrome, near_syndromes, column_entry, moved}
use Rattle.decoding_theory.specs.Syndromes.{index, column_of, times, moved_of}
use Rattle.decoding_theory.specs.Decoded.{position_count}
use Rattle.decoding_theory.proofs.Near.{named}
use Rattle.decoding_theory.proofs.Value.{tabulate_at}
use Rattle.decoding_theory.proofs.Changed.{index_within}
use Rattle.decoding_theory.proofs.Moved.{index_odd, index_even, weight_times}
use Rattle.locating_theory.specs.ErrorPosition.{gain_without, near_with, near_without}
use Rattle.locating_theory.specs.Candidates.{syndrome_of}
use Rattle.locating_theory.specs.Claims.{OneIndex}
use Rattle.locating_theory.proofs.Gain.{gain_upto, gain_unit}

-- What near syndromes are, row by row.

-- row j of component c's syndrome
abbrev component_row : List ℕ → List ℕ → Bool → ℕ → ℕ
component_row S S' c j = get_or (syndrome_of c S S') j 0

zero_rows_lem : (p : Parameters) (S : List ℕ) → T (zero_syndrome p S) → ZeroRows p (λ j. get_or S j 0)
unfolding zero_syndrome
zero_rows_lem p S t j l = of_eq (eqb→eq _ 0 (all_at (λ j. eqb (get_or S j 0) 0) p.r t j l))

last_one : (p : Parameters) (S : List ℕ) → T (column_syndrome p S) → LastOne p (λ j. get_or S j 0)
last_one p S t = of_eq (named p S t).last

-- one of the two is zero
pub one_zero : (p : Parameters) (S S' : List ℕ) → T (near_syndromes p S S') → T (zero_syndrome p S) ⊎ T (zero_syndrome p S')
unfolding near_syndromes
one_zero p S S' t =
    ⊎_elim (λ x. inl (and_left (zero_syndrome p S) (near_syndrome p S') x)) (λ x. inr (and_right (near_syndrome p S) (zero_syndrome p S') x))
    (or_cases (zero_syndrome p S && near_syndrome p S') (near_syndrome p S && zero_syndrome p S') t)

near_rows : (p : Parameters) (S S' : List ℕ) → T (near_syndromes p S S') → NearRows p (component_row S S')
unfolding near_syndromes near_syndrome
near_rows p S S' t = ⊎_elim left right (or_cases (zero_syndrome p S && near_syndrome p S') (near_syndrome p S && zero_syndrome p S') t)
  where
    left : T (zero_syndrome p S && near_syndrome p S') → NearRows p (component_row S S')
    left x =
        let z : ZeroRows p (λ j. get_or S j 0) = zero_rows_lem p S (and_left (zero_syndrome p S) (near_syndrome p S') x) in
        ⊎_elim (λ y. neither z (zero_rows_lem p S' y)) (λ y. second z (last_one p S' y))
        (or_cases (zero_syndrome p S') (column_syndrome p S') (and_right (zero_syndrome p S) (near_syndrome p S') x))

    right : T (near_syndrome p S && zero_syndrome p S') → NearRows p (component_row S S')
    right x =
        let z : ZeroRows p (λ j. get_or S' j 0) = zero_rows_lem p S' (and_right (near_syndrome p S) (zero_syndrome p S') x) in
        ⊎_elim (λ y. neither (zero_rows_lem p S y) z) (λ y. first (last_one p S y) z)
        (or_cases (zero_syndrome p S) (column_syndrome p S) (and_left (near_syndrome p S) (zero_syndrome p S') x))

-- Indices of one parity.

-- they count alike in the check sum over the odd positions
one_parity : (b : Bool) (k k' : ℕ) → ones true (index b k) ≡ ones true (index b k')
one_parity true k k' = rw (index_odd k, index_odd k') (spread_take (λ x. 1) k ∙ sym (spread_take (λ x. 1) k'))
one_parity false k k' = rw (index_even k, index_even k') (spread_skip (λ x. 1) k ∙ sym (spread_skip (λ x. 1) k'))

index_below : (p : Parameters) (b : Bool) (k : ℕ) → k < position_count p b → index b k < suc (double p.n)
index_below p b k h = subst (λ (m : ℕ). index b k < m) (balanced_length_lem p) (index_within p b k h)

index_injective : (b : Bool) (k k' : ℕ) → index b k ≡ index b k' → k ≡ k'
index_injective true k k' e = omega arith
index_injective false k k' e = omega arith

-- The gain g at index k of the parity b.

module _ (p : Parameters) (s : Sized p) (b : Bool) (g : ℕ) (m : g ≤ p.q) (S S' : List ℕ) where
  moved_at : ℕ → Bool → List ℕ
  moved_at k c = moved_of p c b k g (syndrome_of c S S')

  -- the rows after it
  rows_at : ℕ → Bool → ℕ → ℕ
  rows_at k = component_row (moved_at k true) (moved_at k false)

  moved_row : (c : Bool) (k j : ℕ) → j < p.r
      → Congruent p.q (get_or (moved_at k c) j 0) (component_row S S' c j + row_weight p c j (index b k) * g)
  unfolding moved_at moved_of moved
  moved_row c k j l =
      let x : ℕ = component_row S S' c j in
      let y : ℕ = times p c b g * column_entry p j (column_of c b k) in
      of_eq (tabulate_at (λ j. (component_row S S' c j + times p c b g * column_entry p j (column_of c b k)) % p.q) p.r j l)
      then reduce p.q (x + y) then add (same x) (symm (weight_times p (q_positive p s) c b k g j m))

  rows_at_lem : (c : Bool) (k j : ℕ) → rows_at k c j ≡ get_or (moved_at k c) j 0
  unfolding rows_at
  rows_at_lem true k j = refl
  rows_at_lem false k j = refl

  shift : (k k' : ℕ) → Shift p (rows_at k) (rows_at k') g (index b k') (index b k)
  shift k k' =
      record {
        rows = λ c j l.
            let x : ℕ = component_row S S' c j in
            let y : ℕ = row_weight p c j (index b k) * g in
            let z : ℕ = row_weight p c j (index b k') * g in
            let f : x + z + y ≡ x + y + z = omega arith in
            let at : (t : ℕ) → Congruent p.q (rows_at t c j) (x + row_weight p c j (index b t) * g) =
            λ t. of_eq (rows_at_lem c t j) then moved_row c t j l in
            add (at k') (same y) then of_eq f then symm (add (at k) (same z));
      }

  -- the syndromes are near after it at both k and k'
  same_index : Invertible p.q g → (k k' : ℕ) → k < position_count p b → k' < position_count p b
      → T (near_syndromes p (moved_of p true b k g S) (moved_of p false b k g S'))
      → T (near_syndromes p (moved_of p true b k' g S) (moved_of p false b k' g S')) → k ≡ k'
  unfolding rows_at moved_at
  same_index u k k' l l' t t' = ⊎_elim (λ (x : k ≡ k'). x) (λ (x : k ≢ k'). absurd (distinct x)) (equal_or_not k k')
    where
      distinct : k ≢ k' → ⊥
      distinct ne =
          no_shift p s (shift k k') u
          (told p s (index b k') (index b k) (index_below p b k' l') (index_below p b k l) (λ x. ne (sym (index_injective b k' k x)))
          (of_eq (one_parity b k k')))
          (near_rows p (moved_of p true b k g S) (moved_of p false b k g S') t)
          (near_rows p (moved_of p true b k' g S) (moved_of p false b k' g S') t')

pub one_index : OneIndex
unfolding near_without near_with
one_index p s b e l u S S' k k' m m' t t' =
    same_index p s b (gain_without p e) (gain_upto p (q_positive p s) e) S S' (gain_unit p (q_positive p s) e l u) k k' m m' t t'
