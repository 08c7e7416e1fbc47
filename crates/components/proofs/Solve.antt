-- The check symbols that make up for the row sums of a placed message give its component word.
-- Assumes nothing.
use mathlib.Core.Path.{◌≡◌, refl, sym, ap, ap₂, ◌∙◌}
use mathlib.Core.Logic.{◌≢◌}
use mathlib.Core.List.{List, [], ◌∷◌, ◌++◌}
use Prim.Native.Nat.{ℕ, zero, suc, ◌+◌, ◌-◌, ◌*◌, ◌/◌, ◌%◌, ◌^◌, ◌≤◌, ◌<◌, zero-le, suc-le-suc}
use native.Mathlib.Nat.{pow-zero, pow-suc, zero-add, suc-add, add_comm, div-lt_iff_lt-mul, le_refl, le_trans, mul-zero}
use native.Mathlib.Omega.{arith}
use lib.Dec.{T}
use lib.Arith.{lt-one}
use lib.ListN.{length, get_or, set, replicate, get_or-append}
use lib.Seq.{get_or-set_other}
use Rattle.modular_theory.specs.Sum.{weight, dot}
use Rattle.modular_theory.specs.Digits.{digits}
use Rattle.modular_theory.specs.Residue.{Congruent}
use Rattle.modular_theory.proofs.Search.{passes}
use Rattle.modular_theory.proofs.Sum.{dot_set_zero, dot_same, dot_add, dot_scale, weight_zeros}
use Rattle.modular_theory.proofs.Digits.{length_digits, digits_zero}
use Rattle.modular_theory.proofs.Residue.{of_eq, same, symm, ◌then◌, add, scale, reduce, multiple, cancel}
use Rattle.code_theory.specs.Parameters.{Parameters, Sized, message_length}
use Rattle.code_theory.specs.Component.{is_word, check_row, syndrome, check_at, merge, component}
use Rattle.code_theory.proofs.Syndrome.{zero_code}
use Rattle.code_theory.proofs.Columns.{last_row, digit_row_lem, q_positive}
use Rattle.code_theory.proofs.Weights.{times_pred}
use Rattle.code_theory.proofs.Merge.{word_of, length_merge}
use Rattle.code_theory.proofs.Reduced.{pivot, reduced_two, reduced_row, pivot_below, pivot_check, pivot_injective}
use Rattle.code_theory.proofs.Reduced.{row_two_first, row_two_other, reduced_other, rows_reduced}
use Rattle.code_theory.proofs.Component.{unique, Solution, pivot_inside, step, merged, component_holding}
use Rattle.symbols.specs.Syndromes.{four_rows}
use Rattle.components.specs.Checks.{check_position, checked, Solves}
use Rattle.components.proofs.Placing.{merge_check}

-- Three digits, where fewer are asked for.

digits_more : (q k j i : ℕ) → 1 ≤ q → i < q ^ k → digits q (k + j) i ≡ digits q k i ++ replicate j 0
digits_more q zero j i h l = rw (zero-add, lt-one (rw pow-zero at l)) (digits_zero q j)
digits_more q (suc k) j i h l =
    rw suc-add (ap (λ (d : List ℕ). i % q ∷ d) (digits_more q k j (i / q) h ((div-lt_iff_lt-mul h).1 (rw pow-suc at l))))

weight_zeros_after : (l : List ℕ) (j : ℕ) → weight (l ++ replicate j 0) ≡ weight l
weight_zeros_after [] j = weight_zeros j
weight_zeros_after (x ∷ l) j = ap (λ (y : ℕ). x + y) (weight_zeros_after l j)

module _ (p : Parameters) (s : Sized p) (four : p.r ≤ 4) where
  -- row j of the columns of three digits
  abbrev f : ℕ → ℕ → ℕ
  f j = check_row (four_rows p.q p.n) j

  three : (i : ℕ) → i < p.n → digits p.q 3 (suc i) ≡ digits p.q (p.r - 1) (suc i) ++ replicate (3 - (p.r - 1)) 0
  three i h =
      let e : 3 ≡ p.r - 1 + (3 - (p.r - 1)) = omega arith in
      ap (λ (k : ℕ). digits p.q k (suc i)) e
      ∙ digits_more p.q (p.r - 1) (3 - (p.r - 1)) (suc i) (q_positive p s) (le_trans (suc-le-suc h) s.columns)

  row_of : (j i : ℕ) → j < p.r - 1 → i < p.n → check_row p j i ≡ f j i
  row_of j i h l =
      let k : j < 4 - 1 = omega arith in
      digit_row_lem p j i h
      ∙ sym (get_or-append (digits p.q (p.r - 1) (suc i)) (replicate (3 - (p.r - 1)) 0) 0 j (rw length_digits h))
      ∙ ap (λ (d : List ℕ). get_or d j 0) (sym (three i l))
      ∙ sym (digit_row_lem (four_rows p.q p.n) j i k)

  digit_sum_lem : (i : ℕ) → i < p.n → weight (digits p.q (p.r - 1) (suc i)) ≡ f 0 i + f 1 i + f 2 i
  digit_sum_lem i h =
      let e : weight (digits p.q 3 (suc i)) ≡ f 0 i + f 1 i + f 2 i = omega arith in
      sym (weight_zeros_after (digits p.q (p.r - 1) (suc i)) (3 - (p.r - 1))) ∙ ap weight (sym (three i h)) ∙ e

  -- The reduced sums of a word of n symbols, by the sums of these rows.

  module _ (c : List ℕ) (size : length c ≡ p.n) where
    abbrev total : ℕ → ℕ
    total j = dot (f j) c

    row_total : (j : ℕ) → j < p.r - 1 → dot (check_row p j) c ≡ total j
    row_total j h = dot_same (check_row p j) (f j) c (λ i l. row_of j i h (rw size at l))

    two_total : dot (reduced_two p) c ≡ total 0 + total 1 + total 2 + (p.q - 1) * total 3
    two_total =
        dot_same (reduced_two p) (λ i. f 0 i + f 1 i + f 2 i + (p.q - 1) * f 3 i) c
        (λ i l. ap₂ (λ (x y : ℕ). x + (p.q - 1) * y) (digit_sum_lem i (rw size at l)) (last_row p i))
        ∙ dot_add (λ i. f 0 i + f 1 i + f 2 i) (λ i. (p.q - 1) * f 3 i) c
        ∙ ap₂ (λ (x y : ℕ). x + y)
        (dot_add (λ i. f 0 i + f 1 i) (f 2) c ∙ ap (λ (x : ℕ). x + total 2) (dot_add (f 0) (f 1) c)) (dot_scale (p.q - 1) (f 3) c)

    power_total : (j : ℕ) → j < p.r - 1 → dot (reduced_row p (suc j)) c ≡ total j + (p.q - check_row p j 1) * dot (reduced_two p) c
    power_total j h =
        dot_add (check_row p j) (λ i. (p.q - check_row p j 1) * reduced_two p i) c
        ∙ ap₂ (λ (x y : ℕ). x + y) (row_total j h) (dot_scale (p.q - check_row p j 1) (reduced_two p) c)

    -- The check symbols e make up for them.

    module _ (sums e : List ℕ) (are : (j : ℕ) → j < 4 → get_or sums j 0 ≡ syndrome (four_rows p.q p.n) c j)
        (solves : Solves p.q sums e) where
      sum_is : (j : ℕ) → j < 4 → Congruent p.q (get_or sums j 0) (total j)
      unfolding syndrome
      sum_is j h = of_eq (are j h) then reduce p.q (total j)

      makes_two : Congruent p.q (get_or e 0 0 + dot (reduced_two p) c) 0
      makes_two =
          let d : ℕ = total 0 + total 1 + total 2 in
          let g : get_or e 0 0 + dot (reduced_two p) c ≡ get_or e 0 0 + d + (p.q - 1) * total 3 = rw two_total (omega arith) in
          let h : total 3 + (p.q - 1) * total 3 ≡ 0 + total 3 * p.q = omega (arith, times_pred p.q (total 3) (q_positive p s)) in
          let k : Congruent p.q (get_or e 0 0 + d) (total 3) =
          add (same (get_or e 0 0)) (symm (add (add (sum_is 0 (omega arith)) (sum_is 1 (omega arith))) (sum_is 2 (omega arith))))
          then solves.two then sum_is 3 (omega arith) in
          of_eq g then add k (same ((p.q - 1) * total 3)) then of_eq h then multiple p.q 0 (total 3)

      -- u times the symbol at position 2 is what the reduced rows take away
      turned : (u : ℕ) → u ≤ p.q → Congruent p.q ((p.q - u) * dot (reduced_two p) c) (u * get_or e 0 0)
      turned u l =
          let z : ℕ = get_or e 0 0 in
          let w : ℕ = p.q - u in
          let a : w * dot (reduced_two p) c + w * z ≡ w * (z + dot (reduced_two p) c) = omega arith in
          let b : u + w ≡ p.q = omega arith in
          let d : u * z + w * z ≡ 0 + z * p.q = omega (arith, ap (λ (x : ℕ). z * x) b) in
          cancel (w * z) (of_eq a then scale w makes_two then of_eq (mul-zero w) then symm (multiple p.q 0 z) then of_eq (sym d))

      makes_power : (j u : ℕ) → suc j < p.r → check_row p j 1 ≡ u → u ≤ p.q
          → Congruent p.q (get_or e (suc j) 0 + (get_or sums j 0 + u * get_or e 0 0)) 0
          → Congruent p.q (get_or e (suc j) 0 + dot (reduced_row p (suc j)) c) 0
      makes_power j u h r l k =
          let m : j < p.r - 1 = omega arith in
          of_eq (ap (λ (x : ℕ). get_or e (suc j) 0 + x) (power_total j m ∙ ap (λ (x : ℕ). total j + (p.q - x) * dot (reduced_two p) c) r))
          then add (same (get_or e (suc j) 0)) (add (symm (sum_is j (omega arith))) (turned u l))
          then k

      pub makes : (k : ℕ) → k < p.r → Congruent p.q (get_or e k 0 + dot (reduced_row p k) c) 0
      makes zero h = makes_two
      makes (suc zero) h = makes_power 0 2 h (row_two_first p s) (omega (arith, s.levels)) solves.one
      makes (suc (suc j)) h =
          let x : ℕ = get_or e (suc (suc j)) 0 in
          let g : x + (get_or sums (suc j) 0 + 0 * get_or e 0 0) ≡ x + get_or sums (suc j) 0 = omega arith in
          makes_power (suc j) 0 h (row_two_other p s j h) zero-le (of_eq g then solves.powers (suc j) (omega arith) (omega arith))

-- Setting them one after the other.

-- d is c with the check symbols before the k-th set, so that their reduced sums vanish; at the later check positions it is 0 as c is
record Filling (p : Parameters) (a c d : List ℕ) (k : ℕ) : Type 0 where
  solves : Solution p a d k
  kept : (l : ℕ) → k ≤ l → l < p.r → Congruent p.q (dot (reduced_row p l) d) (dot (reduced_row p l) c)
  zeros : (l : ℕ) → k ≤ l → l < p.r → get_or d (pivot p l) 0 ≡ 0

-- the message with 0 at the check positions
abbrev pub bare : Parameters → List ℕ → List ℕ
bare p a = merge (check_at p) p.n [] a

pub at_pivot : (p : Parameters) (d : List ℕ) (k y : ℕ) → set d (check_position p.q k - 1) y ≡ set d (pivot p k) y
at_pivot p d zero y = refl
at_pivot p d (suc j) y = refl

module _ (p : Parameters) (s : Sized p) (a : List ℕ) (w : T (is_word p.q (message_length p) a)) where
  filled_none : Filling p a (bare p a) (bare p a) 0
  filled_none =
      record {
        solves = merged p s a w [] (λ j. q_positive p s);
        kept = λ l h g. same (dot (reduced_row p l) (bare p a));
        zeros = λ l h g. merge_check (check_at p) p.n [] a (pivot p l) (pivot_below p s l g) (passes (pivot_check p s l g));
      }

  filled_more : {c d : List ℕ} {k : ℕ} → Filling p a c d k → k < p.r → (y : ℕ) → y < p.q → Congruent p.q (y + dot (reduced_row p k) c) 0
      → Filling p a c (set d (pivot p k) y) (suc k)
  filled_more {c} {d} {k} b h y small makes =
      let i : ℕ = pivot p k in
      record {
        solves =
            step p s b.solves h y small
            (add (b.kept k (le_refl k) h) (same y) then of_eq (add_comm (dot (reduced_row p k) c) y) then makes
            then of_eq (sym (b.zeros k (le_refl k) h)));
        kept = λ l m n.
            dot_set_zero (reduced_row p l) d i y (pivot_inside p s b.solves h) (reduced_other p s l k n h (omega arith))
            then b.kept l (omega arith) n;
        zeros = λ l m n. get_or-set_other d i (pivot p l) y 0 (apart l m n) ∙ b.zeros l (omega arith) n;
      }
    where
      apart : (l : ℕ) → suc k ≤ l → l < p.r → pivot p l ≢ pivot p k
      apart l m n e = let g : l ≡ k = pivot_injective p s l k n h e in omega arith

  module _ (sums e : List ℕ) (four : p.r ≤ 4) (are : (j : ℕ) → j < 4 → get_or sums j 0 ≡ syndrome (four_rows p.q p.n) (bare p a) j)
      (solves : Solves p.q sums e) where
    fill : (k : ℕ) → k ≤ p.r → Filling p a (bare p a) (checked p.q e (bare p a) k) k
    fill zero h = filled_none
    fill (suc k) h =
        rw (at_pivot p (checked p.q e (bare p a) k) k (get_or e k 0))
        (filled_more (fill k (omega arith)) h (get_or e k 0) (solves.below k (omega arith))
        (makes p s four (bare p a) (length_merge (check_at p) p.n [] a) sums e are solves k h))

    pub solved : checked p.q e (bare p a) p.r ≡ component p a
    solved =
        let x : List ℕ = checked p.q e (bare p a) p.r in
        let b : Solution p a x p.r = (fill p.r (le_refl p.r)).solves in
        unique p s {a = a}
        (record {
          word = word_of p.q p.n x b.size b.below;
          code = zero_code p x (rows_reduced p s x b.sums);
          holds = b.holds;
        })
        (component_holding p s a w)
