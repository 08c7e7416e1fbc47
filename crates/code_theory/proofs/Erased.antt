-- A word with erasures is read as the codeword that agrees with it: those that agree are its fillings, and two of them differ in erased
-- positions only.
-- Assumes nothing.
use mathlib.Core.Path.{◌≡◌, refl, sym, ap, subst, ◌∙◌}
use mathlib.Core.Logic.{⊎_elim, ◌≢◌, ◌↔◌}
use mathlib.Core.List.{List}
use Prim.Native.Nat.{ℕ, suc, ◌^◌, ◌≤◌, ◌<◌}
use native.Mathlib.Nat.{le_trans}
use native.Mathlib.Omega.{arith}
use lib.Dec.{T}
use lib.ListN.{length, get_or, set, length-set}
use lib.Seq.{get_or-set_same, get_or-set_other, lt-length-set}
use borrow.Author.Tests.{lt-ltb, le-ltb, ne_eqb}
use Rattle.modular_theory.specs.Digits.{digits}
use Rattle.modular_theory.proofs.Search.{le_or_lt, least_hit, least_some}
use Rattle.modular_theory.proofs.Digits.{digits_onto}
use Rattle.code_theory.specs.Parameters.{Parameters, Sized, codeword_length}
use Rattle.code_theory.specs.Component.{Below, erasure}
use Rattle.code_theory.specs.Codeword.{codeword}
use Rattle.code_theory.specs.Erasures.{erasures, Agrees, fill, filling, first_filling}
use Rattle.code_theory.specs.Reading.{Change, filled, unreadable, read_as, filled_as, filled_reading, received_reading}
use Rattle.code_theory.specs.Claims.{Separated, ErasuresFilled, ErasedByFilling}
use Rattle.code_theory.proofs.Columns.{q_positive}
use Rattle.code_theory.proofs.Merge.{word_length, word_below}
use Rattle.code_theory.proofs.Distance.{equal_or_not}
use Rattle.code_theory.proofs.Conditions.{conditions}
use Rattle.code_theory.proofs.Reading.{never, codeword_word}
use Rattle.code_theory.proofs.Whole.{none_erased}
use Rattle.code_theory.proofs.Filling.{erased_symbols, length_erased, erased_below, fill_agrees, fill_erased, agree_near}
use Rattle.code_theory.proofs.Filling.{Whole, erasures_set, changes_one, changes_two}

pub erased_by_filling : ErasedByFilling
unfolding received_reading
erased_by_filling p v h = rw (ne_eqb (erasures v) 0 (λ e. omega arith), received_reading)

module _ (p : Parameters) (v : List ℕ) where
  reads_first : first_filling p v < p.q ^ erasures v → filled_reading p v ≡ filled_as p v (filling p v (first_filling p v))
  unfolding filled_reading
  reads_first l = rw (lt-ltb (first_filling p v) (p.q ^ erasures v) l, filled_reading)

  reads_none : p.q ^ erasures v ≤ first_filling p v → filled_reading p v ≡ unreadable
  unfolding filled_reading
  reads_none l = rw (le-ltb (first_filling p v) (p.q ^ erasures v) l, filled_reading)

  -- the filling found is a codeword, and agrees
  found_codeword : first_filling p v < p.q ^ erasures v → T (codeword p (filling p v (first_filling p v)))
  unfolding first_filling
  found_codeword l = least_hit (λ e. codeword p (filling p v e)) (p.q ^ erasures v) l

  filling_agrees : (e : ℕ) → Agrees v (filling p v e)
  unfolding filling
  filling_agrees e = fill_agrees v (digits p.q (erasures v) e)

module _ (p : Parameters) (s : Sized p) where
  below : (u : List ℕ) → T (codeword p u) → Below p.q u
  below u h = word_below p.q (codeword_length p) u (q_positive p s) (codeword_word p s u h)

  module _ (v u : List ℕ) (h : T (codeword p u)) (a : Agrees v u) where
    -- a codeword that agrees is one of the fillings, so one is found
    is_filling : (e : ℕ) × (e < p.q ^ erasures v) × (filling p v e ≡ u)
    unfolding filling
    is_filling =
        let n : length (erased_symbols v u) ≡ erasures v = length_erased v u in
        let (e, l, d) = digits_onto p.q (erased_symbols v u) (λ i k. erased_below p.q v u (below u h) i) in
        (e, rw n at l, ap (λ (k : ℕ). fill v (digits p.q k e)) (sym n) ∙ ap (fill v) d ∙ fill_erased v u a)

    found : first_filling p v < p.q ^ erasures v
    unfolding first_filling
    found =
        let (e, l, d) = is_filling in
        least_some (λ e. codeword p (filling p v e)) (p.q ^ erasures v) e l (subst (λ (x : List ℕ). T (codeword p x)) (sym d) h)

  refused : (v : List ℕ) → (filled_reading p v ≡ unreadable) ↔ ((u : List ℕ) → T (codeword p u) → Agrees v u → ⊥)
  refused v = (
    λ e u h a. never (sym (reads_first p v (found v u h a)) ∙ e),
    λ f.
        ⊎_elim (λ (l : p.q ^ erasures v ≤ first_filling p v). reads_none p v l)
        (λ (l : first_filling p v < p.q ^ erasures v).
        absurd (f (filling p v (first_filling p v)) (found_codeword p v l) (filling_agrees p v (first_filling p v))))
        (le_or_lt (p.q ^ erasures v) (first_filling p v)),
  )

  module _ (k : ℕ) (far : Separated p k) where
    only : (v u u' : List ℕ) → erasures v ≤ k → T (codeword p u) → T (codeword p u') → Agrees v u → Agrees v u' → u ≡ u'
    only v u u' l h h' a a' = far u u' h h' (le_trans (agree_near v u u' a a') l)

    reads : (v u : List ℕ) → erasures v ≤ k → T (codeword p u) → Agrees v u → filled_reading p v ≡ filled_as p v u
    reads v u l h a =
        let e : ℕ = first_filling p v in
        let f : e < p.q ^ erasures v = found v u h a in
        reads_first p v f ∙ ap (filled_as p v) (only v (filling p v e) u l (found_codeword p v f) h (filling_agrees p v e) a)

-- a word still agrees where one more symbol is erased
agrees_set : (v u : List ℕ) (i : ℕ) → i < length v → Agrees v u → Agrees (set v i erasure) u
agrees_set v u i l a = record { long = a.long ∙ sym (length-set v i erasure); at = at }
  where
    at : (j : ℕ) → j < length (set v i erasure) → get_or (set v i erasure) j 0 ≢ erasure → get_or u j 0 ≡ get_or (set v i erasure) j 0
    at j m n =
        ⊎_elim (λ (e : j ≡ i). absurd (n (rw e (get_or-set_same v i erasure 0 l))))
        (λ (d : j ≢ i).
        let o : get_or (set v i erasure) j 0 ≡ get_or v j 0 = get_or-set_other v i j erasure 0 d in
        a.at j (rw length-set at m) (λ x. n (o ∙ x)) ∙ sym o)
        (equal_or_not j i)

-- A codeword with one symbol erased, and with two.
module _ (p : Parameters) (s : Sized p) (small : p.q ≤ erasure) (u : List ℕ) (h : T (codeword p u)) where
  whole : Whole u
  whole i e = omega (arith, below p s u h i)

  within : (i : ℕ) → i < codeword_length p → i < length u
  within i l = rw (word_length p.q (codeword_length p) u (codeword_word p s u h)) l

  agrees_self : Agrees u u
  agrees_self = record { long = refl; at = λ i l n. refl }

  module _ (i : ℕ) (l : i < codeword_length p) where
    one_erased : erasures (set u i erasure) ≡ 1
    one_erased = erasures_set u i (within i l) (whole i) ∙ ap suc (none_erased p.q small u (conditions p (q_positive p s) u h).below)

    one_agrees : Agrees (set u i erasure) u
    one_agrees = agrees_set u u i (within i l) agrees_self

    module _ (j : ℕ) (b : i < j) (m : j < codeword_length p) where
      still : j < length (set u i erasure)
      still = lt-length-set u i erasure (within j m)

      two_erased : erasures (set (set u i erasure) j erasure) ≡ 2
      two_erased =
          let other : get_or (set u i erasure) j 0 ≡ get_or u j 0 = get_or-set_other u i j erasure 0 (λ e. omega arith) in
          erasures_set (set u i erasure) j still (λ e. whole j (sym other ∙ e)) ∙ ap suc one_erased

      two_agrees : Agrees (set (set u i erasure) j erasure) u
      two_agrees = agrees_set (set u i erasure) u j still one_agrees

pub erasures_filled : ErasuresFilled
erasures_filled p s small k far =
    record {
      reads = reads p s k far;
      only = only p s k far;
      refused = refused p s;
      one = λ a u h i l.
          let v : List ℕ = set u i erasure in
          let e : erasures v ≡ 1 = one_erased p s small u h i l in (
            e,
            reads p s k far v u (omega arith) h (one_agrees p s small u h i l)
                ∙ ap (λ (c : List Change). read_as p (filled c) u)
                (changes_one u i 1 (whole p s small u h) (within p s small u h i l)),
          );
      two = λ a u h i j b m.
          let v : List ℕ = set (set u i erasure) j erasure in
          let l : i < codeword_length p = omega arith in
          let e : erasures v ≡ 2 = two_erased p s small u h i l j b m in (
            e,
            reads p s k far v u (omega arith) h (two_agrees p s small u h i l j b m)
                ∙ ap (λ (c : List Change). read_as p (filled c) u)
                (changes_two u i j 1 (whole p s small u h) b (within p s small u h j m)),
          );
    }
