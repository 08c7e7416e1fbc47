-- Filling by the sums gives the reading: where it answers, by a filling that is a codeword; where it refuses, no filling is one.
-- Assumes nothing.
use mathlib.Core.Path.{◌≡◌, refl, sym, ap, ap₂, subst, ◌∙◌}
use mathlib.Core.Logic.{⊎_elim, ◌≢◌}
use mathlib.Core.Bool.{Bool, false}
use mathlib.Core.List.{List, [], ◌∷◌}
use Prim.Native.Nat.{ℕ, ◌≤◌, ◌<◌}
use native.Mathlib.Nat.{not-le_of_lt}
use native.Mathlib.Omega.{arith}
use lib.Dec.{T, ltb}
use lib.ListN.{length, get_or, set}
use lib.Seq.{get_or-set_other}
use borrow.Author.Tests.{ltb-true, ltb-false}
use Rattle.modular_theory.proofs.Search.{holds, least_hit, least_some}
use Rattle.code_theory.specs.Parameters.{Parameters, Sized, codeword_length}
use Rattle.code_theory.specs.Component.{Below, is_word, erasure, levels_or_erasures}
use Rattle.code_theory.specs.Codeword.{codeword}
use Rattle.code_theory.specs.Erasures.{erasures, erased_indices, fill}
use Rattle.code_theory.specs.Reading.{Change, filled, unreadable, read_as, filled_reading}
use Rattle.code_theory.specs.Claims.{Separated, Fills}
use Rattle.code_theory.proofs.Columns.{q_positive}
use Rattle.code_theory.proofs.Merge.{cases, word_below}
use Rattle.code_theory.proofs.Distance.{equal_or_not}
use Rattle.code_theory.proofs.Reading.{codeword_word}
use Rattle.code_theory.proofs.Filling.{erased_symbols, length_erased, erased_below, fill_agrees, fill_erased}
use Rattle.code_theory.proofs.Erased.{erasures_filled}
use Rattle.code_theory.proofs.Whole.{length_indices}
use Rattle.decoding_theory.specs.Decoded.{Sums}
use Rattle.decoding_theory.specs.Filled.{Erased, erased_at, sums_with, wanted, fillable, fill_one, first_level, fill_two, fill_at}
use Rattle.decoding_theory.specs.Filled.{set_all, changes_by, read_filled, cleared, decoded_erased}
use Rattle.decoding_theory.proofs.Tests.{false_test}
use Rattle.decoding_theory.proofs.Changed.{Summed, summed}
use Rattle.decoding_theory.proofs.Fits.{word_set}
use Rattle.decoding_theory.proofs.Cleared.{cleared_word, fill_sets, changes_by_lem}
use Rattle.decoding_theory.proofs.Cleared.{OneAt, one_erased, TwoAt, two_erased}
use Rattle.decoding_theory.proofs.Effects.{AtIndex, placed}
use Rattle.decoding_theory.proofs.Fillable.{sums_with_lem, codeword_fillable, wanted_codeword, wanted_read}

module _ (p : Parameters) (s : Sized p) (k : ℕ) (law : Fills p k) (v : List ℕ) (n : length v ≡ codeword_length p)
    (levels : T (levels_or_erasures p.q v)) (few : erasures v ≤ k) {t : Sums} (m : Summed p (cleared v) t) where
  abbrev u : List ℕ
  u = cleared v

  word : T (is_word p.q (codeword_length p) u)
  word = cleared_word p (q_positive p s) v n levels

  -- With the indices of the erasures.
  module _ (is : List ℕ) (found : erased_indices 0 v ≡ is) where
    as_many : length is ≡ erasures v
    as_many = ap length (sym found) ∙ length_indices 0 v

    fill_is : (ys : List ℕ) → fill v ys ≡ set_all is ys u
    fill_is ys = fill_sets v ys ∙ ap (λ (l : List ℕ). set_all l ys u) found

    -- a filling that is a codeword gives the reading
    filled_reading_lem : (ys : List ℕ) → length ys ≡ length is → T (codeword p (set_all is ys u))
        → filled_reading p v ≡ read_as p (filled (changes_by is ys)) (set_all is ys u)
    filled_reading_lem ys l h =
        let said = changes_by_lem 0 v ys (l ∙ as_many) ∙ ap (λ (l : List ℕ). changes_by l ys) found in
        law.reads v (fill v ys) few (subst (λ (x : List ℕ). T (codeword p x)) (sym (fill_is ys)) h) (fill_agrees v ys)
        ∙ ap₂ (λ (cs : List Change) (x : List ℕ). read_as p (filled cs) x) said (fill_is ys)

    -- and where none is one the word is refused
    none_reading : ((ys : List ℕ) → length ys ≡ length is → Below p.q ys → T (codeword p (set_all is ys u)) → ⊥)
        → filled_reading p v ≡ unreadable
    none_reading f =
        (law.refused v).1
        (λ x h a.
        let ys : List ℕ = erased_symbols v x in
        let below : Below p.q x = word_below p.q (codeword_length p) x (q_positive p s) (codeword_word p s x h) in
        f ys (length_erased v x ∙ sym as_many) (erased_below p.q v x below)
        (subst (λ (x : List ℕ). T (codeword p x)) (sym (fill_erased v x a) ∙ fill_is ys) h))

  one_reading : (i : ℕ) → OneAt v i → read_filled p (i ∷ []) u (fill_one p (erased_at p i) t) ≡ filled_reading p v
  unfolding fill_one
  one_reading i o =
      cases (fillable p d t)
      (λ e.
      let h : T (fillable p d t) = holds _ e in
      let ys : List ℕ = wanted p.q d t ∷ [] in
      rw (e, fill_one)
      (wanted_read p s word m at o.is_zero_lem h (filled (changes_by (i ∷ []) ys))
      ∙ sym (filled_reading_lem (i ∷ []) o.found ys refl (wanted_codeword p s word m at o.is_zero_lem h))))
      (λ e. rw (e, fill_one) (sym (none_reading (i ∷ []) o.found (none e))))
    where
      d : Erased
      d = erased_at p i

      at : AtIndex p i d
      at = placed p i (subst (λ (x : ℕ). i < x) n o.within)

      none : fillable p d t ≡ false → (ys : List ℕ) → length ys ≡ 1 → Below p.q ys
          → T (codeword p (set_all (i ∷ []) ys u)) → ⊥
      none e [] l b h = omega arith
      none e (y ∷ []) l b h = false_test e (codeword_fillable p s word m at o.is_zero_lem y (b 0) h)
      none e (y ∷ z ∷ ys) l b h = omega arith

  two_reading : (i j : ℕ) → TwoAt v i j
      → read_filled p (i ∷ j ∷ []) u (fill_two p (erased_at p i) (erased_at p j) t) ≡ filled_reading p v
  unfolding fill_two first_level
  two_reading i j o =
      cases (ltb (first_level p d d' t) p.q)
      (λ e.
      let y : ℕ = first_level p d d' t in
      let l : y < p.q = ltb-true _ _ e in
      let h : T (test y) = least_hit test p.q l in
      let ys : List ℕ = y ∷ wanted p.q d' (sums_with p d y t) ∷ [] in
      rw (e, fill_two)
      (wanted_read p s (first_word y l) (first_sums y l) at' (still y) h (filled (changes_by is ys))
      ∙ sym (filled_reading_lem is o.found ys refl (wanted_codeword p s (first_word y l) (first_sums y l) at' (still y) h))))
      (λ e. rw (e, fill_two) (sym (none_reading is o.found (none e))))
    where
      is : List ℕ
      is = i ∷ j ∷ []

      d : Erased
      d = erased_at p i

      d' : Erased
      d' = erased_at p j

      inside : j < codeword_length p
      inside = subst (λ (x : ℕ). j < x) n o.within

      at : AtIndex p i d
      at = placed p i (omega (arith, o.less, inside))

      at' : AtIndex p j d'
      at' = placed p j inside

      test : ℕ → Bool
      test y = fillable p d' (sums_with p d y t)

      -- the word with the first one filled
      first_word : (y : ℕ) → y < p.q → T (is_word p.q (codeword_length p) (set u i y))
      first_word y l = word_set p u i y word l

      first_sums : (y : ℕ) → y < p.q → Summed p (set u i y) (sums_with p d y t)
      first_sums y l = sums_with_lem p s word m at o.first_zero y l

      still : (y : ℕ) → get_or (set u i y) j 0 ≡ 0
      still y = get_or-set_other u i j y 0 (λ e. omega (arith, o.less)) ∙ o.second_zero

      none : ltb (first_level p d d' t) p.q ≡ false → (ys : List ℕ) → length ys ≡ 2 → Below p.q ys
          → T (codeword p (set_all (i ∷ j ∷ []) ys u)) → ⊥
      none e [] l b h = omega arith
      none e (y ∷ []) l b h = omega arith
      none e (y ∷ z ∷ []) l b h =
          let f : T (test y) = codeword_fillable p s (first_word y (b 0)) (first_sums y (b 0)) at' (still y) z (b 1) h in
          not-le_of_lt (least_some test p.q y (b 0) f) (ltb-false _ _ e)
      none e (y ∷ z ∷ x ∷ ys) l b h = omega arith

-- A received word with one or two erasures, no more than the positions in which codewords are told apart.
module _ (p : Parameters) (s : Sized p) (small : p.q ≤ erasure) (k : ℕ) (far : Separated p k) (v : List ℕ)
    (n : length v ≡ codeword_length p) (levels : T (levels_or_erasures p.q v)) (some : 1 ≤ erasures v) (few : erasures v ≤ k)
    (most : k ≤ 2) where
  -- by any sums of the cleared word
  pub erased_by : {t : Sums} → Summed p (cleared v) t
      → read_filled p (erased_indices 0 v) (cleared v) (fill_at p (erased_indices 0 v) t) ≡ filled_reading p v
  erased_by m =
      let law : Fills p k = erasures_filled p s small k far in
      ⊎_elim
      (λ (e : erasures v ≡ 1).
      let (i, o) = one_erased v e in
      rw o.found (one_reading p s k law v n levels few m i o))
      (λ (e : erasures v ≢ 1).
      let (i, j, o) = two_erased v (omega arith) in
      rw o.found (two_reading p s k law v n levels few m i j o))
      (equal_or_not (erasures v) 1)

  pub erased_reading : decoded_erased p v ≡ filled_reading p v
  unfolding decoded_erased
  erased_reading = erased_by (summed p (cleared v))
