-- Decoding tries as many positions as the definition counts: where it searches, the position found is that of the reading. And what is
-- counted for a corrected word follows from its position: a changed symbol of the body puts off the weight and its own check sum alone.
-- Assumes nothing.
use mathlib.Core.Path.{◌≡◌, refl, sym, ap, subst, ◌∙◌}
use mathlib.Core.Logic.{⊎_elim, ◌≢◌}
use mathlib.Core.Bool.{Bool, true, false, not}
use mathlib.Core.List.{List}
use Prim.Native.Nat.{ℕ, suc, ◌+◌, ◌/◌, ◌≤◌, ◌<◌}
use native.Mathlib.Numerals.{add-one}
use native.Mathlib.Omega.{arith}
use lib.Dec.{T, eqb, leb, ltb, eqb→eq}
use lib.ListN.{get_or, set}
use lib.IntN.{pos}
use borrow.Author.Tests.{lt-ltb, le-ltb, le-leb, lt-leb, eq-eqb, ne_eqb}
use Rattle.modular_theory.specs.Level.{is_zero}
use Rattle.modular_theory.proofs.Search.{eq_test, holds, le_or_lt, same_test}
use Rattle.modular_theory.proofs.Integer.{zero_test, zero_fails}
use Rattle.code_theory.specs.Parameters.{Parameters, Sized, balanced_length, codeword_length}
use Rattle.code_theory.specs.Component.{is_word}
use Rattle.code_theory.specs.Codeword.{alpha, beta, body, is_balanced, check_sum_agrees, codeword}
use Rattle.code_theory.specs.Erasures.{erasures}
use Rattle.code_theory.specs.Reading.{Correction, corrected, Reading, read, reading}
use Rattle.code_theory.specs.TriedPositions.{positions_up_to, searched, last_tried, tried_positions}
use Rattle.code_theory.specs.Claims.{OneNear}
use Rattle.code_theory.proofs.Merge.{cases}
use Rattle.code_theory.proofs.Errors.{CorrectedBy, reading_corrected}
use Rattle.code_theory.proofs.TriedPositions.{up_to_odd, up_to_even, of_body, searched_of, tried_in_lem, balanced_before, counts_told}
use Rattle.decoding_theory.specs.Syndromes.{index}
use Rattle.decoding_theory.specs.Decoded.{Sums, position_count, first_fit, read_by, read_fit, decoded_body, agrees}
use Rattle.decoding_theory.specs.TriedPositions.{tried_body, tried_unbalanced, tried_by, tried_of}
use Rattle.decoding_theory.proofs.Tests.{false_test}
use Rattle.decoding_theory.proofs.Changed.{OfParity, of_parity, in_parity, Summed, summed, weighs_target, no_excess}
use Rattle.decoding_theory.proofs.Fits.{unbalanced, other_agrees, own_disagrees}
use Rattle.decoding_theory.proofs.Decoded.{body_decoded}

-- the positions of a parity up to index k of them, and all
up_to_index : (b : Bool) (k : ℕ) → positions_up_to b (index b k + 1) ≡ suc k
up_to_index true k = omega (arith, up_to_odd (index true k + 1))
up_to_index false k = omega (arith, up_to_even (index false k + 1))

up_to_last : (p : Parameters) (b : Bool) → positions_up_to b (balanced_length p) ≡ position_count p b
up_to_last p true = of_body p true ∙ add-one p.n
up_to_last p false = of_body p false

-- half of the position, rounded up
halved : (b : Bool) (k : ℕ) → suc k ≡ (index b k + 1 + 1) / 2
halved true k = omega arith
halved false k = omega arith

-- a test of equality, the other way round
eqb_turned : (a b : ℕ) → eqb a b ≡ eqb b a
eqb_turned a b = same_test (eqb a b) (eqb b a) (λ t. eq_test (sym (eqb→eq a b t))) (λ t. eq_test (sym (eqb→eq b a t)))

-- what a search counts: where it finds index k of the parity, and where it finds none
module _ (p : Parameters) (t : Sums) (b : Bool) (v : List ℕ) where
  pub tried_to_lem : {k : ℕ} → first_fit p t b v ≡ k → k < position_count p b → suc k ≡ tried_body p t b v
  unfolding tried_body decoded_body read_fit read_by
  tried_to_lem {k} e l =
      let found : ltb (first_fit p t b v) (position_count p b) ≡ true = lt-ltb (first_fit p t b v) (position_count p b) (omega arith) in
      rw (found, decoded_body) (sym (ap suc e) ∙ sym (up_to_index b (first_fit p t b v)))

  pub tried_all : first_fit p t b v ≡ position_count p b → position_count p b ≡ tried_body p t b v
  unfolding tried_body decoded_body
  tried_all e =
      let none : ltb (first_fit p t b v) (position_count p b) ≡ false = le-ltb (first_fit p t b v) (position_count p b) (omega arith) in
      rw (none, decoded_body) (sym (up_to_last p b))

-- a check symbol is as asked where 02 says that its check sum agrees
pub agrees_is : (p : Parameters) {v : List ℕ} {t : Sums} → Summed p v t → (b : Bool) → agrees t b ≡ check_sum_agrees p b v
unfolding check_sum_agrees
agrees_is p {v} m true = rw (m.asked true, m.arrived true) (eqb_turned (alpha p.q (body p v)) _)
agrees_is p {v} m false = rw (m.asked false, m.arrived false) (eqb_turned (beta p.q (body p v)) _)

module _ (p : Parameters) (s : Sized p) {v : List ℕ} (w : T (is_word p.q (codeword_length p) v)) (none : erasures v ≡ 0) {t : Sums}
    (m : Summed p v t) where
  searched_by : (b : Bool) → t.excess ≢ pos 0 → agrees t b ≡ false → agrees t (not b) ≡ true → T (searched p b v)
  unfolding is_balanced
  searched_by b a wrong right =
      searched_of p v b none (λ h. a (no_excess m (eqb→eq _ _ h))) (false_test (sym (agrees_is p m b) ∙ wrong))
      (holds _ (sym (agrees_is p m (not b)) ∙ right))

  -- A corrected symbol of the body, and of the check symbols.

  body_corrected : (i y : ℕ) → OfParity p i → y < p.q → y ≢ get_or v i 0 → T (codeword p (set v i y))
      → last_tried p (reading p v) ≡ i + 1 → tried_positions p v ≡ (i + 1 + 1) / 2
  body_corrected i y (of_parity b k l) below differs h last =
      let wrong : agrees t b ≡ false = ne_eqb _ _ (own_disagrees p s w m b k y l h below differs) in
      let right : agrees t (not b) ≡ true = eq-eqb _ _ (other_agrees p s w m b k y l h below differs) in
      tried_in_lem p v b (searched_by b (unbalanced p s w m b k y l h below differs) wrong right) ∙ ap (positions_up_to b) last ∙ up_to_index b k
      ∙ halved b k

  -- up to position k, as the claim has it (codec_claims: tried_to)
  abbrev count_to : ℕ → ℕ
  count_to k = elim (leb k (balanced_length p)) [ true ↦ (k + 1) / 2 | false ↦ 0 ]

  pub corrected_tried : (c : Correction) (a a' : List ℕ) → reading p v ≡ read (corrected c) a a'
      → tried_positions p v ≡ count_to c.position
  corrected_tried c a a' e =
      subst (λ (c : Correction). tried_positions p v ≡ count_to c.position) was.is (⊎_elim past inside (le_or_lt (balanced_length p) i))
    where
      was : CorrectedBy p v c
      was = reading_corrected p v c a a' e

      i : ℕ
      i = was.index

      last : last_tried p (reading p v) ≡ i + 1
      last = ap (last_tried p) e ∙ sym (ap (λ (c : Correction). c.position) was.is)

      past : balanced_length p ≤ i → tried_positions p v ≡ count_to (i + 1)
      past l =
          let test : leb (i + 1) (balanced_length p) ≡ false = lt-leb (i + 1) (balanced_length p) (omega arith) in
          rw (test, count_to) ((counts_told p v).if_balanced (balanced_before p v i was.symbol l was.makes))

      inside : i < balanced_length p → tried_positions p v ≡ count_to (i + 1)
      inside l =
          let test : leb (i + 1) (balanced_length p) ≡ true = le-leb (i + 1) (balanced_length p) (omega arith) in
          rw (test, count_to)
          (body_corrected i was.symbol (in_parity p i l) was.below (λ z. was.differs (sym z)) was.makes last)

  -- Where at most one codeword is near, the search finds it.
  module _ (one : OneNear p) where
    body_tried : (b : Bool) → t.excess ≢ pos 0 → agrees t b ≡ false → agrees t (not b) ≡ true → tried_body p t b v ≡ tried_positions p v
    unfolding tried_body
    body_tried b a wrong right =
        ap (λ (d : Reading). positions_up_to b (last_tried p d)) (body_decoded p s one w m b a right)
        ∙ sym (tried_in_lem p v b (searched_by b a wrong right))

    alike : (c : Bool) → agrees t true ≡ c → agrees t false ≡ c → 0 ≡ tried_positions p v
    alike c f g = sym ((counts_told p v).if_alike (sym (agrees_is p m true) ∙ f ∙ sym g ∙ agrees_is p m false))

    unbalanced_tried : t.excess ≢ pos 0 → tried_unbalanced p t v ≡ tried_positions p v
    unfolding tried_unbalanced
    unbalanced_tried a = go (agrees t true) (agrees t false) refl refl
      where
        go : (c d : Bool) → agrees t true ≡ c → agrees t false ≡ d → tried_unbalanced p t v ≡ tried_positions p v
        go true true f g = rw (f, tried_unbalanced, g) (alike true f g)
        go true false f g = rw (f, tried_unbalanced, g) (body_tried false a g f)
        go false true f g = rw (f, tried_unbalanced, g) (body_tried true a f g)
        go false false f g = rw (f, tried_unbalanced, g) (alike false f g)

    tried_by_lem : tried_by p t v ≡ tried_positions p v
    unfolding tried_by is_balanced
    tried_by_lem =
        cases (is_zero t.excess)
        (λ e. rw (e, tried_by) (sym ((counts_told p v).if_balanced (eq_test (weighs_target m (zero_test _ e))))))
        (λ e. rw (e, tried_by) (unbalanced_tried (zero_fails _ e)))

pub tried_positions_lem : (p : Parameters) → Sized p → OneNear p → (v : List ℕ) → T (is_word p.q (codeword_length p) v) → erasures v ≡ 0
    → tried_of p v ≡ tried_positions p v
unfolding tried_of
tried_positions_lem p s one v w none = tried_by_lem p s w none (summed p v) one
