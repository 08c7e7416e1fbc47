-- Decoding gives the reading, by the cases of its tests.
-- Assumes nothing.
use mathlib.Core.Path.{◌≡◌, refl, sym}
use mathlib.Core.Logic.{◌≢◌}
use mathlib.Core.Bool.{Bool, true, false, not}
use mathlib.Core.List.{List}
use Prim.Native.Nat.{ℕ, ◌≤◌, ◌<◌}
use native.Mathlib.Nat.{not-le_of_lt}
use lib.Dec.{T, ltb}
use lib.ListN.{get_or}
use lib.IntN.{pos}
use borrow.Author.Tests.{eqb-true, eqb-false, ltb-true, ltb-false}
use Rattle.modular_theory.specs.Level.{is_zero}
use Rattle.modular_theory.proofs.Integer.{zero_test, zero_fails}
use Rattle.modular_theory.proofs.Search.{least_hit, least_some, holds}
use Rattle.code_theory.specs.Parameters.{Parameters, Sized, codeword_length}
use Rattle.code_theory.specs.Component.{is_word}
use Rattle.code_theory.specs.Reading.{reading}
use Rattle.code_theory.specs.Claims.{OneNear}
use Rattle.decoding_theory.specs.Syndromes.{near_syndromes, index}
use Rattle.decoding_theory.specs.Decoded.{Sums, fits, position_count, first_fit, decoded_body}
use Rattle.decoding_theory.specs.Decoded.{agrees, decoded_balanced, decoded_unbalanced, decoded_by, decoded}
use Rattle.decoding_theory.proofs.Tests.{false_test, for_both}
use Rattle.decoding_theory.proofs.Changed.{Summed, summed}
use Rattle.decoding_theory.proofs.Outcomes.{clean_reading, check_reading, fit_reading, far_refused}
use Rattle.decoding_theory.proofs.Outcomes.{checks_refused, right_refused, wrong_refused, unfit_refused}

module _ (p : Parameters) (s : Sized p) (one : OneNear p) {v : List ℕ} (w : T (is_word p.q (codeword_length p) v)) {t : Sums}
    (m : Summed p v t) where
  -- both check symbols, from the values of their tests
  agree : agrees t true ≡ true → agrees t false ≡ true → (b : Bool) → t.asked b ≡ t.arrived b
  agree f g = for_both true (λ b. t.asked b ≡ t.arrived b) (eqb-true _ _ f) (eqb-true _ _ g)

  disagree : agrees t true ≡ false → agrees t false ≡ false → (b : Bool) → t.asked b ≢ t.arrived b
  disagree f g = for_both true (λ b. t.asked b ≢ t.arrived b) (eqb-false _ _ f) (eqb-false _ _ g)

  pub body_decoded : (b : Bool) → t.excess ≢ pos 0 → agrees t (not b) ≡ true → decoded_body p t b v ≡ reading p v
  unfolding decoded_body first_fit
  body_decoded b a r = go (ltb (first_fit p t b v) (position_count p b)) refl
    where
      test : ℕ → Bool
      test k = fits p t b k (get_or v (index b k) 0)

      go : (c : Bool) → ltb (first_fit p t b v) (position_count p b) ≡ c → decoded_body p t b v ≡ reading p v
      go true e =
          let l : first_fit p t b v < position_count p b = ltb-true _ _ e in
          let hit = least_hit test (position_count p b) l in
          rw (e, decoded_body) (sym (fit_reading p s one w m b (first_fit p t b v) l a (eqb-true _ _ r) hit))
      go false e =
          let l : position_count p b ≤ first_fit p t b v = ltb-false _ _ e in
          rw (e, decoded_body)
          (sym (unfit_refused p s one w m b a (eqb-true _ _ r) (λ k h o. not-le_of_lt (least_some test (position_count p b) k h o) l)))

  balanced_decoded : t.excess ≡ pos 0 → decoded_balanced p t v ≡ reading p v
  unfolding decoded_balanced
  balanced_decoded a = go (near_syndromes p t.first t.second) (agrees t true) (agrees t false) refl refl refl
    where
      go : (n c d : Bool) → near_syndromes p t.first t.second ≡ n → agrees t true ≡ c → agrees t false ≡ d
          → decoded_balanced p t v ≡ reading p v
      go false c d e f g = rw (e, decoded_balanced) (sym (far_refused p s one w m a (false_test e)))
      go true true true e f g = rw (e, decoded_balanced, f, g) (sym (clean_reading p s one w m a (holds _ e) (agree f g)))
      go true true false e f g =
          rw (e, decoded_balanced, f, g) (sym (check_reading p s one w m false a (holds _ e) (eqb-true _ _ f) (eqb-false _ _ g)))
      go true false true e f g =
          rw (e, decoded_balanced, f, g) (sym (check_reading p s one w m true a (holds _ e) (eqb-true _ _ g) (eqb-false _ _ f)))
      go true false false e f g = rw (e, decoded_balanced, f, g) (sym (checks_refused p s one w m a (disagree f g)))

  unbalanced_decoded : t.excess ≢ pos 0 → decoded_unbalanced p t v ≡ reading p v
  unfolding decoded_unbalanced
  unbalanced_decoded a = go (agrees t true) (agrees t false) refl refl
    where
      go : (c d : Bool) → agrees t true ≡ c → agrees t false ≡ d → decoded_unbalanced p t v ≡ reading p v
      go true true f g = rw (f, decoded_unbalanced, g) (sym (right_refused p s one w m a (agree f g)))
      go true false f g = rw (f, decoded_unbalanced, g) (body_decoded false a f)
      go false true f g = rw (f, decoded_unbalanced, g) (body_decoded true a g)
      go false false f g = rw (f, decoded_unbalanced, g) (sym (wrong_refused p s one w m a (disagree f g)))

  -- by any sums of v
  pub decoded_by_lem : decoded_by p t v ≡ reading p v
  unfolding decoded_by
  decoded_by_lem = go (is_zero t.excess) refl
    where
      go : (c : Bool) → is_zero t.excess ≡ c → decoded_by p t v ≡ reading p v
      go true e = rw (e, decoded_by) (balanced_decoded (zero_test _ e))
      go false e = rw (e, decoded_by) (unbalanced_decoded (zero_fails _ e))

pub decoded_reading : (p : Parameters) → Sized p → OneNear p → (v : List ℕ) → T (is_word p.q (codeword_length p) v)
    → decoded p v ≡ reading p v
unfolding decoded
decoded_reading p s one v w = decoded_by_lem p s one w (summed p v)
