-- A received word is read as clean exactly where it is a codeword, and it is read at all exactly where some codeword may have been sent.
-- Assumes nothing.
use mathlib.Core.Path.{◌≡◌, refl, sym, ap, subst, ◌∙◌}
use mathlib.Core.Logic.{◌↔◌}
use mathlib.Core.Bool.{Bool, true, false}
use mathlib.Core.List.{List}
use Prim.Native.Nat.{ℕ, ◌^◌, ◌≤◌}
use native.Mathlib.Nat.{not-le_of_lt, lt_of_not-le}
use native.Mathlib.Omega.{arith}
use lib.Dec.{T, eqb, ltb}
use lib.ListN.{length}
use borrow.Author.Tests.{eqb-true, eqb-false}
use Rattle.modular_theory.specs.Residue.{Prime}
use Rattle.modular_theory.proofs.Search.{and_right, passes, fails, eq_test}
use Rattle.code_theory.specs.Parameters.{Parameters, Sized, codeword_length}
use Rattle.code_theory.specs.Component.{symbols_below, is_word, erasure, is_received}
use Rattle.code_theory.specs.Codeword.{codeword}
use Rattle.code_theory.specs.Erasures.{erasures, Agrees, first_filling}
use Rattle.code_theory.specs.Reading.{distance, Reading, read, unreadable, changed_at}
use Rattle.code_theory.specs.Reading.{near_reading, reading, filled_reading, received_reading}
use Rattle.code_theory.specs.Claims.{NearCodeword, Fills}
use Rattle.code_theory.proofs.Merge.{cases, word_of}
use Rattle.code_theory.proofs.Whole.{none_erased, received_levels, whole_reading}
use Rattle.code_theory.proofs.Apart.{apart}
use Rattle.code_theory.proofs.Reading.{codeword_word, near_is_one, near_self, reading_corrects}
use Rattle.code_theory.proofs.Erased.{erasures_filled, erased_by_filling}
use Rattle.converter.specs.Conversion.{is_read, is_clean}
use Rattle.converter.specs.Claims.{MayBeSent}

-- neither a word that is corrected nor one that is filled is clean
near_not_clean : (p : Parameters) (u : List ℕ) → is_clean (near_reading p u) ≡ false
unfolding near_reading
near_not_clean p u = cases (ltb (changed_at p u) (length u)) (λ e. rw (e, near_reading)) (λ e. rw (e, near_reading))

filled_not_clean : (p : Parameters) (u : List ℕ) → is_clean (filled_reading p u) ≡ false
unfolding filled_reading
filled_not_clean p u = cases (ltb (first_filling p u) (p.q ^ erasures u)) (λ e. rw (e, filled_reading)) (λ e. rw (e, filled_reading))

-- the reading of a word of levels, by the test for a codeword
reading_clean : (p : Parameters) (u : List ℕ) → is_clean (reading p u) ≡ codeword p u
unfolding reading
reading_clean p u = cases (codeword p u) (λ e. rw (e, reading)) (λ e. rw (e, reading) (near_not_clean p u))

module _ (p : Parameters) (s : Sized p) (small : p.q ≤ erasure) (u : List ℕ) where
  -- a codeword has no erased symbol
  pub whole : T (codeword p u) → erasures u ≡ 0
  whole h =
      none_erased p.q small u
      (and_right (eqb (length u) (codeword_length p)) (symbols_below p.q u) (codeword_word p s u h))

  pub clean_test : is_clean (received_reading p u) ≡ codeword p u
  clean_test =
      cases (eqb (erasures u) 0)
      (λ e. ap is_clean (whole_reading p u (eqb-true (erasures u) 0 e)) ∙ reading_clean p u)
      (λ e.
      let some : 1 ≤ erasures u = omega (arith, eqb-false (erasures u) 0 e) in
      ap is_clean (erased_by_filling p u some) ∙ filled_not_clean p u ∙ sym (fails (λ h. omega (arith, whole h, some))))

-- a test that fails where there is no reading
unread : (d : Reading) → is_read d ≡ false → d ≡ unreadable
unread unreadable e = refl
unread (read f a b) e = absurd (let z : ◌≡◌ {A = ℕ} 0 1 = cc in omega arith)

module _ (p : Parameters) (s : Sized p) (prime : Prime p.q) (small : p.q ≤ erasure) (u : List ℕ)
    (long : length u ≡ codeword_length p) (symbols : T (is_received p u)) (few : erasures u ≤ 2) where
  -- what may have been sent, by the test for erased symbols
  abbrev Sendable : Bool → List ℕ → Type 0
  Sendable b v = elim b as (λ _. Type 0) [ true ↦ distance v u ≤ 1 | false ↦ Agrees u v ]

  fills : Fills p 2
  fills = erasures_filled p s small 2 (apart p s prime)

  -- where no symbol is erased
  module _ (none : eqb (erasures u) 0 ≡ true) where
    word : T (is_word p.q (codeword_length p) u)
    word = word_of p.q (codeword_length p) u long (received_levels p.q u symbols (eqb-true (erasures u) 0 none))

    is_reading : received_reading p u ≡ reading p u
    is_reading = whole_reading p u (eqb-true (erasures u) 0 none)

    near_whole : {v : List ℕ} → MayBeSent p u v → NearCodeword p u v
    near_whole {v} m = record { is_codeword = m.is_codeword; close = subst (λ (b : Bool). Sendable b v) none m.near }

    sent_whole : {v : List ℕ} → T (codeword p v) → distance v u ≤ 1 → MayBeSent p u v
    sent_whole {v} c l = record { is_codeword = c; near = subst (λ (b : Bool). Sendable b v) (sym none) l }

  -- where one is
  module _ (some : eqb (erasures u) 0 ≡ false) where
    is_filling : received_reading p u ≡ filled_reading p u
    is_filling = erased_by_filling p u (omega (arith, eqb-false (erasures u) 0 some))

    agrees_erased : {v : List ℕ} → MayBeSent p u v → Agrees u v
    agrees_erased {v} m = subst (λ (b : Bool). Sendable b v) some m.near

    sent_erased : {v : List ℕ} → T (codeword p v) → Agrees u v → MayBeSent p u v
    sent_erased {v} c a = record { is_codeword = c; near = subst (λ (b : Bool). Sendable b v) (sym some) a }

  pub unread_exactly : (is_read (received_reading p u) ≡ false) ↔ ((v : List ℕ) → MayBeSent p u v → ⊥)
  unread_exactly = cases (eqb (erasures u) 0) whole_word erased_word
    where
      whole_word : eqb (erasures u) 0 ≡ true → (is_read (received_reading p u) ≡ false) ↔ ((v : List ℕ) → MayBeSent p u v → ⊥)
      whole_word e =
          let law = (reading_corrects p s prime).refused u (word e) in (
            λ h v m.
                not-le_of_lt (law.0 (sym (is_reading e) ∙ unread _ h) v m.is_codeword) (near_whole e m).close,
            λ none.
                ap is_read (is_reading e ∙ law.1 (λ v c. lt_of_not-le (λ l. none v (sent_whole e c l)))),
          )

      erased_word : eqb (erasures u) 0 ≡ false → (is_read (received_reading p u) ≡ false) ↔ ((v : List ℕ) → MayBeSent p u v → ⊥)
      erased_word e =
          let law = fills.refused u in (
            λ h v m. law.0 (sym (is_filling e) ∙ unread _ h) v m.is_codeword (agrees_erased e m),
            λ none. ap is_read (is_filling e ∙ law.1 (λ v c a. none v (sent_erased e c a))),
          )

  -- a codeword that may have been sent where a codeword arrived is that one
  pub sent_itself : T (codeword p u) → (v : List ℕ) → MayBeSent p u v → u ≡ v
  sent_itself h v m =
      let none : eqb (erasures u) 0 ≡ true = passes (eq_test (whole p s small u h)) in
      near_is_one p s prime u (word none) u v (near_self p s (near_is_one p s prime) u (word none) h) (near_whole none m)
