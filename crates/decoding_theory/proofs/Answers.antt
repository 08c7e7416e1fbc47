-- A reading is known from any codeword within one position of what arrived, since there is at most one.
-- Assumes nothing.
use mathlib.Core.Path.{◌≡◌, sym, ap, subst, ◌∙◌}
use mathlib.Core.Logic.{⊎_elim, ◌≢◌}
use mathlib.Core.Bool.{Bool, true, false, ◌&&◌}
use mathlib.Core.List.{List}
use Prim.Native.Nat.{ℕ, ◌<◌}
use lib.Dec.{T, eqb→eq}
use lib.ListN.{length, get_or, set}
use Rattle.modular_theory.specs.Sum.{weight}
use Rattle.modular_theory.proofs.Search.{eq_test, and_four, and_parts, and_left, and_right, and_intro}
use Rattle.code_theory.specs.Parameters.{Parameters, Sized, codeword_length}
use Rattle.code_theory.specs.Component.{is_word}
use Rattle.code_theory.specs.Codeword.{body, is_balanced, check_sum_agrees, has_checks, has_components, codeword}
use Rattle.code_theory.specs.Reading.{correction_at, Finding, clean, corrected, unreadable, read_as, mends, reading}
use Rattle.code_theory.specs.Claims.{NearCodeword, OneNear, Reads}
use Rattle.code_theory.proofs.Columns.{q_positive}
use Rattle.code_theory.proofs.Merge.{word_length, word_below}
use Rattle.code_theory.proofs.Distance.{OneApart, one_apart}
use Rattle.code_theory.proofs.Found.{found_clean, found_sent}
use Rattle.code_theory.proofs.Reading.{near_self, near_mends, mends_near, reading_is}
use Rattle.decoding_theory.specs.Decoded.{check_symbol, check_index, target}

-- what the test of a codeword asks
pub record Tests (p : Parameters) (u : List ℕ) : Type 0 where
  pub word : T (is_word p.q (codeword_length p) u)
  pub weighs : weight (body p u) ≡ target p
  pub checks : (b : Bool) → check_symbol p.q b (body p u) ≡ get_or u (check_index p b) 0
  pub near : T (has_components p u)

module _ (p : Parameters) (u : List ℕ) where
  pub codeword_tests : T (codeword p u) → Tests p u
  unfolding codeword is_balanced check_sum_agrees has_checks
  codeword_tests h =
      let (a, b, c, d) = and_parts (is_word p.q (codeword_length p) u) (is_balanced p u) (has_checks p u) (has_components p u) h in
      record { word = a; weighs = eqb→eq _ _ b; checks = checks c; near = d }
    where
      checks : T (check_sum_agrees p true u && check_sum_agrees p false u) → (b : Bool)
          → check_symbol p.q b (body p u) ≡ get_or u (check_index p b) 0
      checks c true = sym (eqb→eq _ _ (and_left (check_sum_agrees p true u) (check_sum_agrees p false u) c))
      checks c false = sym (eqb→eq _ _ (and_right (check_sum_agrees p true u) (check_sum_agrees p false u) c))

  pub tests_codeword : Tests p u → T (codeword p u)
  unfolding codeword is_balanced check_sum_agrees has_checks
  tests_codeword t =
      and_four (is_word p.q (codeword_length p) u) (is_balanced p u) (has_checks p u) (has_components p u) t.word (eq_test t.weighs)
      (and_intro (check_sum_agrees p true u) (check_sum_agrees p false u) (eq_test (sym (t.checks true))) (eq_test (sym (t.checks false))))
      t.near

module _ (p : Parameters) (s : Sized p) (one : OneNear p) (v : List ℕ) (w : T (is_word p.q (codeword_length p) v)) where
  law : Reads p v
  law = reading_is p s one v w

  long : length v ≡ codeword_length p
  long = word_length p.q (codeword_length p) v w

  pub reads_sent : T (codeword p v) → reading p v ≡ read_as p clean v
  reads_sent h = law.sent v (near_self p s one v w h) ∙ ap (λ (f : Finding). read_as p f v) (found_clean v)

  pub reads_changed : (i y : ℕ) → i < codeword_length p → y ≢ get_or v i 0 → T (mends p v i y)
      → reading p v ≡ read_as p (corrected (correction_at i (get_or v i 0) y)) (set v i y)
  reads_changed i y l ne h =
      law.sent (set v i y) (near_mends p s one v w i y h)
      ∙ ap (λ (f : Finding). read_as p f (set v i y)) (found_sent v i y (subst (λ (k : ℕ). i < k) (sym long) l) ne)

  pub reads_none : (T (codeword p v) → ⊥) → ((i y : ℕ) → i < codeword_length p → y < p.q → y ≢ get_or v i 0 → T (mends p v i y) → ⊥)
      → reading p v ≡ unreadable
  reads_none f g = law.none near
    where
      near : (u : List ℕ) → NearCodeword p v u → ⊥
      near u n =
          let word : T (is_word p.q (codeword_length p) u) = (codeword_tests p u n.is_codeword).word in
          let size : length u ≡ codeword_length p = word_length p.q (codeword_length p) u word in
          ⊎_elim (λ (e : u ≡ v). f (subst (λ (x : List ℕ). T (codeword p x)) e n.is_codeword))
          (λ (c : OneApart u v).
          let y : ℕ = get_or u c.i 0 in
          let below : y < p.q = word_below p.q (codeword_length p) u (q_positive p s) word c.i in
          g c.i y (subst (λ (k : ℕ). c.i < k) size c.within) below c.unequal
          (mends_near p s one v w c.i y (subst (NearCodeword p v) (sym c.back) n)))
          (one_apart u v (size ∙ sym long) n.close)
