-- A codeword within one position of what arrived passes the tests of one of the three cases; so where they fail the word is unreadable.
-- Assumes nothing.
use mathlib.Core.Path.{◌≡◌, refl, sym, ap, subst, ◌∙◌}
use mathlib.Core.Logic.{⊎_elim, ◌≢◌}
use mathlib.Core.Bool.{Bool, true, false, not}
use mathlib.Core.List.{List}
use Prim.Native.Nat.{ℕ, ◌<◌}
use lib.Dec.{T}
use lib.ListN.{get_or, set}
use lib.IntN.{pos}
use Rattle.modular_theory.specs.Sum.{weight}
use Rattle.code_theory.specs.Parameters.{Parameters, Sized, codeword_length}
use Rattle.code_theory.specs.Component.{is_word}
use Rattle.code_theory.specs.Codeword.{body, received, has_components, codeword}
use Rattle.code_theory.specs.Reading.{unreadable, mends, reading}
use Rattle.code_theory.specs.Claims.{OneNear}
use Rattle.code_theory.proofs.Merge.{word_length}
use Rattle.decoding_theory.specs.Syndromes.{near_syndromes, index}
use Rattle.decoding_theory.specs.Decoded.{check_symbol, check_index, Sums, fits, position_count}
use Rattle.decoding_theory.proofs.Components.{components_test}
use Rattle.decoding_theory.proofs.Answers.{Tests, codeword_tests, reads_none}
use Rattle.decoding_theory.proofs.Changed.{OfParity, of_parity, in_parity, index_cases, body_kept, other_kept, Summed, no_excess}
use Rattle.decoding_theory.proofs.Fits.{unbalanced, other_agrees, own_disagrees, codeword_fit}

-- a changed check symbol leaves the components
pub received_kept : (p : Parameters) (v : List ℕ) (b : Bool) (y : ℕ) (c : Bool) → received p c (set v (check_index p b) y) ≡ received p c v
unfolding received
received_kept p v b y c = rw body_kept refl

pub components_kept : (p : Parameters) (v : List ℕ) (b : Bool) (y : ℕ) → has_components p (set v (check_index p b) y) ≡ has_components p v
unfolding has_components
components_kept p v b y = rw (received_kept p v b y true, received_kept p v b y false) refl

-- what the tests of the algorithm say where a codeword is within one position of v: it arrived as sent, with a check symbol changed, or
-- with a symbol of the body changed
pub data Nearby (p : Parameters) (t : Sums) (v : List ℕ) : Type 0 where
  as_sent : t.excess ≡ pos 0 → T (near_syndromes p t.first t.second) → ((b : Bool) → t.asked b ≡ t.arrived b) → Nearby p t v
  check_changed : (b : Bool) → t.excess ≡ pos 0 → T (near_syndromes p t.first t.second) → t.asked (not b) ≡ t.arrived (not b)
      → Nearby p t v
  body_changed : (b : Bool) (k : ℕ) → t.excess ≢ pos 0 → t.asked (not b) ≡ t.arrived (not b) → t.asked b ≢ t.arrived b
      → k < position_count p b → T (fits p t b k (get_or v (index b k) 0)) → Nearby p t v

module _ (p : Parameters) (s : Sized p) {v : List ℕ} (w : T (is_word p.q (codeword_length p) v)) {t : Sums} (m : Summed p v t) where
  pub near_is : near_syndromes p t.first t.second ≡ has_components p v
  near_is = components_test p s v (word_length p.q (codeword_length p) v w) m.first m.second

  sent_nearby : T (codeword p v) → Nearby p t v
  sent_nearby h =
      let c : Tests p v = codeword_tests p v h in
      as_sent (no_excess m c.weighs) (subst T (sym near_is) c.near) (λ b. m.asked b ∙ c.checks b ∙ sym (m.arrived b))

  check_nearby : (b : Bool) (y : ℕ) → T (codeword p (set v (check_index p b) y)) → Nearby p t v
  check_nearby b y h =
      let c : Tests p (set v (check_index p b) y) = codeword_tests p (set v (check_index p b) y) h in
      let e : body p v ≡ body p (set v (check_index p b) y) = sym (body_kept p v b y) in
      check_changed b (no_excess m (ap weight e ∙ c.weighs)) (subst T (components_kept p v b y ∙ sym near_is) c.near)
      (m.asked (not b) ∙ ap (check_symbol p.q (not b)) e ∙ c.checks (not b) ∙ other_kept p v b y ∙ sym (m.arrived (not b)))

  body_nearby : (i y : ℕ) → OfParity p i → y < p.q → y ≢ get_or v i 0 → T (codeword p (set v i y)) → Nearby p t v
  body_nearby i y (of_parity b k l) a ne h =
      body_changed b k (unbalanced p s w m b k y l h a ne) (other_agrees p s w m b k y l h a ne) (own_disagrees p s w m b k y l h a ne) l
      (codeword_fit p s w m b k y l h a ne)

  pub none_nearby : OneNear p → (Nearby p t v → ⊥) → reading p v ≡ unreadable
  unfolding mends
  none_nearby one none =
      reads_none p s one v w (λ h. none (sent_nearby h))
      (λ i y l a ne h.
      let check : (b : Bool) × (i ≡ check_index p b) → Nearby p t v =
      λ c. check_nearby c.0 y (subst (λ (j : ℕ). T (codeword p (set v j y))) c.1 h) in
      none (⊎_elim (λ j. body_nearby i y (in_parity p i j) a ne h) check (index_cases p i l)))
