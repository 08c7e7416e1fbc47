-- An erased symbol can be filled exactly where some level there makes a codeword, and that level is then the one wanted.
-- Assumes nothing.
use mathlib.Core.Path.{◌≡◌, sym, subst, ◌∙◌}
use mathlib.Core.Bool.{Bool, true, false, ◌&&◌}
use mathlib.Core.List.{List}
use Prim.Native.Nat.{ℕ, ◌<◌}
use native.Mathlib.Nat.{le_of_lt}
use lib.Dec.{T, ltb, eqb→eq, ltb→lt, lt→ltb}
use lib.ListN.{get_or, set}
use lib.IntN.{pos, +ℤ_comm}
use Rattle.modular_theory.specs.Level.{is_zero}
use Rattle.modular_theory.proofs.Search.{eq_test, passes, and_left, and_right, and_intro}
use Rattle.modular_theory.proofs.Integer.{zero_test, is_zero_lem, take_away, level_is}
use Rattle.code_theory.specs.Parameters.{Parameters, Sized, codeword_length}
use Rattle.code_theory.specs.Component.{is_word}
use Rattle.code_theory.specs.Codeword.{codeword}
use Rattle.code_theory.specs.Reading.{Finding, read_as}
use Rattle.code_theory.proofs.Merge.{word_length}
use Rattle.decoding_theory.specs.Syndromes.{near_syndromes}
use Rattle.decoding_theory.specs.Decoded.{Sums, read_by, agrees}
use Rattle.decoding_theory.specs.Filled.{Erased, in_body, as_check, sums_with, consistent, codeword_sums, wanted, fillable}
use Rattle.decoding_theory.proofs.Tests.{and_three, three_parts, for_both}
use Rattle.decoding_theory.proofs.Components.{read_by_lem}
use Rattle.decoding_theory.proofs.Answers.{Tests, codeword_tests, tests_codeword}
use Rattle.decoding_theory.proofs.Changed.{Summed, weighs_target, no_excess, update_here}
use Rattle.decoding_theory.proofs.Fits.{word_set}
use Rattle.decoding_theory.proofs.Nearby.{near_is}
use Rattle.decoding_theory.proofs.Effects.{AtIndex, summed_with}

-- what the test of the sums says
pub record CodewordSums (p : Parameters) (t : Sums) : Type 0 where
  pub balanced : t.excess ≡ pos 0
  pub checks : (b : Bool) → t.asked b ≡ t.arrived b
  pub near : T (near_syndromes p t.first t.second)

pub codeword_sums_lem : (p : Parameters) (t : Sums) → T (codeword_sums p t) → CodewordSums p t
unfolding codeword_sums consistent
codeword_sums_lem p t h =
    let n : Bool = near_syndromes p t.first t.second in
    let (a, b, c) = three_parts (is_zero t.excess) (agrees t true) (agrees t false) (and_left (consistent t) n h) in
    record {
      balanced = zero_test _ (passes a);
      checks = for_both true (λ b. t.asked b ≡ t.arrived b) (eqb→eq _ _ b) (eqb→eq _ _ c);
      near = and_right (consistent t) n h;
    }

pub codeword_sums_test : (p : Parameters) (t : Sums) → CodewordSums p t → T (codeword_sums p t)
unfolding codeword_sums consistent
codeword_sums_test p t c =
    and_intro (consistent t) (near_syndromes p t.first t.second)
    (and_three (is_zero t.excess) (agrees t true) (agrees t false) (is_zero_lem c.balanced) (eq_test (c.checks true))
    (eq_test (c.checks false)))
    c.near

-- which is what the test of a codeword says, where the sums are those of v
module _ (p : Parameters) (s : Sized p) {v : List ℕ} (w : T (is_word p.q (codeword_length p) v)) {t : Sums} (m : Summed p v t) where
  sums_codeword : CodewordSums p t → T (codeword p v)
  sums_codeword c =
      tests_codeword p v
      (record {
        word = w;
        weighs = weighs_target m c.balanced;
        checks = λ b. sym (m.asked b) ∙ c.checks b ∙ m.arrived b;
        near = subst T (near_is p s w m) c.near;
      })

  codeword_has_sums : T (codeword p v) → CodewordSums p t
  codeword_has_sums h =
      let c : Tests p v = codeword_tests p v h in
      record {
        balanced = no_excess m c.weighs;
        checks = λ b. m.asked b ∙ c.checks b ∙ sym (m.arrived b);
        near = subst T (sym (near_is p s w m)) c.near;
      }

-- a symbol with which the sums pass is the one wanted
wanted_is : (p : Parameters) (d : Erased) (t : Sums) (y : ℕ) → y < p.q → CodewordSums p (sums_with p d y t) → y ≡ wanted p.q d t
wanted_is p (in_body b E E') t y l c =
    sym (level_is p.q y (take_away (pos 0) t.excess (pos y) (sym c.balanced ∙ +ℤ_comm t.excess (pos y))) l)
wanted_is p (as_check b) t y l c = sym (c.checks b ∙ update_here b y t.arrived)

-- v has the sums t, and 0 at index i
-- what can be filled is a level, and makes the sums those of a codeword
module _ (p : Parameters) (d : Erased) (t : Sums) (h : T (fillable p d t)) where
  abbrev sent : ℕ
  sent = wanted p.q d t

  pub wanted_level : sent < p.q
  unfolding fillable
  wanted_level = ltb→lt _ _ (and_left (ltb sent p.q) (codeword_sums p (sums_with p d sent t)) h)

  pub wanted_sums : CodewordSums p (sums_with p d sent t)
  unfolding fillable
  wanted_sums = codeword_sums_lem p (sums_with p d sent t) (and_right (ltb sent p.q) (codeword_sums p (sums_with p d sent t)) h)

module _ (p : Parameters) (s : Sized p) {v : List ℕ} (w : T (is_word p.q (codeword_length p) v)) {t : Sums} (m : Summed p v t)
    {i : ℕ} {d : Erased} (at : AtIndex p i d) (z : get_or v i 0 ≡ 0) where
  word_with : (y : ℕ) → y < p.q → T (is_word p.q (codeword_length p) (set v i y))
  word_with y l = word_set p v i y w l

  pub sums_with_lem : (y : ℕ) → y < p.q → Summed p (set v i y) (sums_with p d y t)
  sums_with_lem y l = summed_with p s (word_length p.q (codeword_length p) v w) m y at (le_of_lt l) z

  pub codeword_fillable : (y : ℕ) → y < p.q → T (codeword p (set v i y)) → T (fillable p d t)
  unfolding fillable
  codeword_fillable y l h =
      let c : CodewordSums p (sums_with p d y t) = codeword_has_sums p s (word_with y l) (sums_with_lem y l) h in
      subst (λ (x : ℕ). T (ltb x p.q && codeword_sums p (sums_with p d x t))) (wanted_is p d t y l c)
      (and_intro (ltb y p.q) (codeword_sums p (sums_with p d y t)) (lt→ltb y p.q l)
      (codeword_sums_test p (sums_with p d y t) c))

  -- and back
  module _ (h : T (fillable p d t)) where
    abbrev y : ℕ
    y = wanted p.q d t

    pub wanted_below : y < p.q
    wanted_below = wanted_level p d t h

    pub wanted_codeword : T (codeword p (set v i y))
    wanted_codeword = sums_codeword p s (word_with y wanted_below) (sums_with_lem y wanted_below) (wanted_sums p d t h)

    pub wanted_read : (f : Finding) → read_by p f (set v i y) (sums_with p d y t).first (sums_with p d y t).second ≡ read_as p f (set v i y)
    wanted_read f =
        let l : Summed p (set v i y) (sums_with p d y t) = sums_with_lem y wanted_below in
        read_by_lem p s (set v i y) (word_length p.q (codeword_length p) (set v i y) (word_with y wanted_below)) l.first l.second f
        (wanted_sums p d t h).near
