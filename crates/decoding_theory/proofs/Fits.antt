-- An index of the body fits exactly where the symbol that balances there makes a codeword, if the other check symbol is right.
-- Assumes nothing.
use mathlib.Core.Path.{◌≡◌, refl, sym, subst, ◌∙◌}
use mathlib.Core.Logic.{◌≢◌}
use mathlib.Core.Bool.{Bool, not}
use mathlib.Core.List.{List}
use Prim.Native.Nat.{ℕ, ◌+◌, ◌%◌, ◌<◌}
use native.Mathlib.Nat.{zero-add, add-zero, add_comm}
use native.Mathlib.Omega.{arith}
use lib.Dec.{T, eqb, eqb→eq, ltb→lt, lt→ltb}
use lib.ListN.{length, get_or, set, length-set}
use lib.IntN.{pos, ◌-ℤ◌, +ℤ_idr}
use Rattle.modular_theory.specs.Sum.{weight}
use Rattle.modular_theory.specs.Residue.{Congruent}
use Rattle.modular_theory.proofs.Search.{eq_test, and_right}
use Rattle.modular_theory.proofs.Integer.{pos_same, level_is, is_level_lem, difference_less}
use Rattle.modular_theory.proofs.Residue.{of_eq, same, symm, ◌then◌, add, reduce, small, cancel}
use Rattle.code_theory.specs.Parameters.{Parameters, Sized, codeword_length}
use Rattle.code_theory.specs.Component.{symbols_below, is_word}
use Rattle.code_theory.specs.Codeword.{body, codeword}
use Rattle.code_theory.proofs.Columns.{q_positive}
use Rattle.code_theory.proofs.Merge.{word_length, word_below, word_of}
use Rattle.code_theory.proofs.Symbols.{symbols_set}
use Rattle.decoding_theory.specs.Syndromes.{index}
use Rattle.decoding_theory.specs.Decoded.{check_symbol, check_index, Sums, target, lack, balancing_symbol}
use Rattle.decoding_theory.specs.Decoded.{in_range, off_by_lack, near_after, fits, position_count}
use Rattle.decoding_theory.proofs.Tests.{and_three, three_parts, for_both}
use Rattle.decoding_theory.proofs.Answers.{Tests, codeword_tests, tests_codeword}
use Rattle.decoding_theory.proofs.Changed.{index_within, weight_body_set, checks_kept, Summed}
use Rattle.decoding_theory.proofs.Changed.{weighs_target, lack_gained, changed, changed_check, kept_check, changed_near}

-- what the test says: y is the symbol that balances in place of x
pub record Fit (p : Parameters) (s : Sums) (b : Bool) (k x y : ℕ) : Type 0 where
  pub balances : pos x -ℤ s.excess ≡ pos y
  pub below : y < p.q
  pub check : (s.asked b + lack p s) % p.q ≡ s.arrived b
  pub near : T (near_after p s b k)

pub fit : (p : Parameters) (s : Sums) (b : Bool) (k x : ℕ) → T (fits p s b k x) → Fit p s b k x (balancing_symbol p s x)
unfolding fits in_range balancing_symbol off_by_lack
fit p s b k x t =
    let (r, c, n) = three_parts (in_range p s x) (off_by_lack p s b) (near_after p s b k) t in
    let below : balancing_symbol p s x < p.q = ltb→lt _ _ r in
    record { balances = is_level_lem p.q (pos x -ℤ s.excess) below; below = below; check = eqb→eq _ _ c; near = n }

pub fit_test : (p : Parameters) (s : Sums) (b : Bool) (k x y : ℕ) → Fit p s b k x y → T (fits p s b k x)
unfolding fits in_range balancing_symbol off_by_lack
fit_test p s b k x y f =
    let is : balancing_symbol p s x ≡ y = level_is p.q y f.balances f.below in
    and_three (in_range p s x) (off_by_lack p s b) (near_after p s b k) (lt→ltb (balancing_symbol p s x) p.q (rw is f.below))
    (eq_test f.check) f.near

pub word_set : (p : Parameters) (v : List ℕ) (i y : ℕ) → T (is_word p.q (codeword_length p) v) → y < p.q
    → T (is_word p.q (codeword_length p) (set v i y))
word_set p v i y w h =
    word_of p.q (codeword_length p) (set v i y) (length-set v i y ∙ word_length p.q (codeword_length p) v w)
    (symbols_set p.q v i y h (and_right (eqb (length v) (codeword_length p)) (symbols_below p.q v) w))

module _ (p : Parameters) (s : Sized p) {v : List ℕ} (w : T (is_word p.q (codeword_length p) v)) {t : Sums} (m : Summed p v t) (b : Bool)
    (k y : ℕ) (l : k < position_count p b) where
  long : length v ≡ codeword_length p
  long = word_length p.q (codeword_length p) v w

  -- both check symbols stay as they arrived
  arrived_is : (c : Bool) → t.arrived c ≡ get_or (set v (index b k) y) (check_index p c) 0
  arrived_is c = m.arrived c ∙ sym (checks_kept p v c (index b k) y (index_within p b k l))

  pub fit_codeword : Fit p t b k (get_or v (index b k) 0) y → t.asked (not b) ≡ t.arrived (not b) → T (codeword p (set v (index b k) y))
  fit_codeword f a =
      tests_codeword p (set v (index b k) y)
      (record {
        word = word_set p v (index b k) y w f.below;
        weighs = weighs_target (changed p s long m b k y l f.balances) refl;
        checks =
            for_both b (λ c. check_symbol p.q c (body p (set v (index b k) y)) ≡ get_or (set v (index b k) y) (check_index p c) 0)
            (changed_check p s long m b k y l f.balances ∙ f.check ∙ arrived_is b)
            (kept_check p s long m b k y l f.balances ∙ a ∙ arrived_is (not b));
        near = subst T (changed_near p s long m b k y l f.balances) f.near;
      })

  -- and back, where y is another symbol than the one that arrived
  module _ (h : T (codeword p (set v (index b k) y))) (below : y < p.q) (ne : y ≢ get_or v (index b k) 0) where
    tests : Tests p (set v (index b k) y)
    tests = codeword_tests p (set v (index b k) y) h

    pub balances : pos (get_or v (index b k) 0) -ℤ t.excess ≡ pos y
    balances =
        let x : ℕ = get_or v (index b k) 0 in
        let a : ℕ = weight (body p v) in
        let e : y + a ≡ x + target p = omega (arith, weight_body_set p v long (index b k) y (index_within p b k l), tests.weighs) in
        rw m.excess (difference_less x a (target p) y e)

    check : (t.asked b + lack p t) % p.q ≡ t.arrived b
    check = sym (changed_check p s long m b k y l balances) ∙ tests.checks b ∙ sym (arrived_is b)

    pub unbalanced : t.excess ≢ pos 0
    unbalanced e = ne (sym (pos_same (sym (+ℤ_idr (pos (get_or v (index b k) 0))) ∙ rw e at balances)))

    pub other_agrees : t.asked (not b) ≡ t.arrived (not b)
    other_agrees = sym (kept_check p s long m b k y l balances) ∙ tests.checks (not b) ∙ sym (arrived_is (not b))

    -- the own check symbol disagrees, since the lack is not 0 mod q
    pub own_disagrees : t.asked b ≢ t.arrived b
    own_disagrees a =
        let c : ℕ = t.asked b in
        let d : ℕ = lack p t in
        let x : ℕ = get_or v (index b k) 0 in
        let z : Congruent p.q d 0 =
        cancel c (of_eq (add_comm d c) then symm (reduce p.q (c + d)) then of_eq (check ∙ sym a ∙ sym (zero-add c))) in
        ne
        (small below (word_below p.q (codeword_length p) v (q_positive p s) w (index b k))
        (symm (lack_gained p t x y (q_positive p s) balances) then add (same x) z then of_eq (add-zero x)))

    pub codeword_fit : T (fits p t b k (get_or v (index b k) 0))
    codeword_fit =
        let near : T (near_after p t b k) = subst T (sym (changed_near p s long m b k y l balances)) tests.near in
        fit_test p t b k (get_or v (index b k) 0) y (record { balances = balances; below = below; check = check; near = near })
