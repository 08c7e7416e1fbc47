-- What one changed symbol of a received word changes: the body or a check symbol, and in the body the weight, one check symbol and the
-- syndromes.
-- Assumes nothing.
use mathlib.Core.Path.{◌≡◌, refl, sym, ap, subst, ◌∙◌}
use mathlib.Core.Logic.{◌⊎◌, inl, inr, ⊎_elim, ◌≢◌}
use mathlib.Core.Bool.{Bool, true, false, not}
use mathlib.Core.List.{List}
use Prim.Native.Nat.{ℕ, suc, ◌+◌, ◌%◌, ◌≤◌, ◌<◌}
use native.Mathlib.Nat.{le_of_lt, eq-or-lt_of_le}
use native.Mathlib.Omega.{arith}
use lib.ListN.{length, get_or, set, length-set}
use lib.IntN.{ℤ, pos, neg_ℤ, ◌-ℤ◌}
use lib.Seq.{get_or-set_other, take-set-lt, take-set-le}
use Rattle.modular_theory.specs.Sum.{weight}
use Rattle.modular_theory.specs.Residue.{Congruent}
use Rattle.modular_theory.proofs.Search.{le_or_lt}
use Rattle.modular_theory.proofs.Residue.{remainder_below}
use Rattle.modular_theory.proofs.Integer.{difference_zero, no_difference, less_difference, add_remainder}
use Rattle.modular_theory.proofs.Sum.{weight_set}
use Rattle.code_theory.specs.Parameters.{Parameters, Sized, balanced_length, codeword_length}
use Rattle.code_theory.specs.Codeword.{body, received, has_components}
use Rattle.code_theory.proofs.Weights.{double, double_is, parity}
use Rattle.code_theory.proofs.Columns.{q_positive}
use Rattle.code_theory.proofs.Conditions.{body_length, balanced_length_lem, body_at}
use Rattle.decoding_theory.specs.Syndromes.{index}
use Rattle.decoding_theory.specs.Decoded.{check_symbol, check_index, Sums, sums, update}
use Rattle.decoding_theory.specs.Decoded.{moved_sums, target, lack, near_after, position_count}
use Rattle.decoding_theory.proofs.Tests.{for_both}
use Rattle.decoding_theory.proofs.Near.{Rows, syndromes_rows}
use Rattle.decoding_theory.proofs.Components.{components_test}
use Rattle.decoding_theory.proofs.Moved.{index_odd, index_even, Gain, moved_side}
use Rattle.decoding_theory.proofs.Checks.{check_gained, check_kept}

-- Indices.

pub index_within : (p : Parameters) (b : Bool) (k : ℕ) → k < position_count p b → index b k < balanced_length p
index_within p true k h = omega arith
index_within p false k h = omega arith

-- an index of the body is one of a parity
pub data OfParity (p : Parameters) : ℕ → Type 0 where
  of_parity : (b : Bool) (k : ℕ) → k < position_count p b → OfParity p (index b k)

pub in_parity : (p : Parameters) (i : ℕ) → i < balanced_length p → OfParity p i
in_parity p i h = go (parity i).0 (parity i).1
  where
    go : (a : ℕ) → (i ≡ double a) ⊎ (i ≡ suc (double a)) → OfParity p i
    go a (inl e) = subst (OfParity p) (index_odd a ∙ sym e) (of_parity true a (omega (arith, double_is a)))
    go a (inr e) = subst (OfParity p) (index_even a ∙ sym e) (of_parity false a (omega (arith, double_is a)))

-- the others are the check symbols'
pub index_cases : (p : Parameters) (i : ℕ) → i < codeword_length p → (i < balanced_length p) ⊎ ((b : Bool) × (i ≡ check_index p b))
index_cases p i h = ⊎_elim past (λ (l : i < balanced_length p). inl l) (le_or_lt (balanced_length p) i)
  where
    past : balanced_length p ≤ i → (i < balanced_length p) ⊎ ((b : Bool) × (i ≡ check_index p b))
    past l =
        let k : i ≤ balanced_length p + 1 = omega arith in
        ⊎_elim (λ (e : i ≡ balanced_length p + 1). inr (false, e)) (λ (m : i < balanced_length p + 1). inr (true, omega arith))
        (eq-or-lt_of_le k)

pub check_within : (p : Parameters) (b : Bool) → check_index p b < codeword_length p
check_within p true = omega arith
check_within p false = omega arith

pub check_past : (p : Parameters) (b : Bool) → balanced_length p ≤ check_index p b
check_past p true = omega arith
check_past p false = omega arith

checks_distinct : (p : Parameters) (b : Bool) → check_index p (not b) ≢ check_index p b
checks_distinct p true e = omega arith
checks_distinct p false e = omega arith

-- The body and the check symbols.

module _ (p : Parameters) (v : List ℕ) where
  -- a changed check symbol leaves the body and the other check symbol
  pub body_kept : (b : Bool) (y : ℕ) → body p (set v (check_index p b) y) ≡ body p v
  unfolding body
  body_kept b y = take-set-le (balanced_length p) v (check_index p b) y (check_past p b)

  pub other_kept : (b : Bool) (y : ℕ) → get_or (set v (check_index p b) y) (check_index p (not b)) 0 ≡ get_or v (check_index p (not b)) 0
  other_kept b y = get_or-set_other v (check_index p b) (check_index p (not b)) y 0 (checks_distinct p b)

  -- a changed symbol of the body leaves the check symbols
  pub body_set : (i y : ℕ) → i < balanced_length p → body p (set v i y) ≡ set (body p v) i y
  unfolding body
  body_set i y h = take-set-lt (balanced_length p) v i y h

  pub weight_body_set : length v ≡ codeword_length p → (i y : ℕ) → i < balanced_length p
      → weight (body p (set v i y)) + get_or v i 0 ≡ weight (body p v) + y
  weight_body_set n i y h =
      let l : i < length (body p v) = rw (body_length p v n) h in
      omega (arith, ap weight (body_set i y h), weight_set (body p v) i y l, body_at p v i h)

  pub checks_kept : (b : Bool) (i y : ℕ) → i < balanced_length p → get_or (set v i y) (check_index p b) 0 ≡ get_or v (check_index p b) 0
  checks_kept b i y h = get_or-set_other v i (check_index p b) y 0 (omega (arith, check_past p b))

-- The sums.

-- t is what is summed over v; a list may go on after the r rows
pub record Summed (p : Parameters) (v : List ℕ) (t : Sums) : Type 0 where
  pub excess : t.excess ≡ pos (weight (body p v)) -ℤ pos (target p)
  pub asked : (b : Bool) → t.asked b ≡ check_symbol p.q b (body p v)
  pub arrived : (b : Bool) → t.arrived b ≡ get_or v (check_index p b) 0
  pub first : Rows p (received p true v) t.first
  pub second : Rows p (received p false v) t.second

pub summed : (p : Parameters) (v : List ℕ) → Summed p v (sums p v)
summed p v =
    record {
      excess = refl;
      asked = λ b. refl;
      arrived = λ b. refl;
      first = syndromes_rows p (received p true v);
      second = syndromes_rows p (received p false v);
    }

-- there is no excess exactly where the body weighs its balancing value
module _ {p : Parameters} {v : List ℕ} {t : Sums} (m : Summed p v t) where
  pub weighs_target : t.excess ≡ pos 0 → weight (body p v) ≡ target p
  weighs_target e = difference_zero (weight (body p v)) (target p) (sym m.excess ∙ e)

  pub no_excess : weight (body p v) ≡ target p → t.excess ≡ pos 0
  no_excess e = m.excess ∙ no_difference e

-- the lack is what takes x to the symbol that balances
pub lack_gained : (p : Parameters) (s : Sums) (x y : ℕ) → 1 ≤ p.q → pos x -ℤ s.excess ≡ pos y → Congruent p.q (x + lack p s) y
unfolding lack
lack_gained p s x y h e = add_remainder p.q x y (neg_ℤ s.excess) h e

pub lack_below : (p : Parameters) (s : Sums) → 1 ≤ p.q → lack p s < p.q
unfolding lack
lack_below p s h = remainder_below (neg_ℤ s.excess) p.q h

pub update_here : (b : Bool) (y : ℕ) (f : Bool → ℕ) → update b y f b ≡ y
update_here true y f = refl
update_here false y f = refl

pub update_other : (b : Bool) (y : ℕ) (f : Bool → ℕ) → update b y f (not b) ≡ f (not b)
update_other true y f = refl
update_other false y f = refl

-- y, which is e more mod q, in place of the symbol at index k of the parity b moves the sums
module _ (p : Parameters) (s : Sized p) {v : List ℕ} (n : length v ≡ codeword_length p) {t : Sums} (m : Summed p v t) (b : Bool)
    (k y e : ℕ) (a : ℤ) (l : k < position_count p b) (small : e ≤ p.q) (gained : Congruent p.q (get_or v (index b k) 0 + e) y)
    (weighed : (n : ℕ) → n + get_or v (index b k) 0 ≡ weight (body p v) + y → a ≡ pos n -ℤ pos (target p)) where
  within : index b k < balanced_length p
  within = index_within p b k l

  raised : Gain p (body p v) b k y e
  raised =
      let h : length (body p v) ≡ balanced_length p = body_length p v n in
      record { long = h ∙ balanced_length_lem p; within = rw h within; small = small; gained = rw (body_at p v (index b k) within) gained }

  here : body p (set v (index b k) y) ≡ set (body p v) (index b k) y
  here = body_set p v (index b k) y within

  own_check : check_symbol p.q b (body p (set v (index b k) y)) ≡ (t.asked b + e) % p.q
  own_check =
      ap (check_symbol p.q b) here ∙ check_gained b (body p v) k y e raised.within raised.gained
      ∙ ap (λ (x : ℕ). (x + e) % p.q) (sym (m.asked b))

  other_check : check_symbol p.q (not b) (body p (set v (index b k) y)) ≡ t.asked (not b)
  other_check = ap (check_symbol p.q (not b)) here ∙ check_kept p.q b (body p v) k y ∙ sym (m.asked (not b))

  pub summed_moved : Summed p (set v (index b k) y) (moved_sums p b k e a t)
  unfolding received
  summed_moved =
      record {
        excess = weighed (weight (body p (set v (index b k) y))) (weight_body_set p v n (index b k) y within);
        asked =
            for_both b (λ c. update b ((t.asked b + e) % p.q) t.asked c ≡ check_symbol p.q c (body p (set v (index b k) y)))
            (update_here b _ t.asked ∙ sym own_check) (update_other b _ t.asked ∙ sym other_check);
        arrived = λ c. m.arrived c ∙ sym (checks_kept p v c (index b k) y within);
        first = rw here (moved_side (q_positive p s) true b raised m.first);
        second = rw here (moved_side (q_positive p s) false b raised m.second);
      }

-- y in place of the symbol at index k of the parity b balances the body
module _ (p : Parameters) (s : Sized p) {v : List ℕ} (n : length v ≡ codeword_length p) {t : Sums} (m : Summed p v t) (b : Bool) (k y : ℕ)
    (l : k < position_count p b) (e : pos (get_or v (index b k) 0) -ℤ t.excess ≡ pos y) where
  balanced : y + weight (body p v) ≡ get_or v (index b k) 0 + target p
  balanced = less_difference (get_or v (index b k) 0) (weight (body p v)) (target p) y (rw m.excess at e)

  pub changed : Summed p (set v (index b k) y) (moved_sums p b k (lack p t) (pos 0) t)
  changed =
      summed_moved p s n m b k y (lack p t) (pos 0) l (le_of_lt (lack_below p t (q_positive p s)))
      (lack_gained p t (get_or v (index b k) 0) y (q_positive p s) e)
      (λ a h. let g : a ≡ target p = omega (arith, balanced) in sym (no_difference g))

  pub changed_check : check_symbol p.q b (body p (set v (index b k) y)) ≡ (t.asked b + lack p t) % p.q
  changed_check = sym (changed.asked b) ∙ update_here b _ t.asked

  pub kept_check : check_symbol p.q (not b) (body p (set v (index b k) y)) ≡ t.asked (not b)
  kept_check = sym (changed.asked (not b)) ∙ update_other b _ t.asked

  pub changed_near : near_after p t b k ≡ has_components p (set v (index b k) y)
  unfolding near_after
  changed_near = components_test p s (set v (index b k) y) (length-set v (index b k) y ∙ n) changed.first changed.second
