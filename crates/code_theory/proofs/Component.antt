-- A message has one component: a reduced row has a 1 at one check position and a 0 at the others, so each check symbol is determined by the
-- symbols of the message, and can be set to what they ask.
-- Assumes nothing.
use mathlib.Core.Path.{◌≡◌, sym, ap, ap₂, ◌∙◌}
use mathlib.Core.Logic.{◌≢◌, ◌⊎◌, inl, inr}
use mathlib.Core.Bool.{Bool}
use mathlib.Core.List.{List, []}
use Prim.Native.Nat.{ℕ, zero, suc, ◌+◌, ◌*◌, ◌^◌, ◌≤◌, ◌<◌}
use native.Mathlib.Nat.{not-suc-le-zero, le_of_suc-le-suc, le_refl, le_of_suc-le, zero-add, add_comm, zero-mul}
use native.Mathlib.Omega.{arith}
use native.Mathlib.Decide.{ℕ_discrete}
use lib.Dec.{T, T_not, not_T}
use lib.Arith.{lt_of_le-ne}
use lib.ListN.{length, get_or, set, length-set}
use lib.Seq.{get_or-set_same, get_or-set_other, ext_get_or}
use Rattle.modular_theory.specs.Search.{least}
use Rattle.modular_theory.specs.Sum.{dot}
use Rattle.modular_theory.specs.Residue.{Congruent, minus}
use Rattle.modular_theory.specs.Digits.{digits}
use Rattle.modular_theory.proofs.Search.{decide, least_hit, least_some}
use Rattle.modular_theory.proofs.Sum.{dot_agree, dot_set_one, dot_set_zero}
use Rattle.modular_theory.proofs.Residue.{of_eq, same, symm, ◌then◌, add, mul, small, cancel, minus_below, minus_add}
use Rattle.modular_theory.proofs.Digits.{digits_below, digits_onto}
use Rattle.code_theory.specs.Parameters.{Parameters, Sized, message_length}
use Rattle.code_theory.specs.Component.{symbols_below, Below, is_word, in_code, check_at, keep, message, merge, candidate, component}
use Rattle.code_theory.specs.Claims.{Holding, OneComponent}
use Rattle.code_theory.proofs.Symbols.{symbol_below, symbols_below_lem, symbols_set}
use Rattle.code_theory.proofs.Syndrome.{code_zero, zero_code}
use Rattle.code_theory.proofs.Columns.{q_positive}
use Rattle.code_theory.proofs.Merge.{opposite, word_length, word_below, word_of, below_keep, below_merge, passing}
use Rattle.code_theory.proofs.Merge.{count_not, length_keep, length_merge, merge_keep, keep_merge, keep_at, keep_set}
use Rattle.code_theory.proofs.Reduced.{pivot, reduced_row, Vanish, pivot_below, check_pivot, pivot_check}
use Rattle.code_theory.proofs.Reduced.{reduced_same, reduced_other, check_count, reduced_rows, rows_reduced}

module _ (p : Parameters) (s : Sized p) where
  -- words whose reduced sums vanish and that agree off the check positions agree mod q there too
  determined : (c d : List ℕ) → length c ≡ p.n → length d ≡ p.n → ((i : ℕ) → (T (check_at p i) → ⊥) → get_or c i 0 ≡ get_or d i 0)
      → Vanish p p.r c → Vanish p p.r d → (k : ℕ) → k < p.r
      → Congruent p.q (get_or c (pivot p k) 0) (get_or d (pivot p k) 0)
  determined c d l m e u v k h =
      let a : Congruent p.q (dot f c) (dot f x) = dot_agree f c x (l ∙ sym (length-set d i (get_or c i 0) ∙ m)) term in
      of_eq (sym (zero-add (get_or c i 0)))
      then add (symm (v k h)) (same (get_or c i 0))
      then symm (dot_set_one f d i (get_or c i 0) inside (reduced_same p s k h))
      then add (symm a then u k h) (same (get_or d i 0))
      then of_eq (zero-add (get_or d i 0))
    where
      f : ℕ → ℕ
      f = reduced_row p k

      i : ℕ
      i = pivot p k

      x : List ℕ
      x = set d i (get_or c i 0)

      inside : i < length d
      inside = rw m (pivot_below p s k h)

      off : (j : ℕ) → j ≢ i → T (check_at p j) ⊎ (T (check_at p j) → ⊥) → Congruent p.q (f j * get_or c j 0) (f j * get_or d j 0)
      off j n (inl t) =
          let (l, b, y) = check_pivot p s j t in
          let z : Congruent p.q (f j) 0 = of_eq (ap f y) then reduced_other p s k l h b (λ g. n (y ∙ ap (pivot p) (sym g))) in
          mul z (same (get_or c j 0)) then of_eq (zero-mul (get_or c j 0) ∙ sym (zero-mul (get_or d j 0))) then symm (mul z (same (get_or d j 0)))
      off j n (inr t) = of_eq (ap (λ (y : ℕ). f j * y) (e j t))

      term : (j : ℕ) → j < length c → Congruent p.q (f j * get_or c j 0) (f j * get_or x j 0)
      term j n =
          elim (ℕ_discrete j i) [
            | yes y ↦ rw y (of_eq (ap (λ (z : ℕ). f i * z) (sym (get_or-set_same d i (get_or c i 0) 0 inside))))
            | no y ↦ off j y (decide (check_at p j)) then of_eq (ap (λ (z : ℕ). f j * z) (sym (get_or-set_other d i j (get_or c i 0) 0 y)))
          ]

  pub unique : {a c d : List ℕ} → Holding p a c → Holding p a d → c ≡ d
  unfolding message
  unique {a} {c} {d} h g =
      ext_get_or 0 c d (size c h ∙ sym (size d g)) (λ i l. at i (decide (check_at p i)))
    where
      size : (w : List ℕ) → Holding p a w → length w ≡ p.n
      size w k = word_length p.q p.n w k.word

      below : (w : List ℕ) → Holding p a w → Below p.q w
      below w k = word_below p.q p.n w (q_positive p s) k.word

      sums : (w : List ℕ) → Holding p a w → Vanish p p.r w
      sums w k = reduced_rows p s w (code_zero p w k.code)

      off : (i : ℕ) → (T (check_at p i) → ⊥) → get_or c i 0 ≡ get_or d i 0
      off i t = keep_at (opposite (check_at p)) c d (size c h ∙ sym (size d g)) (h.holds ∙ sym g.holds) i (not_T (check_at p i) t)

      at : (i : ℕ) → T (check_at p i) ⊎ (T (check_at p i) → ⊥) → get_or c i 0 ≡ get_or d i 0
      at i (inl t) =
          let (k, l, e) = check_pivot p s i t in
          small (below c h i) (below d g i) (rw e (determined c d (size c h) (size d g) off (sums c h) (sums d g) k l))
      at i (inr t) = off i t

-- c is a word of n symbols below q with message a, and its first k reduced sums vanish
pub record Solution (p : Parameters) (a c : List ℕ) (k : ℕ) : Type 0 where
  pub size : length c ≡ p.n
  pub below : T (symbols_below p.q c)
  pub holds : message p c ≡ a
  pub sums : Vanish p k c

module _ (p : Parameters) (s : Sized p) {a c : List ℕ} {k : ℕ} (b : Solution p a c k) (h : k < p.r) where
  pub pivot_inside : pivot p k < length c
  pivot_inside = rw b.size (pivot_below p s k h)

  -- check symbol k set to what makes its reduced sum vanish
  pub step : (y : ℕ) → y < p.q → Congruent p.q (dot (reduced_row p k) c + y) (get_or c (pivot p k) 0)
      → Solution p a (set c (pivot p k) y) (suc k)
  unfolding message
  step y small makes =
      record {
        size = length-set c i y ∙ b.size;
        below = symbols_set p.q c i y small b.below;
        holds = keep_set (opposite (check_at p)) c i y (λ n. T_not (check_at p i) n (pivot_check p s k h)) ∙ b.holds;
        sums = λ l m. sum l m (ℕ_discrete l k);
      }
    where
      i : ℕ
      i = pivot p k

      sum : (l : ℕ) → l < suc k → Dec (l ≡ k) → Congruent p.q (dot (reduced_row p l) (set c i y)) 0
      sum l m (yes e) =
          of_eq (ap (λ (o : ℕ). dot (reduced_row p o) (set c i y)) e)
          then cancel (get_or c i 0)
          (dot_set_one (reduced_row p k) c i y pivot_inside (reduced_same p s k h) then makes then of_eq (sym (zero-add (get_or c i 0))))
      sum l m (no d) =
          let n : l < k = lt_of_le-ne (le_of_suc-le-suc m) d in
          dot_set_zero (reduced_row p l) c i y pivot_inside (reduced_other p s l k (omega arith) h d) then b.sums l n

-- a message has a symbol for each position without a check symbol
pub message_count : (p : Parameters) → Sized p → message_length p ≡ passing (opposite (check_at p)) p.n
message_count p s = omega (arith, check_count p s, count_not (check_at p) p.n)

module _ (p : Parameters) (s : Sized p) (a : List ℕ) (w : T (is_word p.q (message_length p) a)) where
  message_fits : length a ≡ passing (opposite (check_at p)) p.n
  message_fits = word_length p.q (message_length p) a w ∙ message_count p s

  message_below : Below p.q a
  message_below = word_below p.q (message_length p) a (q_positive p s) w

  -- a word put together of a and check symbols below q
  pub merged : (e : List ℕ) → Below p.q e → Solution p a (merge (check_at p) p.n e a) 0
  unfolding message
  merged e h =
      record {
        size = length_merge (check_at p) p.n e a;
        below = symbols_below_lem p.q (merge (check_at p) p.n e a) (λ i l. below_merge p.q (check_at p) p.n e a h message_below i);
        holds = keep_merge (check_at p) p.n e a message_fits;
        sums = λ k l. absurd (not-suc-le-zero l);
      }

  -- all of them in turn
  solve : (k : ℕ) → k ≤ p.r → (c : List ℕ) × Solution p a c k
  solve zero h = (_, merged [] (λ i. q_positive p s))
  solve (suc k) h =
      let (c, b) = solve k (le_of_suc-le h) in
      let x : ℕ = get_or c (pivot p k) 0 in
      let d : ℕ = dot (reduced_row p k) c in
      let y : ℕ = minus p.q x d in
      (_, step p s b h y (minus_below p.q x d (q_positive p s)) (of_eq (add_comm d y) then minus_add p.q x d (q_positive p s)))

  -- the check symbols of that word are the digits of an e that the search comes to
  found : (e : ℕ) × (e < p.q ^ p.r) × T (in_code p (candidate p a e))
  unfolding message candidate
  found =
      let (c, b) = solve p.r (le_refl p.r) in
      let l : List ℕ = keep (check_at p) c in
      let n : length l ≡ p.r = length_keep (check_at p) c ∙ ap (passing (check_at p)) b.size ∙ check_count p s in
      let (e, m, d) = digits_onto p.q l (λ i o. below_keep p.q (check_at p) c (symbol_below p.q (q_positive p s) c b.below) i) in
      let f : digits p.q p.r e ≡ l = rw n at d in
      let g : merge (check_at p) p.n (digits p.q p.r e) a ≡ c =
      ap (λ (u : List ℕ). merge (check_at p) p.n u a) f
      ∙ ap₂ (λ (o : ℕ) (u : List ℕ). merge (check_at p) o l u) (sym b.size) (sym b.holds)
      ∙ merge_keep (check_at p) c in
      (e, rw n at m, rw g (zero_code p c (rows_reduced p s c b.sums)))

  pub component_holding : Holding p a (component p a)
  unfolding message candidate component merged
  component_holding =
      let t : ℕ → Bool = λ e. in_code p (candidate p a e) in
      let (e, l, h) = found in
      let d : List ℕ = digits p.q p.r (least t (p.q ^ p.r)) in
      let b : Solution p a (component p a) 0 = merged d (λ i. digits_below p.q p.r (least t (p.q ^ p.r)) i (q_positive p s)) in
      record {
        word = word_of p.q p.n (component p a) b.size b.below;
        code = least_hit t (p.q ^ p.r) (least_some t (p.q ^ p.r) e l h);
        holds = b.holds;
      }

  pub component_below : Below p.q (component p a)
  component_below = word_below p.q p.n (component p a) (q_positive p s) component_holding.word

pub one_component : OneComponent
one_component p s a w = (component_holding p s a w, λ c h. unique p s h (component_holding p s a w))
