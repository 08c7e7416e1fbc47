-- The encoder's word is a codeword that carries its pair: differencing gives back what was integrated, where at most one symbol of one
-- component was raised by 1.
-- Assumes nothing.
use mathlib.Core.Path.{◌≡◌, sym, ap, ap₂, subst, ◌∙◌}
use mathlib.Core.Logic.{◌⊎◌, inl, inr}
use mathlib.Core.Bool.{Bool, true, false, ◌&&◌}
use mathlib.Core.List.{List, [], ◌∷◌}
use Prim.Native.Nat.{ℕ, zero, suc, ◌+◌, ◌-◌, ◌%◌, ◌≤◌, ◌<◌}
use native.Mathlib.Nat.{add_comm, mod-lt}
use native.Mathlib.Omega.{arith}
use lib.Dec.{T, eqb, ltb, lt→ltb}
use lib.ListN.{length, get_or, set, length-set}
use lib.Seq.{lt-length-set, get_or-set_same, set-set, set-get_or}
use Rattle.modular_theory.specs.Sum.{weight}
use Rattle.modular_theory.specs.Residue.{minus}
use Rattle.modular_theory.proofs.Search.{and_left, and_right, and_intro}
use Rattle.code_theory.specs.Parameters.{Edition, edition13, edition18, Parameters, in_edition, Sized, balanced_length}
use Rattle.code_theory.specs.Parameters.{message_length, balancing_value}
use Rattle.code_theory.specs.Component.{symbols_below, is_word, in_code, message, component}
use Rattle.code_theory.specs.Balance.{interleave, add_at, with_zero, add_one}
use Rattle.code_theory.specs.Balance.{differences, choice, chosen, earliest_s, earliest_v, balanced}
use Rattle.code_theory.specs.Codeword.{alternate, alpha, beta, with_checks, interleaved, encoded}
use Rattle.code_theory.specs.Codeword.{body, differenced, received, lowered, restored, carried}
use Rattle.code_theory.specs.LineRule.{rule1, rule2, chosen_s, chosen_v, balanced_by, encoded_by}
use Rattle.code_theory.specs.Claims.{Tried, Holding, Encodes, ChoiceCarries, EncodedCarries}
use Rattle.code_theory.proofs.Weights.{double, double_is, parity}
use Rattle.code_theory.proofs.Syndrome.{Zero, ColumnOf, code_zero, lowered_column}
use Rattle.code_theory.proofs.Columns.{q_positive}
use Rattle.code_theory.proofs.Moves.{Column, neither, first, second, NearIn}
use Rattle.code_theory.proofs.Symbols.{symbol_below, symbols_raised, symbols_append}
use Rattle.code_theory.proofs.Conditions.{codeword_of, body_with_checks}
use Rattle.code_theory.proofs.FromEnd.{from_end_below, undone_from_end}
use Rattle.code_theory.proofs.First.{tried_index}
use Rattle.code_theory.proofs.Choice.{length_chosen}
use Rattle.code_theory.proofs.Pair.{length_component, length_interleave, length_zero, length_interleaved, balance_of_pair}
use Rattle.code_theory.proofs.LineRule.{least_peak_of_pair_lem, rule_one}
use Rattle.code_theory.proofs.Component.{component_holding}
use Rattle.code_theory.proofs.Restored.{restored_zero, restored_column}
use Rattle.code_theory.proofs.Alternate.{alternate_first, alternate_second, minus_sum, differences_integrate}
use Rattle.code_theory.proofs.Alternate.{integrate_below, first_set, first_kept, second_set, second_kept, first_at, second_at}

-- what 1 added to the symbol at k makes of a component is undone there
lowered_raised : (q : ℕ) → 1 ≤ q → (c : List ℕ) (k : ℕ) → T (symbols_below q c) → k < length c → lowered q (add_at q c k 1) k ≡ c
lowered_raised q h c k b l =
    set-set c k ((get_or c k 0 + 1) % q) _
    ∙ ap (λ (x : ℕ). set c k x)
    (ap (λ (x : ℕ). minus q x 1) (get_or-set_same c k ((get_or c k 0 + 1) % q) 0 l ∙ ap (λ (x : ℕ). x % q) (add_comm (get_or c k 0) 1))
    ∙ minus_sum q 1 (get_or c k 0) h (symbol_below q h c b k))
    ∙ set-get_or c k 0

symbols_interleave : (q : ℕ) (x y : List ℕ) → T (symbols_below q x) → T (symbols_below q y) → T (symbols_below q (interleave x y))
symbols_interleave q [] y a b = tt
symbols_interleave q (c ∷ x) [] a b = tt
symbols_interleave q (c ∷ x) (d ∷ y) a b =
    and_intro (ltb c q) (ltb d q && symbols_below q (interleave x y)) (and_left (ltb c q) (symbols_below q x) a)
    (and_intro (ltb d q) (symbols_below q (interleave x y)) (and_left (ltb d q) (symbols_below q y) b)
    (symbols_interleave q x y (and_right (ltb c q) (symbols_below q x) a) (and_right (ltb d q) (symbols_below q y) b)))

-- a word's components are c and d, or those with 1 added to a symbol of one of them
data Sent (q : ℕ) (c d : List ℕ) (z : List ℕ) : Type 0 where
  as_made : alternate true z ≡ c → alternate false z ≡ d → Sent q c d z
  first_raised : (k : ℕ) → k < length c → alternate true z ≡ add_at q c k 1 → alternate false z ≡ d → Sent q c d z
  second_raised : (k : ℕ) → k < length d → alternate true z ≡ c → alternate false z ≡ add_at q d k 1 → Sent q c d z

-- 1 added to a symbol of the interleaved word
raise_sent : (q : ℕ) (c d : List ℕ) (t : ℕ) → length c ≡ length d → t < length (interleave c d) → Sent q c d (add_at q (interleave c d) t 1)
raise_sent q c d t e l = go (parity t).0 (parity t).1
  where
    z : List ℕ
    z = interleave c d

    -- the symbol at index i with 1 added
    raised : ℕ → ℕ
    raised i = (get_or z i 0 + 1) % q

    one : alternate true z ≡ c
    one = alternate_first c d e

    two : alternate false z ≡ d
    two = alternate_second c d e

    -- that symbol is the one at index k of the component x
    set_is : {y x : List ℕ} (i k : ℕ) → y ≡ x → get_or z i 0 ≡ get_or y k 0 → set y k (raised i) ≡ add_at q x k 1
    set_is i k f g = ap₂ (λ (a : List ℕ) (s : ℕ). set a k ((s + 1) % q)) f (g ∙ ap (λ (a : List ℕ). get_or a k 0) f)

    go : (k : ℕ) → (t ≡ double k) ⊎ (t ≡ suc (double k)) → Sent q c d (add_at q z t 1)
    go k (inl x) =
        let m : k < length c = omega (arith, length_interleave c d e, double_is k) in
        let i : ℕ = double k in
        subst (λ (j : ℕ). Sent q c d (add_at q z j 1)) (sym x)
        (first_raised k m (first_set z k (raised i) ∙ set_is i k one (first_at z k)) (second_kept z k (raised i) ∙ two))
    go k (inr x) =
        let m : k < length d = omega (arith, length_interleave c d e, double_is k) in
        let i : ℕ = suc (double k) in
        subst (λ (j : ℕ). Sent q c d (add_at q z j 1)) (sym x)
        (second_raised k m (first_kept z k (raised i) ∙ one) (second_set z k (raised i) ∙ set_is i k two (second_at z k)))

-- or to none of them
choice_sent : (p : Parameters) (c d : List ℕ) (i : ℕ) → length c ≡ length d → i ≤ length (interleave c d)
    → Sent p.q c d (add_one p (interleave c d) i)
choice_sent p c d zero e l = as_made (alternate_first c d e) (alternate_second c d e)
choice_sent p c d (suc t) e l = raise_sent p.q c d t e l

-- differencing the word of a choice gives back what was interleaved, with that 1 added: where s was added is dropped
undone : (p : Parameters) → 1 ≤ p.q → (z : List ℕ) (s i : ℕ) → T (symbols_below p.q z) → i ≤ length z
    → differences p (chosen p (with_zero p z) s (choice p i)) ≡ add_one p z i
unfolding chosen
undone p h z s i b l = go p.edition i l
  where
    go : (e : Edition) (i : ℕ) → i ≤ length z
        → let r : Parameters = in_edition e p in differences r (chosen r (with_zero r z) s (choice r i)) ≡ add_one r z i
    go edition13 zero l = differences_integrate p h _ z b
    go edition13 (suc i) l = differences_integrate p h _ (add_at p.q z i 1) (symbols_raised p.q h z i 1 b)
    go edition18 i l = undone_from_end p h z s i b l

pub chosen_below : (p : Parameters) → 1 ≤ p.q → (x : List ℕ) (s v : ℕ) → T (symbols_below p.q (chosen p x s v))
unfolding chosen
chosen_below p h x s v = go p.edition
  where
    go : (e : Edition) → T (symbols_below p.q (chosen (in_edition e p) x s v))
    go edition13 = integrate_below p.q h 0 (add_one (in_edition edition13 p) (add_at p.q x 0 s) v)
    go edition18 = from_end_below p.q h (add_one (in_edition edition18 p) (add_at p.q x (length x - 1) s) v)

word_below : {p : Parameters} {a c : List ℕ} → Holding p a c → T (symbols_below p.q c)
word_below {p} {a} {c} h = and_right (eqb (length c) p.n) (symbols_below p.q c) h.word

-- a component with 1 added to a symbol has that symbol's column for a syndrome, and is restored to what it was
module _ (p : Parameters) (s : Sized p) {a c : List ℕ} (h : Holding p a c) (k : ℕ) (l : k < length c) where
  raised_long : k < length (add_at p.q c k 1)
  raised_long = lt-length-set c k ((get_or c k 0 + 1) % p.q) l

  raised_column : ColumnOf p (add_at p.q c k 1) k
  raised_column =
      lowered_column p (q_positive p s) (add_at p.q c k 1) k raised_long
      (subst (λ (x : List ℕ). T (in_code p x)) (sym (lowered_raised p.q (q_positive p s) c k (word_below h) l)) h.code)

  raised_restored : length c ≡ p.n → restored p (add_at p.q c k 1) ≡ c
  raised_restored n =
      restored_column p s (add_at p.q c k 1) (length-set c k ((get_or c k 0 + 1) % p.q) ∙ n) k raised_long raised_column
      ∙ lowered_raised p.q (q_positive p s) c k (word_below h) l

module _ (p : Parameters) (s : Sized p) (a b : List ℕ) (ha : Holding p a (component p a)) (hb : Holding p b (component p b)) (t v : ℕ)
    (tried : Tried p (balanced_length p) v)
    (weighs : weight (chosen p (interleaved p a b) t v) ≡ balancing_value p.q (balanced_length p)) where
  abbrev w : List ℕ
  w = chosen p (interleaved p a b) t v

  long : length w ≡ balanced_length p
  long = length_chosen p (interleaved p a b) t v ∙ length_interleaved p a b

  below : T (symbols_below p.q (with_checks p.q w))
  unfolding with_checks alpha beta
  below =
      let q : ℕ = p.q in
      let first : T (ltb (alpha q w) q) = lt→ltb (alpha q w) q (mod-lt _ (q_positive p s)) in
      let second : T (ltb (beta q w) q) = lt→ltb (beta q w) q (mod-lt _ (q_positive p s)) in
      symbols_append q w (alpha q w ∷ beta q w ∷ []) (chosen_below p (q_positive p s) (interleaved p a b) t v)
      (and_intro (ltb (alpha q w) q) (ltb (beta q w) q && true) first (and_intro (ltb (beta q w) q) true second tt))

  sent : Sent p.q (component p a) (component p b) (differences p w)
  unfolding interleaved
  sent =
      let c : List ℕ = component p a in
      let d : List ℕ = component p b in
      let z : List ℕ = interleave c d in
      let (i, l, e) = tried_index p (balanced_length p) v tried in
      let k : i ≤ length z = omega (arith, length_interleaved p a b, length_zero p z) in
      let back : differences p w ≡ add_one p z i =
      ap (λ (v : ℕ). differences p (chosen p (with_zero p z) t v)) e
      ∙ undone p (q_positive p s) z t i (symbols_interleave p.q c d (word_below ha) (word_below hb)) k in
      subst (Sent p.q c d) (sym back) (choice_sent p c d i (length_component p a ∙ sym (length_component p b)) k)

  near : NearIn p w
  near = go sent
    where
      zero : {e c : List ℕ} (b : Bool) → Holding p e c → differenced p b w ≡ c → Zero p (differenced p b w)
      zero {c = c} b h x = subst (Zero p) (sym x) (code_zero p c h.code)

      column : {e c : List ℕ} (b : Bool) → Holding p e c → (k : ℕ) → k < length c → differenced p b w ≡ add_at p.q c k 1
          → Column p (differenced p b w)
      column b h k l x = subst (Column p) (sym x) (k, raised_long p s h k l, raised_column p s h k l)

      go : Sent p.q (component p a) (component p b) (differences p w) → NearIn p w
      go (as_made e f) = neither (zero true ha e) (zero false hb f)
      go (first_raised k l e f) = first (column true ha k l e) (zero false hb f)
      go (second_raised k l e f) = second (zero true ha e) (column false hb k l f)

  -- each component is restored to the one that was made
  restored_made : (restored p (differenced p true w) ≡ component p a) × (restored p (differenced p false w) ≡ component p b)
  restored_made = go sent
    where
      made : {e c : List ℕ} → Holding p e c → length c ≡ p.n → restored p c ≡ c
      made {c = c} h n = restored_zero p s c n (code_zero p c h.code)

      go : Sent p.q (component p a) (component p b) (differences p w)
          → (restored p (differenced p true w) ≡ component p a) × (restored p (differenced p false w) ≡ component p b)
      go (as_made e f) = (ap (restored p) e ∙ made ha (length_component p a), ap (restored p) f ∙ made hb (length_component p b))
      go (first_raised k l e f) =
          (ap (restored p) e ∙ raised_restored p s ha k l (length_component p a), ap (restored p) f ∙ made hb (length_component p b))
      go (second_raised k l e f) =
          (ap (restored p) e ∙ made ha (length_component p a), ap (restored p) f ∙ raised_restored p s hb k l (length_component p b))

  here : body p (with_checks p.q w) ≡ w
  here = body_with_checks p w long

  encodes : Encodes p (with_checks p.q w) a b
  unfolding carried received
  encodes =
      record {
        is_codeword = codeword_of p (q_positive p s) w long below weighs near;
        first =
            ap (λ (x : List ℕ). message p (restored p (differenced p true x))) here
            ∙ ap (message p) restored_made.0
            ∙ ha.holds;
        second =
            ap (λ (x : List ℕ). message p (restored p (differenced p false x))) here
            ∙ ap (message p) restored_made.1
            ∙ hb.holds;
      }

pub choice_carries : ChoiceCarries
choice_carries p s a b ha hb t v tried weighs = encodes p s a b (component_holding p s a ha) (component_holding p s b hb) t v tried weighs

module _ (p : Parameters) (s : Sized p) (a b : List ℕ) (ha : T (is_word p.q (message_length p) a))
    (hb : T (is_word p.q (message_length p) b)) where
  earliest_carries : Encodes p (encoded p a b) a b
  unfolding encoded balanced
  earliest_carries =
      let (e, found) = balance_of_pair p s a b in
      choice_carries p s a b ha hb (earliest_s p (interleaved p a b)) (earliest_v p (interleaved p a b))
      (rw e at found.v_tried) (found.balances ∙ ap (balancing_value p.q) e)

  least_peak_carries : Encodes p (encoded_by rule2 p a b) a b
  unfolding encoded_by balanced_by
  least_peak_carries =
      let e = length_interleaved p a b in
      let found = least_peak_of_pair_lem p s a b in
      choice_carries p s a b ha hb (chosen_s rule2 p (interleaved p a b)) (chosen_v rule2 p (interleaved p a b))
      (rw e at found.v_tried) (found.balances ∙ ap (balancing_value p.q) e)

pub encoded_carries : EncodedCarries
encoded_carries rule1 p s a b ha hb = subst (λ (u : List ℕ). Encodes p u a b) (sym (rule_one p a b)) (earliest_carries p s a b ha hb)
encoded_carries rule2 p s a b ha hb = least_peak_carries p s a b ha hb
