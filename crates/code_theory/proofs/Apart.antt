-- Two codewords that differ in at most two positions are equal.
-- Assumes nothing.
use mathlib.Core.Path.{◌≡◌, sym, ap, ap₂, subst, subst₂, ◌∙◌}
use mathlib.Core.Logic.{◌⊎◌, inl, inr, ◌≢◌}
use mathlib.Core.Bool.{true}
use mathlib.Core.List.{List, [], ◌∷◌, head-eq_of_cons-eq}
use Prim.Native.Nat.{ℕ, suc, ◌+◌, ◌*◌, ◌%◌, ◌≤◌, ◌<◌}
use native.Mathlib.Nat.{suc_inj, zero-add, add_comm, pos_of_ne-zero}
use native.Mathlib.Omega.{arith}
use lib.Dec.{T}
use lib.ListN.{length, get_or, set}
use lib.Seq.{get_or-set_same, get_or-set_other, lt-length-set, set-set, set-get_or}
use Rattle.modular_theory.specs.Sum.{weight, dot}
use Rattle.modular_theory.specs.Residue.{Congruent, Invertible, minus}
use Rattle.modular_theory.proofs.Residue.{of_eq, same, symm, ◌then◌, add, small, cancel, minus_add, minus_below, prime_inverse}
use Rattle.modular_theory.proofs.Sum.{dot_gain, weight_set}
use Rattle.code_theory.specs.Parameters.{Parameters, Sized, balanced_length, delta}
use Rattle.code_theory.specs.Codeword.{alternate, alpha, beta, with_checks, body, received, codeword}
use Rattle.code_theory.specs.Reading.{distance}
use Rattle.code_theory.specs.Claims.{ApartByUnits, DifferencesInvertible, Apart}
use Rattle.code_theory.proofs.Weights.{double, ones, dot_ones}
use Rattle.code_theory.proofs.Columns.{q_positive}
use Rattle.code_theory.proofs.Moves.{Move, NearIn, move_weight, no_move}
use Rattle.code_theory.proofs.Told.{told}
use Rattle.code_theory.proofs.Distance.{equal_or_not, Differing, differing, TwoApart}
use Rattle.code_theory.proofs.Distance.{two_apart, distance_zero, distance_sym, distance_append}
use Rattle.code_theory.proofs.Symbols.{symbol_below}
use Rattle.code_theory.proofs.Conditions.{Conditions, conditions, body_length, balanced_length_lem, body_at}

-- two changed symbols that keep the weight are a move
move : (q : ℕ) → 1 ≤ q → (w : List ℕ) (i j a b : ℕ) → i < length w → j < length w → j ≢ i → weight (set (set w i a) j b) ≡ weight w
    → Move q w (set (set w i a) j b) (minus q a (get_or w i 0)) i j
move q h w i j a b hi hj ne k = record { sums = sums }
  where
    w₁ : List ℕ
    w₁ = set w i a

    w' : List ℕ
    w' = set w₁ j b

    x : ℕ
    x = get_or w i 0

    y : ℕ
    y = get_or w j 0

    e : ℕ
    e = minus q a x

    hj' : j < length w₁
    hj' = lt-length-set w i a hj

    other : get_or w₁ j 0 ≡ y
    other = get_or-set_other w i j a 0 ne

    exchange : y + x ≡ b + a
    exchange = omega (arith, weight_set w i a hi, weight_set w₁ j b hj', other)

    gained : Congruent q (e + x) a
    gained = minus_add q a x h

    lost : Congruent q (b + e) y
    lost =
        let l : b + e + x ≡ b + (e + x) = omega arith in
        cancel x (of_eq l then add (same b) gained then of_eq (sym exchange))

    -- w₁ is w' with what was taken at j put back
    back : set w' j y ≡ w₁
    back = set-set w₁ j b y ∙ ap (set w₁ j) (sym other) ∙ set-get_or w₁ j 0

    sums : (f : ℕ → ℕ) → Congruent q (dot f w' + f j * e) (dot f w + f i * e)
    sums f =
        let here : get_or w' j 0 ≡ b = get_or-set_same w₁ j b 0 hj' in
        let raised : Congruent q (dot f (set w' j y)) (dot f w' + f j * e) =
        dot_gain f w' j y e (lt-length-set w₁ j b hj') (rw here lost) in
        symm raised then of_eq (ap (dot f) back) then dot_gain f w i a e hi (of_eq (add_comm x e) then gained)

-- the check sum over the odd positions is kept where the check symbol is
odd_sum : (q : ℕ) (w w' : List ℕ) → length w ≡ length w' → alpha q w ≡ alpha q w' → Congruent q (dot (ones true) w) (dot (ones true) w')
unfolding alpha
odd_sum q w w' e h =
    let asked : alpha q w' ≡ (weight (alternate true w') + delta q (length w)) % q =
    ap (λ (k : ℕ). (weight (alternate true w') + delta q k) % q) (sym e) in
    of_eq (dot_ones true w) then cancel (delta q (length w)) (record { same = h ∙ asked }) then of_eq (sym (dot_ones true w'))

-- balanced words do not differ in one position alone
not_one : (w w' : List ℕ) → length w ≡ length w' → weight w ≡ weight w' → distance w w' ≢ 1
not_one w w' l k e =
    let d : Differing w w' = differing w w' l (omega arith) in
    let i : ℕ = d.index in
    let z : set w i (get_or w' i 0) ≡ w' = distance_zero _ _ (suc_inj (sym d.falls ∙ e)) in
    d.unequal (omega (arith, weight_set w i (get_or w' i 0) d.within, ap weight z))

-- wherever w and w' differ, the difference has an inverse mod q
abbrev ByUnits : ℕ → List ℕ → List ℕ → Type 0
ByUnits q w w' = (i : ℕ) → i < length w → get_or w i 0 ≢ get_or w' i 0 → Invertible q (minus q (get_or w' i 0) (get_or w i 0))

-- nor in two, where they have components near the code and the same check symbol α, and the difference has an inverse
not_two : (p : Parameters) → Sized p → (w w' : List ℕ) → length w ≡ suc (double p.n) → length w' ≡ suc (double p.n)
    → weight w ≡ weight w' → NearIn p w → NearIn p w' → alpha p.q w ≡ alpha p.q w' → ByUnits p.q w w' → TwoApart w w' → ⊥
not_two p s w w' l l' k a a' c f t =
    moved t.i t.j t.i_within t.j_within t.distinct (f t.i t.i_within t.unequal) t.changed
  where
    e : ℕ → ℕ
    e i = minus p.q (get_or w' i 0) (get_or w i 0)

    moved : (i j : ℕ) → i < length w → j < length w → j ≢ i → Invertible p.q (e i) → set (set w i (get_or w' i 0)) j (get_or w' j 0) ≡ w' → ⊥
    moved i j hi hj ne u z =
        no_move p s m u l l'
        (told p s i j (subst (λ (x : ℕ). i < x) l hi) (subst (λ (x : ℕ). j < x) l hj) (λ x. ne (sym x))
        (move_weight m u (ones true) (odd_sum p.q w w' (l ∙ sym l') c)))
        a a'
      where
        m : Move p.q w w' (e i) i j
        m =
            subst (λ (x : List ℕ). Move p.q w x (e i) i j) z
            (move p.q (q_positive p s) w i j (get_or w' i 0) (get_or w' j 0) hi hj ne (ap weight z ∙ sym k))

pub apart_by_units : ApartByUnits
unfolding with_checks received
apart_by_units p s u v hu hv f d = sym (go (equal_or_not (distance w w') 0))
  where
    lu : Conditions p u
    lu = conditions p (q_positive p s) u hu

    lv : Conditions p v
    lv = conditions p (q_positive p s) v hv

    w : List ℕ
    w = body p v

    w' : List ℕ
    w' = body p u

    long : length w ≡ balanced_length p
    long = body_length p v lv.long

    long' : length w' ≡ balanced_length p
    long' = body_length p u lu.long

    weights : weight w ≡ weight w'
    weights = lv.weighs ∙ sym lu.weighs

    checks : List ℕ → List ℕ
    checks x = alpha p.q x ∷ beta p.q x ∷ []

    total : distance u v ≡ distance w w' + distance (checks w) (checks w')
    total = distance_sym u v ∙ ap₂ distance lv.checks lu.checks ∙ distance_append w w' (checks w) (checks w') (long ∙ sym long')

    apart : distance w w' + distance (checks w) (checks w') ≤ 2
    apart = subst (λ (x : ℕ). x ≤ 2) total d

    by_units : distance u v ≡ 2 → ByUnits p.q w w'
    by_units two i h n =
        let k : i < balanced_length p = subst (λ (x : ℕ). i < x) long h in
        subst₂ (λ (x y : ℕ). Invertible p.q (minus p.q x y)) (sym (body_at p u i k)) (sym (body_at p v i k))
        (f two i (λ x. n (body_at p v i k ∙ sym x ∙ sym (body_at p u i k))))

    go : (distance w w' ≡ 0) ⊎ (distance w w' ≢ 0) → v ≡ u
    go (inl z) = lv.checks ∙ ap (with_checks p.q) (distance_zero w w' z) ∙ sym lu.checks
    go (inr n) =
        let one : distance w w' ≢ 1 = not_one w w' (long ∙ sym long') weights in
        let two : distance w w' ≡ 2 = omega (arith, apart) in
        let none : distance (checks w) (checks w') ≡ 0 = omega (arith, apart) in
        let alphas : alpha p.q w ≡ alpha p.q w' = head-eq_of_cons-eq (distance_zero (checks w) (checks w') none) in
        absurd
        (not_two p s w w' (long ∙ balanced_length_lem p) (long' ∙ balanced_length_lem p) weights lv.near lu.near alphas
        (by_units (omega (arith, total))) (two_apart w w' (long ∙ sym long') two))

pub differences_invertible : DifferencesInvertible
differences_invertible q h a b ha hb n = prime_inverse h (minus q a b) (pos_of_ne-zero (λ e. n (equal e))) (minus_below q a b positive)
  where
    positive : 1 ≤ q
    positive = omega (arith, h.large)

    equal : minus q a b ≡ 0 → a ≡ b
    equal e = sym (small hb ha (of_eq (sym (zero-add b) ∙ ap (λ (x : ℕ). x + b) (sym e)) then minus_add q a b positive))

pub apart : Apart
apart p s h u v hu hv d =
    apart_by_units p s u v hu hv (λ _ i n. differences_invertible p.q h (get_or u i 0) (get_or v i 0) (below u hu i) (below v hv i) n) d
  where
    below : (x : List ℕ) → T (codeword p x) → (i : ℕ) → get_or x i 0 < p.q
    below x hx i = symbol_below p.q (q_positive p s) x (conditions p (q_positive p s) x hx).below i
