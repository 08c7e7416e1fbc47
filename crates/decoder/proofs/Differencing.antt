-- An array of the differences of a body: it holds the components, and one corrected symbol changes its own difference and the next.
-- Assumes nothing.
use mathlib.Core.Path.{◌≡◌, refl, sym, ap, ap₂, subst, ◌∙◌}
use mathlib.Core.Logic.{◌≢◌}
use mathlib.Core.Bool.{Bool, true, false, ◌||◌}
use mathlib.Core.List.{List, [], ◌∷◌}
use Prim.Native.Nat.{ℕ, zero, suc, min, ◌+◌, ◌-◌, ◌≤◌, ◌<◌}
use native.Mathlib.Nat.{not-suc-le-zero, le_of_suc-le-suc, le_of_lt, min-eq_left}
use native.Mathlib.Omega.{arith}
use lib.Dec.{T, eqb, ltb, lt→ltb}
use lib.ListN.{length, get_or, take, drop, set, replicate, length-set, length-drop, get_or-replicate}
use lib.Seq.{get_or-take, get_or-drop, get_or-set_other, ext_get_or, length-take-le}
use Rattle.modular_theory.proofs.Search.{holds, and_intro, or_left, or_right, eq_test}
use Rattle.code_theory.specs.Parameters.{Edition, edition13, edition18, Parameters, in_edition}
use Rattle.code_theory.specs.Balance.{neighbour_difference, differences}
use Rattle.code_theory.specs.Codeword.{alternate, body, received}
use Rattle.code_theory.proofs.Symbols.{symbol_below, symbols_set}
use Rattle.code_theory.proofs.Weights.{length_differences, differences_below}
use Rattle.code_theory.proofs.Columns.{q_positive}
use Rattle.modular.proofs.Bytes.{byte_difference_lem}
use Rattle.profiles.specs.declared.row.Row.{Row}
use Rattle.profiles.specs.Row.{parameters, Valid}
use Rattle.differences.specs.Overlaid.{difference_of, differences_at, changed_by}
use Rattle.differences.proofs.Indices.{length_held, first_held, difference_held, other_held}
use Rattle.decoder.specs.Received.{BodyArray}
use Rattle.decoder.specs.Direction.{is_backward}
use Rattle.decoder.specs.Totals.{WholeWord, Components}

difference_at_lem : (p : Parameters) (w : List ℕ) (j : ℕ) → suc j < length w
    → get_or (differences p w) j 0 ≡ neighbour_difference p (get_or w j 0) (get_or w (suc j) 0)
difference_at_lem p [] j h = absurd (not-suc-le-zero h)
difference_at_lem p (x ∷ []) j h = absurd (not-suc-le-zero (le_of_suc-le-suc h))
difference_at_lem p (x ∷ y ∷ w) zero h = refl
difference_at_lem p (x ∷ y ∷ w) (suc j) h = difference_at_lem p (y ∷ w) j (le_of_suc-le-suc h)

-- the differences that the code takes, in the direction of the edition, are those meant
bytes_differ : (p : Parameters) {x y : ℕ} → x < p.q → y < p.q → p.q ≤ 255
    → difference_of (is_backward p) p.q x y ≡ neighbour_difference p x y
unfolding difference_of
bytes_differ p {x} {y} h k l = go p.edition
  where
    go : (o : Edition) → difference_of (is_backward (in_edition o p)) p.q x y ≡ neighbour_difference (in_edition o p) x y
    go edition13 = (byte_difference_lem k (le_of_lt h) l refl).0
    go edition18 = (byte_difference_lem h (le_of_lt k) l refl).0

one-add : (j : ℕ) → 1 + j ≡ suc j
one-add j = omega arith

-- the difference of the symbols at j and j + 1
abbrev pub between : Row → List ℕ → ℕ → ℕ
between t u j = neighbour_difference (parameters t) (get_or u j 0) (get_or u (suc j) 0)

-- the differences fit the array
pub short : {t : Row} → Valid t → t.balanced ≤ 97
short v = omega (arith, v.balanced, v.length)

-- the zeros that it is made of are levels
pub zero_array : {t : Row} → Valid t → BodyArray t (replicate 97 0)
zero_array {t} v =
    let some = q_positive (parameters t) v.sized in
    record { valid = v; size = refl; below = λ i l. rw (get_or-replicate {A = ℕ} 97 i 0 0 (omega (arith, l, short v))) some }

module _ {t : Row} {u : List ℕ} (w : WholeWord t u) where
  q₁ : 1 ≤ t.q
  q₁ = q_positive (parameters t) w.valid.sized

  pub symbols_long : t.balanced ≤ length u
  symbols_long = omega (arith, w.long, w.valid.balanced)

  pub level : (j : ℕ) → get_or u j 0 < t.q
  level = symbol_below t.q q₁ u w.below

  -- an array that holds the differences holds the components
  pub components : {x : List ℕ} → BodyArray t x → ((j : ℕ) → suc j < t.balanced → get_or x (suc j) 0 ≡ between t u j) → Components t u x
  unfolding received body
  components {x} b at = record { levels = b; at = at; parts = λ c. ap (alternate c) (rw w.valid.balanced at same) }
    where
      long : length (take t.balanced u) ≡ t.balanced
      long = length-take-le t.balanced u symbols_long

      same : drop 1 (take t.balanced x) ≡ differences (parameters t) (take t.balanced u)
      same =
          let some : 1 ≤ length (take t.balanced u) = omega (arith, long, w.valid.balanced) in
          let rest : suc (length (differences (parameters t) (take t.balanced u))) ≡ t.balanced =
          length_differences (parameters t) (take t.balanced u) some ∙ long in
          let whole : length (take t.balanced x) ≡ t.balanced =
          length-take-le t.balanced x (omega (arith, b.size, short w.valid)) in
          let size : length (drop 1 (take t.balanced x)) ≡ length (differences (parameters t) (take t.balanced u)) =
          length-drop 1 (take t.balanced x) ∙ omega (arith, whole, rest) in
          ext_get_or 0 (drop 1 (take t.balanced x)) (differences (parameters t) (take t.balanced u)) size
          (λ j l.
          let inside : suc j < t.balanced = omega (arith, size, rest) in
          let own : get_or (take t.balanced u) j 0 ≡ get_or u j 0 = get_or-take t.balanced u j 0 (omega arith) in
          let after : get_or (take t.balanced u) (suc j) 0 ≡ get_or u (suc j) 0 = get_or-take t.balanced u (suc j) 0 inside in
          get_or-drop 1 (take t.balanced x) j 0
          ∙ ap (λ (k : ℕ). get_or (take t.balanced x) k 0) (one-add j)
          ∙ get_or-take t.balanced x (suc j) 0 inside ∙ at j inside
          ∙ sym (difference_at_lem (parameters t) (take t.balanced u) j (omega (arith, long))
          ∙ ap₂ (neighbour_difference (parameters t)) own after))

-- An array that held levels, once differences of u are put into it: it holds the components where every other difference was right before.
module _ {t : Row} {u : List ℕ} (w : WholeWord t u) (asked : ℕ → Bool) {x : List ℕ} (b : BodyArray t x)
    (kept : (j : ℕ) → suc j < t.balanced → asked (suc j) ≡ false → get_or x (suc j) 0 ≡ between t u j) where
  abbrev back : Bool
  back = is_backward (parameters t)

  abbrev placed : List ℕ
  placed = differences_at asked back t.q u x

  difference_is : (j : ℕ) → suc j < t.balanced → get_or placed (suc j) 0 ≡ between t u j
  difference_is j l = at (asked (suc j)) refl
    where
      at : (c : Bool) → asked (suc j) ≡ c → get_or placed (suc j) 0 ≡ between t u j
      at true e =
          let fits : suc j < length x = omega (arith, b.size, short w.valid, l) in
          let there : suc j < length u = omega (arith, symbols_long w, l) in
          let before : suc j - 1 ≡ j = omega arith in
          difference_held asked back t.q u x j fits there (holds (asked (suc j)) e)
          ∙ bytes_differ (parameters t) (level w (suc j - 1)) (level w (suc j)) (omega (arith, w.valid.levels))
          ∙ ap (λ (k : ℕ). neighbour_difference (parameters t) (get_or u k 0) (get_or u (suc j) 0)) before
      at false e = other_held asked back t.q u x (suc j) e ∙ kept j l e

  placed_below : (j : ℕ) → j < t.balanced → get_or placed j 0 < t.q
  placed_below zero l = rw (first_held asked back t.q u x) (b.below 0 l)
  placed_below (suc j) l = rw (difference_is j l) (differences_below (parameters t) (q₁ w) (get_or u j 0 ∷ get_or u (suc j) 0 ∷ []) 0)

  components_placed : {d : Bool} → d ≡ back → {y : List ℕ} → y ≡ differences_at asked d t.q u x → Components t u y
  components_placed f e =
      rw (e, f)
      (components w (record { valid = w.valid; size = length_held asked back t.q u x ∙ b.size; below = placed_below }) difference_is)

-- an index of a body is one of the array's
inside : {t : Row} → Valid t → (j : ℕ) → j < t.balanced → T (ltb j (min t.balanced 97))
inside {t} v j l = lt→ltb j (min t.balanced 97) (rw (min-eq_left (short v)) l)

-- all of them
pub components_differenced : {t : Row} {u x y : List ℕ} → WholeWord t u → BodyArray t x → {d : Bool} → d ≡ is_backward (parameters t)
    → y ≡ differences_at (λ j. ltb j (min t.balanced 97)) d t.q u x → Components t u y
components_differenced {t} {u} {x} w b d-is e =
    components_placed w (λ j. ltb j (min t.balanced 97)) b (λ j l f. absurd (subst T f (inside w.valid (suc j) l))) d-is e

pub word_set : {t : Row} {u : List ℕ} → WholeWord t u → (i : ℕ) {y : ℕ} → y < t.q → WholeWord t (set u i y)
word_set {t} {u} w i {y} l =
    record { valid = w.valid; long = length-set u i y ∙ w.long; below = symbols_set t.q u i y l w.below }

-- those that change where the symbol at index i is corrected to s
pub components_corrected : {t : Row} {u x y : List ℕ} (i s : ℕ) → WholeWord t u → s < t.q → Components t u x
    → {d : Bool} → d ≡ is_backward (parameters t)
    → y ≡ differences_at (changed_by i (min t.balanced 97)) d t.q (set u i s) x → Components t (set u i s) y
components_corrected {t} {u} {x} i s w l c d-is e =
    components_placed (word_set w i l) (changed_by i (min t.balanced 97)) c.levels kept d-is e
  where
    -- neither symbol of a difference that is left is the one corrected
    other : (j : ℕ) → suc j < t.balanced → changed_by i (min t.balanced 97) (suc j) ≡ false
        → T (eqb (suc j) i || eqb (suc j) (suc i)) → ⊥
    other j h f t' =
        subst T f (and_intro (eqb (suc j) i || eqb (suc j) (suc i)) (ltb (suc j) (min t.balanced 97)) t' (inside w.valid (suc j) h))

    kept : (j : ℕ) → suc j < t.balanced → changed_by i (min t.balanced 97) (suc j) ≡ false
        → get_or x (suc j) 0 ≡ between t (set u i s) j
    kept j h f =
        let own : suc j ≢ i = λ z. other j h f (or_left (eqb (suc j) i) (eqb (suc j) (suc i)) (eq_test z)) in
        let next : j ≢ i = λ z. other j h f (or_right (eqb (suc j) i) (eqb (suc j) (suc i)) (eq_test (ap suc z))) in
        c.at j h
        ∙ ap₂ (neighbour_difference (parameters t)) (sym (get_or-set_other u i j s 0 next)) (sym (get_or-set_other u i (suc j) s 0 own))
