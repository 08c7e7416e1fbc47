-- The symbols of a received word, one after the other: all are levels or erasures where the highest of the numbers after them is at most q,
-- and the next that is erased.
-- Assumes nothing.
use Rattle.std.proofs.Common.{◌≡◌, ℕ, suc, max, ◌+◌, ◌%◌, ◌<◌, ◌≤◌, Bool, ◌&&◌, ◌||◌, T, eqb, ltb, leb, ◌≢◌, List, [], ◌∷◌, length, get_or, drop, sym, ap, ◌∙◌, ⊎_elim, mod-eq_of_lt, add-one, arith, le→leb, eqb→eq, ltb→lt, lt→ltb, leb→le, drop_of_length-le, drop-cons, eq-eqb, ne_eqb}
use mathlib.Core.Bool.{and-true, and_assoc}
use native.Mathlib.Nat.{mod-le}
use lib.Dec.{leb-zero}
use Rattle.modular_theory.proofs.Search.{le_or_lt, same_test, and_left, and_right, and_intro, or_left, or_right, or_cases, eq_test}
use Rattle.code_theory.specs.Component.{erasure, levels_or_erasures}
use Rattle.code_theory.specs.Erasures.{erased_indices}
use Rattle.profiles.specs.Refusal.{erased_from}

-- the number after a byte, in a byte
abbrev after : ℕ → ℕ
after x = (x + 1) % 256

good_by_after : (q x : ℕ) → x < 256 → (ltb x q || eqb x erasure) ≡ leb (after x) q
good_by_after q x h = same_test (ltb x q || eqb x erasure) (leb (after x) q) to back
  where
    to : T (ltb x q || eqb x erasure) → T (leb (after x) q)
    to t =
        ⊎_elim (λ (l : T (ltb x q)). le→leb (after x) q (omega (arith, ltb→lt x q l, mod-le (x + 1) 256)))
        (λ (e : T (eqb x erasure)). rw (eqb→eq x erasure e, leb-zero q) tt) (or_cases (ltb x q) (eqb x erasure) t)

    back : T (leb (after x) q) → T (ltb x q || eqb x erasure)
    back t =
        ⊎_elim (λ (l : erasure ≤ x). let e : x ≡ erasure = omega arith in or_right (ltb x q) (eqb x erasure) (eq_test e))
        (λ (l : x < erasure).
        let s : x + 1 < 256 = omega arith in
        or_left (ltb x q) (eqb x erasure) (lt→ltb x q (omega (arith, leb→le (after x) q t, mod-eq_of_lt s)))) (le_or_lt erasure x)

-- two numbers are both at most q where the higher is
both_by_max : (a b q : ℕ) → (leb a q && leb b q) ≡ leb (max b a) q
both_by_max a b q =
    same_test (leb a q && leb b q) (leb (max b a) q)
    (λ t. le→leb (max b a) q (omega (arith, leb→le a q (and_left (leb a q) (leb b q) t), leb→le b q (and_right (leb a q) (leb b q) t))))
    (λ t.
    let l : max b a ≤ q = leb→le (max b a) q t in
    and_intro (leb a q) (leb b q) (le→leb a q (omega arith)) (le→leb b q (omega arith)))

-- the highest of the numbers after the first i symbols, or 0: for any q it says whether these are good
pub record HighestAfter (word : List ℕ) (highest i : ℕ) : Type 0 where
  decides : (q : ℕ) → levels_or_erasures q word ≡ (leb highest q && levels_or_erasures q (drop i word))

pub after_none : (word : List ℕ) → HighestAfter word 0 0
after_none word = record { decides = λ q. rw (leb-zero q) }

module _ {word : List ℕ} {highest i : ℕ} (h : HighestAfter word highest i) where
  pub after_all : length word ≤ i → (q : ℕ) → leb highest q ≡ levels_or_erasures q word
  after_all l q = sym (h.decides q ∙ rw (drop_of_length-le word l, and-true))

  -- one symbol more, with n the number after it
  module _ (l : i < length word) (byte : get_or word i 0 < 256) {n : ℕ} (is : n ≡ after (get_or word i 0)) where
    decides_next : (q : ℕ) → levels_or_erasures q word ≡ ((leb highest q && leb n q) && levels_or_erasures q (drop (i + 1) word))
    decides_next q =
        let rest : Bool = levels_or_erasures q (drop (suc i) word) in
        let good = good_by_after q (get_or word i 0) byte ∙ ap (λ (x : ℕ). leb x q) (sym is) in
        h.decides q
        ∙ rw (drop-cons word i 0 l, add-one i)
        (ap (λ (b : Bool). leb highest q && (b && rest)) good ∙ sym (and_assoc (leb highest q) (leb n q) rest))

    pub after_more : HighestAfter word (max n highest) (i + 1)
    after_more = record { decides = λ q. decides_next q ∙ rw (both_by_max highest n q) }

-- The erased symbols from index i on.
module _ (u : List ℕ) (i : ℕ) where
  pub erased_here : i < length u → get_or u i 0 ≡ erasure → erased_from i u ≡ i ∷ erased_from (i + 1) u
  erased_here l e = rw (add-one i, drop-cons u i 0 l, eq-eqb (get_or u i 0) erasure e, erased_indices)

  pub erased_later : i < length u → get_or u i 0 ≢ erasure → erased_from i u ≡ erased_from (i + 1) u
  erased_later l n = rw (add-one i, drop-cons u i 0 l, ne_eqb (get_or u i 0) erasure n, erased_indices)

  pub erased_none : length u ≤ i → erased_from i u ≡ []
  erased_none l = rw (drop_of_length-le u l)
