-- The array of a word with 0 at its erased positions, symbol by symbol.
-- Assumes nothing.
use mathlib.Core.Path.{◌≡◌, refl, sym, ap, ◌∙◌}
use mathlib.Core.Bool.{Bool, true, false}
use mathlib.Core.Logic.{⊎_elim}
use mathlib.Core.List.{List, [], ◌∷◌, ◌++◌, map}
use Prim.Native.Nat.{ℕ, zero, suc, min, ◌+◌, ◌-◌, ◌≤◌, ◌<◌}
use native.Mathlib.Nat.{not-suc-le-zero}
use native.Mathlib.Omega.{arith}
use lib.Dec.{eqb}
use lib.ListN.{length, get_or, take, drop, set, replicate, length-append, length-replicate, get_or-map, get_or-eq_default}
use lib.Seq.{get_or-take, get_or-set_other, take-take, take_at, length-take-le, ext_get_or}
use Rattle.std.proofs.lemmas.List.{drop-replicate}
use Rattle.modular_theory.proofs.Search.{le_or_lt}
use Rattle.code_theory.specs.Component.{erasure}
use Rattle.decoding_theory.specs.Filled.{cleared}
use Rattle.modular.proofs.Filling.{FilledTo, filled_none, filled_more}
use Rattle.decoding_theory.proofs.Cleared.{cleared_length}
use Rattle.fillings.specs.Cleared.{unless_erased, cleared_array}

zeros : (m k : ℕ) → ◌≡◌ {A = ℕ} (get_or (replicate m 0) k 0) 0
zeros zero k = refl
zeros (suc m) zero = refl
zeros (suc m) (suc k) = zeros m k

-- past the end a symbol is 0
padded : (l : List ℕ) (m k : ℕ) → get_or (l ++ replicate m 0) k 0 ≡ get_or l k 0
padded [] m k = zeros m k
padded (x ∷ l) m zero = refl
padded (x ∷ l) m (suc k) = padded l m k

cleared_is : (w : List ℕ) → cleared w ≡ map unless_erased w
unfolding unless_erased
cleared_is [] = refl
cleared_is (x ∷ w) = at (eqb x erasure) (cleared_is w)
  where
    at : (b : Bool) → cleared w ≡ map unless_erased w
        → elim b as (λ _. List ℕ) [ true ↦ 0 ∷ cleared w | false ↦ x ∷ cleared w ]
        ≡ (elim b as (λ _. ℕ) [ true ↦ 0 | false ↦ x ]) ∷ map unless_erased w
    at true e = ap (λ (l : List ℕ). 0 ∷ l) e
    at false e = ap (λ (l : List ℕ). x ∷ l) e

pub array_long : (w : List ℕ) → length (cleared_array w) ≡ 99
unfolding cleared_array
array_long w = length-take-le 99 (cleared w ++ replicate 99 0) (omega (arith, length-append (cleared w) (replicate 99 0)))

array_at : (w : List ℕ) (k : ℕ) → k < 99 → get_or (cleared_array w) k 0 ≡ unless_erased (get_or w k 0)
unfolding cleared_array unless_erased
array_at w k h =
    get_or-take 99 (cleared w ++ replicate 99 0) k 0 h
    ∙ padded (cleared w) 99 k
    ∙ ap (λ (l : List ℕ). get_or l k 0) (cleared_is w)
    ∙ get_or-map unless_erased w k 0

-- where it holds the word, it begins with it
pub array_take : (w : List ℕ) → length w ≤ 99 → take (length w) (cleared_array w) ≡ cleared w
unfolding cleared_array
array_take w h =
    take-take (length w) 99 (cleared w ++ replicate 99 0) h ∙ take_at (cleared w) (replicate 99 0) (length w) (cleared_length w)

-- Up to 99 symbols, the first of w with zeros after them are those of w.
module _ (w : List ℕ) {n : ℕ} (end : n ≡ min (length w) 99) where
  copied_at : (k : ℕ) → k < 99 → get_or (take n w ++ drop n (replicate 99 0)) k 0 ≡ get_or w k 0
  copied_at k l =
      rw (drop-replicate {X = ℕ} n 99 0) (padded (take n w) (99 - n) k)
      ∙ ⊎_elim (λ (h : n ≤ k). past h) (λ (h : k < n). get_or-take n w k 0 h) (le_or_lt n k)
    where
      past : n ≤ k → get_or (take n w) k 0 ≡ get_or w k 0
      past h =
          let all : length (take n w) ≤ k = omega (arith, length-take-le n w (omega arith)) in
          get_or-eq_default (take n w) 0 all ∙ sym (get_or-eq_default w 0 (omega (arith, end, h, l)))

  copied_long : length (take n w ++ drop n (replicate 99 0)) ≡ 99
  copied_long =
      let first : length (take n w) ≡ n = length-take-le n w (omega arith) in
      let others : length {A = ℕ} (replicate (99 - n) 0) ≡ 99 - n = length-replicate (99 - n) 0 in
      rw (drop-replicate {X = ℕ} n 99 0) (omega (arith, length-append (take n w) (replicate (99 - n) 0), first, others, end))

-- the first i of 99 symbols are cleared, and the others those of w
pub record ClearedTo (w array : List ℕ) (i : ℕ) : Type 0 where
  pub passed : FilledTo (λ k. unless_erased (get_or w k 0)) 99 array i
  pub rest : (k : ℕ) → i ≤ k → k < 99 → get_or array k 0 ≡ get_or w k 0

pub cleared_none : (w : List ℕ) {n : ℕ} {copied : List ℕ} → n ≡ min (length w) 99 → copied ≡ take n w
    → ClearedTo w (copied ++ drop n (replicate 99 0)) 0
cleared_none w end is =
    rw is (record { passed = filled_none _ _ (copied_long w end); rest = λ k h l. copied_at w end k l })

module _ {w array : List ℕ} {i : ℕ} (c : ClearedTo w array i) where
  pub cleared_more : i < 99 → {y : ℕ} → y ≡ unless_erased (get_or array i 0) → ClearedTo w (set array i y) (i + 1)
  cleared_more room {y} e =
      record {
        passed = filled_more c.passed room (e ∙ ap unless_erased (c.rest i (omega arith) room));
        rest =
            λ k h l. get_or-set_other array i k y 0 (λ z. not-suc-le-zero {n = 0} (omega (arith, z, h))) ∙ c.rest k (omega (arith, h)) l;
      }

  pub cleared_all : 99 ≤ i → array ≡ cleared_array w
  cleared_all h =
      ext_get_or 0 array (cleared_array w) (c.passed.size ∙ sym (array_long w))
      (λ k l. c.passed.at k (omega (arith, l, h, c.passed.size)) ∙ sym (array_at w k (omega (arith, l, c.passed.size))))
