-- The list that is met by following byte 0 from a cell, and what changes of next cells do to it.
-- Assumes nothing.
use mathlib.Core.Path.{◌≡◌, refl, sym, subst, ◌∙◌}
use mathlib.Core.Logic.{◌≢◌, ⊎_elim}
use mathlib.Core.List.{List, [], ◌∷◌, ◌++◌}
use Prim.Native.Nat.{ℕ, zero, suc, ◌≤◌}
use native.Mathlib.Nat.{not-suc-le-zero, le_of_suc-le-suc}
use native.Mathlib.Omega.{arith}
use lib.Dec.{T, eqb, eqb→eq}
use lib.ListN.{length}
use Rattle.code_theory.proofs.Distance.{equal_or_not}
use Rattle.queue_theory.specs.Lists.{bit, count, last_of}
use Rattle.queue_theory.specs.Layout.{next_cell}
use Rattle.queue_theory.specs.Chains.{From, chain, ends}
use Rattle.queue_theory.proofs.Counts.{bit_same, bit_other, in_here, in_later, in_last}

pub from_chain : (s : List ℕ) (n i : ℕ) → T (ends s n i) → From s i (chain s n i)
from_chain s zero i h = eqb→eq i 0 h
from_chain s (suc n) zero h = refl
from_chain s (suc n) (suc i) h = (refl, omega arith, from_chain s n (next_cell s (suc i)) h)

pub chain_from : (s : List ℕ) (n i : ℕ) (l : List ℕ) → From s i l → length l ≤ n → (chain s n i ≡ l) × T (ends s n i)
chain_from s zero i [] f h = (refl, subst (λ (z : ℕ). T (eqb z 0)) (sym f) tt)
chain_from s zero i (b ∷ l) f h = absurd (not-suc-le-zero h)
chain_from s (suc n) zero [] f h = (refl, tt)
chain_from s (suc n) (suc i) [] f h = let z : ⊥ = omega arith in absurd z
chain_from s (suc n) zero (b ∷ l) f h = absurd (f.1 (sym f.0))
chain_from s (suc n) (suc i) (b ∷ l) f h =
    let j = next_cell s (suc i) in
    let g : From s j l = subst (λ (z : ℕ). From s (next_cell s z) l) (sym f.0) f.2 in
    let r : (chain s n j ≡ l) × T (ends s n j) = chain_from s n j l g (le_of_suc-le-suc h) in
    (cc (r.0, f.0), r.1)

-- none of its cells is 0
pub from_nonzero : (s : List ℕ) (i : ℕ) (l : List ℕ) → From s i l → (x : ℕ) → 1 ≤ count x l → x ≢ 0
from_nonzero s i [] f x h = absurd (not-suc-le-zero h)
from_nonzero s i (b ∷ l) f x h =
    ⊎_elim
    (λ (e : x ≡ b). λ (z : x ≡ 0). f.1 (sym e ∙ z))
    (λ (d : x ≢ b). from_nonzero s (next_cell s b) l f.2 x (omega (arith, bit_other d)))
    (equal_or_not x b)

-- next cells that stay leave the list
pub from_same : (s s' : List ℕ) (i : ℕ) (l : List ℕ) → ((x : ℕ) → 1 ≤ count x l → next_cell s' x ≡ next_cell s x) → From s i l → From s' i l
from_same s s' i [] e f = f
from_same s s' i (b ∷ l) e f =
    let rest = from_same s s' (next_cell s b) l (λ x h. e x (in_later x b l h)) f.2 in
    (f.0, f.1, subst (λ (z : ℕ). From s' z l) (sym (e b (in_here b l))) rest)

-- c, with no next cell, is linked to the last cell of the list after a
module _ (s s' : List ℕ) (c : ℕ) (nonzero : c ≢ 0) (stop : next_cell s' c ≡ 0) where
  pub from_append : (a : ℕ) (l : List ℕ) → ((x : ℕ) → 1 ≤ count x (a ∷ l) → x ≢ last_of a l → next_cell s' x ≡ next_cell s x)
      → next_cell s' (last_of a l) ≡ c → ((x : ℕ) → count x (a ∷ l) ≤ 1) → From s (next_cell s a) l → From s' (next_cell s' a) (l ++ (c ∷ []))
  from_append a [] e h d f = (h, nonzero, stop)
  from_append a (b ∷ l) e h d f = (
    e a (in_here a (b ∷ l)) first ∙ f.0,
    f.1,
    from_append b l (λ x k. e x (in_later x a (b ∷ l) k)) h (λ x. omega (arith, d x)) f.2,
  )
    where
      first : a ≢ last_of b l
      first q =
          let k : 1 ≤ count (last_of b l) (b ∷ l) = in_last b l in
          let j : 1 ≤ count a (b ∷ l) = subst (λ (z : ℕ). 1 ≤ count z (b ∷ l)) (sym q) k in
          let z : bit (eqb a a) ≡ 1 = bit_same {x = a} {y = a} refl in
          omega (arith, d a)
