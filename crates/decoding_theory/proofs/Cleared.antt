-- The indices of a word's erasures, and the word with 0 there: a filling is that word with symbols set at these indices.
-- Assumes nothing.
use mathlib.Core.Path.{◌≡◌, refl, sym, ap, subst, ◌∙◌}
use mathlib.Core.Logic.{⊎_elim}
use mathlib.Core.Bool.{◌||◌}
use mathlib.Core.List.{List, [], ◌∷◌, map}
use Prim.Native.Nat.{ℕ, suc, ◌≤◌, ◌<◌, zero-le, suc-le-suc}
use native.Mathlib.Numerals.{add-one}
use native.Mathlib.Nat.{suc-ne-zero, suc_inj}
use native.Mathlib.Omega.{arith}
use lib.Dec.{T, eqb, ltb, eqb→eq, lt→ltb}
use lib.ListN.{length, get_or, set}
use borrow.Author.Tests.{eqb-false}
use Rattle.modular_theory.proofs.Search.{and_left, and_right, and_intro, or_cases}
use Rattle.code_theory.specs.Parameters.{Parameters, codeword_length}
use Rattle.code_theory.specs.Component.{symbols_below, is_word, erasure, levels_or_erasures}
use Rattle.code_theory.specs.Erasures.{erasures, erased_indices, fill}
use Rattle.code_theory.specs.Reading.{Change, change, changes_at}
use Rattle.code_theory.proofs.Merge.{cases, word_of}
use Rattle.code_theory.proofs.Filling.{fill_agrees}
use Rattle.code_theory.proofs.Whole.{length_indices}
use Rattle.decoding_theory.specs.Filled.{set_all, changes_by, cleared}

-- The cleared word.

pub cleared_length : (v : List ℕ) → length (cleared v) ≡ length v
cleared_length v = (fill_agrees v []).long

pub cleared_below : (q : ℕ) → 1 ≤ q → (v : List ℕ) → T (levels_or_erasures q v) → T (symbols_below q (cleared v))
cleared_below q h [] b = tt
cleared_below q h (x ∷ xs) b =
    let rest : T (symbols_below q (cleared xs)) = cleared_below q h xs (and_right (ltb x q || eqb x erasure) (levels_or_erasures q xs) b) in
    cases (eqb x erasure) (λ e. rw (e, fill) (and_intro (ltb 0 q) (symbols_below q (cleared xs)) (lt→ltb 0 q h) rest))
    (λ e. rw (e, fill) (and_intro (ltb x q) (symbols_below q (cleared xs)) (level (eqb-false x erasure e)) rest))
  where
    level : (x ≡ erasure → ⊥) → T (ltb x q)
    level n =
        ⊎_elim (λ (l : T (ltb x q)). l) (λ (e : T (eqb x erasure)). absurd (n (eqb→eq x erasure e)))
        (or_cases (ltb x q) (eqb x erasure) (and_left (ltb x q || eqb x erasure) (levels_or_erasures q xs) b))

pub cleared_word : (p : Parameters) → 1 ≤ p.q → (v : List ℕ) → length v ≡ codeword_length p → T (levels_or_erasures p.q v)
    → T (is_word p.q (codeword_length p) (cleared v))
cleared_word p h v n b = word_of p.q (codeword_length p) (cleared v) (cleared_length v ∙ n) (cleared_below p.q h v b)

-- The indices.

-- with a symbol more in front each is one more
indices_suc : (c : ℕ) (v : List ℕ) → erased_indices (suc c) v ≡ map suc (erased_indices c v)
indices_suc c [] = refl
indices_suc c (x ∷ xs) =
    let e : erased_indices (suc (suc c)) xs ≡ map suc (erased_indices (suc c) xs) = indices_suc (suc c) xs in
    cases (eqb x erasure) (λ b. rw (b, erased_indices) (ap (λ (l : List ℕ). suc c ∷ l) e)) (λ b. rw (b, erased_indices) e)

set_suc : (is ys u : List ℕ) (x : ℕ) → set_all (map suc is) ys (x ∷ u) ≡ x ∷ set_all is ys u
set_suc [] ys u x = refl
set_suc (i ∷ is) [] u x = refl
set_suc (i ∷ is) (y ∷ ys) u x = set_suc is ys (set u i y) x

set_none : (is u : List ℕ) → set_all is [] u ≡ u
set_none [] u = refl
set_none (i ∷ is) u = refl

-- a filling
pub fill_sets : (v ys : List ℕ) → fill v ys ≡ set_all (erased_indices 0 v) ys (cleared v)
fill_sets v [] = sym (set_none (erased_indices 0 v) (cleared v))
fill_sets [] (y ∷ ys) = refl
fill_sets (x ∷ xs) (y ∷ ys) =
    cases (eqb x erasure) (λ b. rw (b, fill, erased_indices) (behind y ys (fill_sets xs ys)))
    (λ b. rw (b, fill, erased_indices) (behind x (y ∷ ys) (fill_sets xs (y ∷ ys))))
  where
    behind : (z : ℕ) (ys : List ℕ) → fill xs ys ≡ set_all (erased_indices 0 xs) ys (cleared xs)
        → z ∷ fill xs ys ≡ set_all (erased_indices 1 xs) ys (z ∷ cleared xs)
    behind z ys e = rw (indices_suc, set_suc) (ap (λ (l : List ℕ). z ∷ l) e)

-- and what is said of it
pub changes_by_lem : (c : ℕ) (v ys : List ℕ) → length ys ≡ erasures v → changes_at (suc c) v (fill v ys) ≡ changes_by (erased_indices c v) ys
changes_by_lem c [] ys n = refl
changes_by_lem c (x ∷ xs) [] n =
    cases (eqb x erasure) (λ b. absurd (suc-ne-zero (erasures xs) (sym (rw (b, erasures) at n))))
    (λ b. rw (b, fill, b, changes_at, erased_indices) (changes_by_lem (suc c) xs [] (rw (b, erasures) at n)))
changes_by_lem c (x ∷ xs) (y ∷ ys) n =
    cases (eqb x erasure)
    (λ b.
    let e = changes_by_lem (suc c) xs ys (suc_inj (rw (b, erasures) at n)) in
    rw (b, fill, b, changes_at, erased_indices, add-one) (ap (λ (l : List Change). change (suc c) y ∷ l) e))
    (λ b. rw (b, fill, b, changes_at, erased_indices) (changes_by_lem (suc c) xs (y ∷ ys) (rw (b, erasures) at n)))

-- Where the indices are.

-- indices that rise from c on, each that of a symbol of u that is 0
abbrev ZerosAt : ℕ → List ℕ → List ℕ → Type 0
ZerosAt c [] u = Unit {0}
ZerosAt c (i ∷ is) u = (c ≤ i) × (i < length u) × (get_or u i 0 ≡ 0) × ZerosAt (suc i) is u

zeros_suc : (c : ℕ) (is u : List ℕ) (x : ℕ) → ZerosAt c is u → ZerosAt (suc c) (map suc is) (x ∷ u)
zeros_suc c [] u x h = tt
zeros_suc c (i ∷ is) u x h = (suc-le-suc h.0, suc-le-suc h.1, h.2, zeros_suc (suc i) is u x h.3)

zeros_from : (is u : List ℕ) → ZerosAt 1 is u → ZerosAt 0 is u
zeros_from [] u h = tt
zeros_from (i ∷ is) u h = (zero-le, h.1, h.2, h.3)

cleared_zeros : (v : List ℕ) → ZerosAt 0 (erased_indices 0 v) (cleared v)
cleared_zeros [] = tt
cleared_zeros (x ∷ xs) =
    let behind : (z : ℕ) → ZerosAt 1 (erased_indices 1 xs) (z ∷ cleared xs) =
    λ z. rw indices_suc (zeros_suc 0 (erased_indices 0 xs) (cleared xs) z (cleared_zeros xs)) in
    cases (eqb x erasure) (λ b. rw (b, erased_indices, fill) (zero-le, suc-le-suc zero-le, refl, behind 0))
    (λ b. rw (b, erased_indices, fill) (zeros_from (erased_indices 1 xs) (x ∷ cleared xs) (behind x)))

-- v has one erasure, at index i
pub record OneAt (v : List ℕ) (i : ℕ) : Type 0 where
  pub found : erased_indices 0 v ≡ i ∷ []
  pub within : i < length v
  pub is_zero_lem : get_or (cleared v) i 0 ≡ 0

pub one_at : (v : List ℕ) (i : ℕ) → erased_indices 0 v ≡ i ∷ [] → OneAt v i
one_at v i e =
    let (_, l, z, _) = subst (λ (is : List ℕ). ZerosAt 0 is (cleared v)) e (cleared_zeros v) in
    record { found = e; within = subst (λ (n : ℕ). i < n) (cleared_length v) l; is_zero_lem = z }

-- and two, at indices i and j
pub record TwoAt (v : List ℕ) (i j : ℕ) : Type 0 where
  pub found : erased_indices 0 v ≡ i ∷ j ∷ []
  pub less : i < j
  pub within : j < length v
  pub first_zero : get_or (cleared v) i 0 ≡ 0
  pub second_zero : get_or (cleared v) j 0 ≡ 0

pub two_at : (v : List ℕ) (i j : ℕ) → erased_indices 0 v ≡ i ∷ j ∷ [] → TwoAt v i j
two_at v i j e =
    let (_, _, z, (m, l, z', _)) = subst (λ (is : List ℕ). ZerosAt 0 is (cleared v)) e (cleared_zeros v) in
    record { found = e; less = m; within = subst (λ (n : ℕ). j < n) (cleared_length v) l; first_zero = z; second_zero = z' }

pub one_erased : (v : List ℕ) → erasures v ≡ 1 → (i : ℕ) × OneAt v i
one_erased v h = go (erased_indices 0 v) refl (length_indices 0 v ∙ h)
  where
    go : (is : List ℕ) → erased_indices 0 v ≡ is → length is ≡ 1 → (i : ℕ) × OneAt v i
    go [] e n = absurd (omega arith)
    go (i ∷ []) e n = (i, one_at v i e)
    go (i ∷ j ∷ is) e n = absurd (omega arith)

pub two_erased : (v : List ℕ) → erasures v ≡ 2 → (i j : ℕ) × TwoAt v i j
two_erased v h = go (erased_indices 0 v) refl (length_indices 0 v ∙ h)
  where
    go : (is : List ℕ) → erased_indices 0 v ≡ is → length is ≡ 2 → (i j : ℕ) × TwoAt v i j
    go [] e n = absurd (omega arith)
    go (i ∷ []) e n = absurd (omega arith)
    go (i ∷ j ∷ []) e n = (i, j, two_at v i j e)
    go (i ∷ j ∷ k ∷ is) e n = absurd (omega arith)
