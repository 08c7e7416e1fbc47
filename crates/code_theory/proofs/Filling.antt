-- Laws of erasures and fillings, by induction on the word.
-- Assumes nothing.
use mathlib.Core.Path.{◌≡◌, refl, sym, ap, ap₂, ◌∙◌}
use mathlib.Core.Logic.{◌≢◌}
use mathlib.Core.Bool.{true, false}
use mathlib.Core.List.{List, [], ◌∷◌}
use Prim.Native.Nat.{ℕ, zero, suc, ◌+◌, ◌≤◌, ◌<◌, zero-le, suc-le-suc}
use native.Mathlib.Nat.{suc-ne-zero, suc_inj, not-suc-le-zero, le_of_suc-le-suc, zero-add}
use native.Mathlib.Omega.{arith}
use lib.Dec.{eqb}
use lib.ListN.{length, get_or, drop, set}
use lib.Seq.{get_or-drop}
use borrow.Author.Tests.{eqb-true, eqb-false, eq-eqb, ne_eqb}
use Rattle.code_theory.specs.Component.{Below, erasure}
use Rattle.code_theory.specs.Erasures.{erasures, Agrees, fill}
use Rattle.code_theory.specs.Reading.{distance, change, changes_at}
use Rattle.code_theory.proofs.Merge.{cases}

-- the symbols of u at the erased positions of v
abbrev pub erased_symbols : List ℕ → List ℕ → List ℕ
erased_symbols [] u = []
erased_symbols (x ∷ xs) u =
    elim (eqb x erasure) [ true ↦ get_or u 0 0 ∷ erased_symbols xs (drop 1 u) | false ↦ erased_symbols xs (drop 1 u) ]

pub length_erased : (v u : List ℕ) → length (erased_symbols v u) ≡ erasures v
length_erased [] u = refl
length_erased (x ∷ xs) u =
    let e : length (erased_symbols xs (drop 1 u)) ≡ erasures xs = length_erased xs (drop 1 u) in
    cases (eqb x erasure) (λ b. rw (b, erased_symbols, erasures) (ap suc e)) (λ b. rw (b, erased_symbols, erasures) e)

pub erased_below : (q : ℕ) (v u : List ℕ) → Below q u → Below q (erased_symbols v u)
erased_below q [] u h i = omega (arith, h 0)
erased_below q (x ∷ xs) u h i =
    let k : Below q (erased_symbols xs (drop 1 u)) = erased_below q xs (drop 1 u) (λ j. rw get_or-drop (h (1 + j))) in
    cases (eqb x erasure) (λ b. rw (b, erased_symbols) (first (erased_symbols xs (drop 1 u)) k i)) (λ b. rw (b, erased_symbols) (k i))
  where
    first : (l : List ℕ) → Below q l → Below q (get_or u 0 0 ∷ l)
    first l k zero = h 0
    first l k (suc i) = k i

-- Words that agree at every position that is not erased.

agrees_rest : {x y : ℕ} {xs ys : List ℕ} → Agrees (x ∷ xs) (y ∷ ys) → Agrees xs ys
agrees_rest a = record { long = suc_inj a.long; at = λ i l n. a.at (suc i) (suc-le-suc l) n }

agrees_first : {x y : ℕ} {xs ys : List ℕ} → Agrees (x ∷ xs) (y ∷ ys) → x ≢ erasure → y ≡ x
agrees_first a n = a.at 0 (suc-le-suc zero-le) n

agrees_cons : {x y : ℕ} {xs ys : List ℕ} → (x ≢ erasure → y ≡ x) → Agrees xs ys → Agrees (x ∷ xs) (y ∷ ys)
agrees_cons {x} {y} {xs} {ys} f a = record { long = ap suc a.long; at = at }
  where
    at : (i : ℕ) → i < length (x ∷ xs) → get_or (x ∷ xs) i 0 ≢ erasure → get_or (y ∷ ys) i 0 ≡ get_or (x ∷ xs) i 0
    at zero l n = f n
    at (suc i) l n = a.at i (le_of_suc-le-suc l) n

-- a filling does
pub fill_agrees : (v ys : List ℕ) → Agrees v (fill v ys)
fill_agrees [] ys = record { long = refl; at = λ i l n. refl }
fill_agrees (x ∷ xs) ys =
    cases (eqb x erasure)
    (λ b. rw (b, fill) (agrees_cons (λ n. absurd (n (eqb-true x erasure b))) (fill_agrees xs (drop 1 ys))))
    (λ b. rw (b, fill) (agrees_cons (λ n. refl) (fill_agrees xs ys)))

-- and what does is a filling, by its symbols at the erased positions
pub fill_erased : (v u : List ℕ) → Agrees v u → fill v (erased_symbols v u) ≡ u
fill_erased [] [] a = refl
fill_erased [] (y ∷ ys) a = absurd (suc-ne-zero (length ys) a.long)
fill_erased (x ∷ xs) [] a = absurd (suc-ne-zero (length xs) (sym a.long))
fill_erased (x ∷ xs) (y ∷ ys) a =
    let e : fill xs (erased_symbols xs ys) ≡ ys = fill_erased xs ys (agrees_rest a) in
    cases (eqb x erasure) (λ b. rw (b, fill, b, erased_symbols) (ap (λ (l : List ℕ). y ∷ l) e))
    (λ b. rw (b, fill, b, erased_symbols) (ap₂ (λ (z : ℕ) (l : List ℕ). z ∷ l) (sym (agrees_first a (eqb-false x erasure b))) e))

-- two that do differ in no more positions than are erased
pub agree_near : (v u u' : List ℕ) → Agrees v u → Agrees v u' → distance u u' ≤ erasures v
agree_near [] [] [] a b = zero-le
agree_near [] [] (z ∷ zs) a b = absurd (suc-ne-zero (length zs) b.long)
agree_near [] (y ∷ ys) u' a b = absurd (suc-ne-zero (length ys) a.long)
agree_near (x ∷ xs) [] u' a b = absurd (suc-ne-zero (length xs) (sym a.long))
agree_near (x ∷ xs) (y ∷ ys) [] a b = absurd (suc-ne-zero (length xs) (sym b.long))
agree_near (x ∷ xs) (y ∷ ys) (z ∷ zs) a b =
    let near : distance ys zs ≤ erasures xs = agree_near xs ys zs (agrees_rest a) (agrees_rest b) in
    cases (eqb x erasure)
    (λ e. cases (eqb y z) (λ d. rw (e, erasures, d, distance) (omega arith)) (λ d. rw (e, erasures, d, distance) (omega arith)))
    (λ e.
    let n : x ≢ erasure = eqb-false x erasure e in
    let d : eqb y z ≡ true = eq-eqb y z (agrees_first a n ∙ sym (agrees_first b n)) in
    rw (e, erasures, d, distance) near)

-- A word without erasures, and what its erasures are with one or two.

abbrev pub Whole : List ℕ → Type 0
Whole u = (i : ℕ) → get_or u i 0 ≢ erasure

pub erasures_set : (u : List ℕ) (i : ℕ) → i < length u → get_or u i 0 ≢ erasure → erasures (set u i erasure) ≡ suc (erasures u)
erasures_set [] i l n = absurd (not-suc-le-zero l)
erasures_set (x ∷ xs) zero l n = rw (ne_eqb x erasure n, erasures)
erasures_set (x ∷ xs) (suc i) l n =
    let e : erasures (set xs i erasure) ≡ suc (erasures xs) = erasures_set xs i (le_of_suc-le-suc l) n in
    cases (eqb x erasure) (λ b. rw (b, erasures) (ap suc e)) (λ b. rw (b, erasures) e)

changes_none : (u t : List ℕ) (c : ℕ) → Whole u → changes_at c u t ≡ []
changes_none [] t c f = refl
changes_none (x ∷ xs) t c f = rw (ne_eqb x erasure (f 0), changes_at) (changes_none xs (drop 1 t) (suc c) (λ k. f (suc k)))

pub changes_one : (u : List ℕ) (i c : ℕ) → Whole u → i < length u → changes_at c (set u i erasure) u ≡ change (i + c) (get_or u i 0) ∷ []
changes_one [] i c f l = absurd (not-suc-le-zero l)
changes_one (x ∷ xs) zero c f l = rw (zero-add, changes_none xs xs (suc c) (λ k. f (suc k)))
changes_one (x ∷ xs) (suc i) c f l =
    let e : i + suc c ≡ suc i + c = omega arith in
    rw (ne_eqb x erasure (f 0), changes_at, ← e) (changes_one xs i (suc c) (λ k. f (suc k)) (le_of_suc-le-suc l))

pub changes_two : (u : List ℕ) (i j c : ℕ) → Whole u → i < j → j < length u
    → changes_at c (set (set u i erasure) j erasure) u ≡ change (i + c) (get_or u i 0) ∷ change (j + c) (get_or u j 0) ∷ []
changes_two [] i j c f l m = absurd (not-suc-le-zero m)
changes_two (x ∷ xs) i zero c f l m = absurd (not-suc-le-zero l)
changes_two (x ∷ xs) zero (suc j) c f l m =
    let e : j + suc c ≡ suc j + c = omega arith in
    rw (zero-add, ← e, changes_one xs j (suc c) (λ k. f (suc k)) (le_of_suc-le-suc m))
changes_two (x ∷ xs) (suc i) (suc j) c f l m =
    let e : i + suc c ≡ suc i + c = omega arith in
    let d : j + suc c ≡ suc j + c = omega arith in
    rw (ne_eqb x erasure (f 0), changes_at, ← e, ← d)
    (changes_two xs i j (suc c) (λ k. f (suc k)) (le_of_suc-le-suc l) (le_of_suc-le-suc m))
