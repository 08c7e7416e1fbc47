-- Counts of numbers in lists, by induction on the list. That a number is in a list is said as 1 ≤ count.
-- Assumes nothing.
use mathlib.Core.Path.{◌≡◌, refl, sym, ap₂, subst, ◌∙◌}
use mathlib.Core.Logic.{◌≢◌, ⊎_elim}
use mathlib.Core.Bool.{Bool}
use mathlib.Core.List.{List, [], ◌∷◌, ◌++◌, map}
use Prim.Native.Nat.{ℕ, zero, suc, ◌+◌, ◌≤◌, ◌<◌}
use native.Mathlib.Nat.{not-suc-le-zero}
use native.Mathlib.Omega.{arith}
use lib.Dec.{T, eqb}
use lib.ListN.{length}
use borrow.Author.Tests.{eq-eqb, ne_eqb}
use Rattle.modular_theory.proofs.Search.{and_left, and_right, and_intro}
use Rattle.code_theory.proofs.Distance.{equal_or_not}
use Rattle.queue_theory.specs.Lists.{all, bit, count, last_of}

pub bit_same : {x y : ℕ} → x ≡ y → bit (eqb x y) ≡ 1
bit_same {x} {y} e = rw (eq-eqb x y e)

pub bit_other : {x y : ℕ} → x ≢ y → bit (eqb x y) ≡ 0
bit_other {x} {y} h = rw (ne_eqb x y h)

pub count_append : (x : ℕ) (l m : List ℕ) → count x (l ++ m) ≡ count x l + count x m
count_append x [] m = omega arith
count_append x (y ∷ l) m = omega (arith, count_append x l m)

pub count_here : (x : ℕ) (l : List ℕ) → count x (x ∷ l) ≡ suc (count x l)
count_here x l = omega (arith, bit_same {x = x} {y = x} refl)

pub in_here : (x : ℕ) (l : List ℕ) → 1 ≤ count x (x ∷ l)
in_here x l = omega (arith, count_here x l)

pub in_later : (x y : ℕ) (l : List ℕ) → 1 ≤ count x l → 1 ≤ count x (y ∷ l)
in_later x y l h = omega arith

-- the last is in the list
pub in_last : (a : ℕ) (l : List ℕ) → 1 ≤ count (last_of a l) (a ∷ l)
in_last a [] = in_here a []
in_last a (b ∷ l) = in_later (last_of b l) a (b ∷ l) (in_last b l)

-- what all numbers of a list pass
pub all_in : (t : ℕ → Bool) (l : List ℕ) → T (all t l) → (x : ℕ) → 1 ≤ count x l → T (t x)
all_in t [] h x k = absurd (not-suc-le-zero k)
all_in t (y ∷ l) h x k =
    ⊎_elim
    (λ (e : x ≡ y). subst (λ (z : ℕ). T (t z)) (sym e) (and_left (t y) (all t l) h))
    (λ (d : x ≢ y). all_in t l (and_right (t y) (all t l) h) x (omega (arith, bit_other d)))
    (equal_or_not x y)

pub all_from : (t : ℕ → Bool) (l : List ℕ) → ((x : ℕ) → 1 ≤ count x l → T (t x)) → T (all t l)
all_from t [] f = tt
all_from t (y ∷ l) f =
    and_intro (t y) (all t l) (f y (in_here y l)) (all_from t l (λ x h. f x (in_later x y l h)))

pub map_same : {A : Type 0} (f g : ℕ → A) (l : List ℕ) → ((x : ℕ) → 1 ≤ count x l → f x ≡ g x) → map f l ≡ map g l
map_same f g [] e = refl
map_same f g (y ∷ l) e = ap₂ ◌∷◌ (e y (in_here y l)) (map_same f g l (λ x h. e x (in_later x y l h)))

-- How many numbers 1 to n a list has.
counts : ℕ → List ℕ → ℕ
counts zero l = 0
counts (suc n) l = count (suc n) l + counts n l

hits : ℕ → ℕ → ℕ
hits zero x = 0
hits (suc n) x = bit (eqb (suc n) x) + hits n x

counts_nil : (n : ℕ) → counts n [] ≡ 0
unfolding counts
counts_nil zero = refl
counts_nil (suc n) = omega (arith, counts_nil n)

counts_cons : (n x : ℕ) (l : List ℕ) → counts n (x ∷ l) ≡ hits n x + counts n l
unfolding counts hits
counts_cons zero x l = refl
counts_cons (suc n) x l = omega (arith, counts_cons n x l)

hits_past : (n x : ℕ) → n < x → hits n x ≡ 0
unfolding hits
hits_past zero x h = refl
hits_past (suc n) x h = omega (arith, bit_other {x = suc n} {y = x} (omega arith), hits_past n x (omega arith))

hits_in : (n x : ℕ) → 1 ≤ x → x ≤ n → hits n x ≡ 1
unfolding hits
hits_in zero x h k = omega arith
hits_in (suc n) x h k =
    ⊎_elim
    (λ (e : suc n ≡ x). omega (arith, bit_same e, hits_past n x (omega arith)))
    (λ (d : suc n ≢ x). omega (arith, bit_other d, hits_in n x h (omega arith)))
    (equal_or_not (suc n) x)

counts_length : (n : ℕ) (l : List ℕ) → ((x : ℕ) → 1 ≤ count x l → (1 ≤ x) × (x ≤ n)) → counts n l ≡ length l
counts_length n [] f = counts_nil n
counts_length n (y ∷ l) f =
    omega (
      arith,
      counts_cons n y l,
      hits_in n y (f y (in_here y l)).0 (f y (in_here y l)).1,
      counts_length n l (λ x h. f x (in_later x y l h)),
    )

counts_once : (n : ℕ) (l : List ℕ) → ((x : ℕ) → 1 ≤ x → x ≤ n → count x l ≡ 1) → counts n l ≡ n
unfolding counts
counts_once zero l f = refl
counts_once (suc n) l f = omega (arith, f (suc n) (omega arith) (omega arith), counts_once n l (λ x h k. f x h (omega arith)))

-- a list that has each of 1 to n once, and nothing else, has n numbers
pub once_length : (n : ℕ) (l : List ℕ) → ((x : ℕ) → 1 ≤ count x l → (1 ≤ x) × (x ≤ n))
    → ((x : ℕ) → 1 ≤ x → x ≤ n → count x l ≡ 1) → length l ≡ n
once_length n l f g = sym (counts_length n l f) ∙ counts_once n l g
