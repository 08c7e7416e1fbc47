-- Laws of the number of positions in which two words differ, by induction on the words.
-- Assumes nothing.
use mathlib.Core.Path.{◌≡◌, refl, sym, ap, ap₂, subst, ◌∙◌}
use mathlib.Core.Logic.{◌⊎◌, inl, inr, ⊎_elim, ◌≢◌}
use mathlib.Core.List.{List, [], ◌∷◌, ◌++◌}
use Prim.Native.Nat.{ℕ, zero, suc, ◌+◌, ◌≤◌, ◌<◌, zero-le, suc-le-suc}
use native.Mathlib.Nat.{suc-ne-zero, suc_inj, not-suc-le-zero, zero-add}
use native.Mathlib.Decide.{ℕ_discrete}
use native.Mathlib.Omega.{arith}
use lib.ListN.{length, get_or, set, length-set}
use lib.Seq.{get_or-set_same, set-set, set-get_or}
use borrow.Author.Tests.{eq-eqb, ne_eqb}
use Rattle.code_theory.specs.Reading.{distance}

pub equal_or_not : (x y : ℕ) → (x ≡ y) ⊎ (x ≢ y)
equal_or_not x y = go (ℕ_discrete x y)
  where
    go : Dec (x ≡ y) → (x ≡ y) ⊎ (x ≢ y)
    go (yes e) = inl e
    go (no n) = inr n

-- a first symbol in which the words agree, and one in which they differ
agree : (x y : ℕ) (xs ys : List ℕ) → x ≡ y → distance (x ∷ xs) (y ∷ ys) ≡ distance xs ys
agree x y xs ys e = rw (eq-eqb x y e, distance)

disagree : (x y : ℕ) (xs ys : List ℕ) → x ≢ y → distance (x ∷ xs) (y ∷ ys) ≡ suc (distance xs ys)
disagree x y xs ys n = rw (ne_eqb x y n, distance)

pub distance_self : (u : List ℕ) → distance u u ≡ 0
distance_self [] = refl
distance_self (x ∷ xs) = agree x x xs xs refl ∙ distance_self xs

pub distance_zero : (u v : List ℕ) → distance u v ≡ 0 → u ≡ v
distance_zero [] [] h = refl
distance_zero [] (y ∷ ys) h = absurd (suc-ne-zero (length ys) h)
distance_zero (x ∷ xs) [] h = absurd (suc-ne-zero (length xs) h)
distance_zero (x ∷ xs) (y ∷ ys) h =
    ⊎_elim (λ (e : x ≡ y). ap₂ (λ (a : ℕ) (l : List ℕ). a ∷ l) e (distance_zero xs ys (sym (agree x y xs ys e) ∙ h)))
    (λ (n : x ≢ y). absurd (suc-ne-zero (distance xs ys) (sym (disagree x y xs ys n) ∙ h))) (equal_or_not x y)

pub distance_sym : (u v : List ℕ) → distance u v ≡ distance v u
distance_sym [] [] = refl
distance_sym [] (y ∷ ys) = refl
distance_sym (x ∷ xs) [] = refl
distance_sym (x ∷ xs) (y ∷ ys) =
    ⊎_elim (λ (e : x ≡ y). agree x y xs ys e ∙ distance_sym xs ys ∙ sym (agree y x ys xs (sym e)))
    (λ (n : x ≢ y). disagree x y xs ys n ∙ ap suc (distance_sym xs ys) ∙ sym (disagree y x ys xs (λ e. n (sym e)))) (equal_or_not x y)

-- with one position of u made v's, the distance falls by one
pub record Differing (u v : List ℕ) : Type 0 where
  pub index : ℕ
  pub within : index < length u
  pub unequal : get_or u index 0 ≢ get_or v index 0
  pub falls : distance u v ≡ suc (distance (set u index (get_or v index 0)) v)

pub differing : (u v : List ℕ) → length u ≡ length v → 1 ≤ distance u v → Differing u v
differing [] [] e h = absurd (not-suc-le-zero h)
differing [] (y ∷ ys) e h = absurd (suc-ne-zero (length ys) (sym e))
differing (x ∷ xs) [] e h = absurd (suc-ne-zero (length xs) e)
differing (x ∷ xs) (y ∷ ys) e h = go (equal_or_not x y) (differing xs ys (suc_inj e))
  where
    go : (x ≡ y) ⊎ (x ≢ y) → (1 ≤ distance xs ys → Differing xs ys) → Differing (x ∷ xs) (y ∷ ys)
    go (inl s) f =
        let d : Differing xs ys = f (subst (λ (k : ℕ). 1 ≤ k) (agree x y xs ys s) h) in
        record {
          index = suc d.index;
          within = suc-le-suc d.within;
          unequal = d.unequal;
          falls = agree x y xs ys s ∙ d.falls ∙ ap suc (sym (agree x y (set xs d.index (get_or ys d.index 0)) ys s));
        }
    go (inr n) f =
        record { index = 0; within = suc-le-suc zero-le; unequal = n; falls = disagree x y xs ys n ∙ ap suc (sym (agree y y xs ys refl)) }

-- words that differ in one position: v with that symbol as u has it is u
pub record OneApart (u v : List ℕ) : Type 0 where
  pub i : ℕ
  pub within : i < length u
  pub unequal : get_or u i 0 ≢ get_or v i 0
  pub back : set v i (get_or u i 0) ≡ u

-- words at most one position apart
pub one_apart : (u v : List ℕ) → length u ≡ length v → distance u v ≤ 1 → (u ≡ v) ⊎ OneApart u v
one_apart u v e h =
    ⊎_elim (λ (z : distance u v ≡ 0). inl (distance_zero u v z)) (λ (n : distance u v ≢ 0). inr (step n)) (equal_or_not (distance u v) 0)
  where
    step : distance u v ≢ 0 → OneApart u v
    step n =
        let d : Differing u v = differing u v e (omega arith) in
        let i : ℕ = d.index in
        let x : ℕ = get_or u i 0 in
        let z : set u i (get_or v i 0) ≡ v = distance_zero _ _ (omega (arith, d.falls)) in
        let back : set v i x ≡ u = ap (λ (t : List ℕ). set t i x) (sym z) ∙ set-set u i (get_or v i 0) x ∙ set-get_or u i 0 in
        record { i = i; within = d.within; unequal = d.unequal; back = back }

-- words exactly two positions apart
pub record TwoApart (u v : List ℕ) : Type 0 where
  pub i : ℕ
  pub j : ℕ
  pub i_within : i < length u
  pub j_within : j < length u
  pub distinct : j ≢ i
  pub unequal : get_or u i 0 ≢ get_or v i 0
  pub changed : set (set u i (get_or v i 0)) j (get_or v j 0) ≡ v

pub two_apart : (u v : List ℕ) → length u ≡ length v → distance u v ≡ 2 → TwoApart u v
two_apart u v e h = from (differing u v e (omega arith))
  where
    then_again : (d : Differing u v) → Differing (set u d.index (get_or v d.index 0)) v → TwoApart u v
    then_again d c =
        record {
          i = d.index;
          j = c.index;
          i_within = d.within;
          j_within = subst (λ (x : ℕ). c.index < x) (length-set u d.index (get_or v d.index 0)) c.within;
          distinct = λ x.
              c.unequal
              (ap (λ (t : ℕ). get_or (set u d.index (get_or v d.index 0)) t 0) x
              ∙ get_or-set_same u d.index (get_or v d.index 0) 0 d.within
              ∙ ap (λ (t : ℕ). get_or v t 0) (sym x));
          unequal = d.unequal;
          changed = distance_zero _ _ (omega (arith, d.falls, c.falls));
        }

    from : Differing u v → TwoApart u v
    from d =
        then_again d
        (differing (set u d.index (get_or v d.index 0)) v (length-set u d.index (get_or v d.index 0) ∙ e) (omega (arith, d.falls)))

pub distance_set : (u : List ℕ) (i y : ℕ) → distance u (set u i y) ≤ 1
distance_set [] i y = zero-le
distance_set (x ∷ xs) zero y =
    ⊎_elim (λ (e : x ≡ y). omega (arith, agree x y xs xs e, distance_self xs))
    (λ (n : x ≢ y). omega (arith, disagree x y xs xs n, distance_self xs)) (equal_or_not x y)
distance_set (x ∷ xs) (suc i) y = omega (arith, agree x x xs (set xs i y) refl, distance_set xs i y)

pub distance_append : (u v s t : List ℕ) → length u ≡ length v → distance (u ++ s) (v ++ t) ≡ distance u v + distance s t
distance_append [] [] s t e = sym (zero-add (distance s t))
distance_append [] (y ∷ ys) s t e = absurd (suc-ne-zero (length ys) (sym e))
distance_append (x ∷ xs) [] s t e = absurd (suc-ne-zero (length xs) e)
distance_append (x ∷ xs) (y ∷ ys) s t e = go (equal_or_not x y) (distance_append xs ys s t (suc_inj e))
  where
    go : (x ≡ y) ⊎ (x ≢ y) → distance (xs ++ s) (ys ++ t) ≡ distance xs ys + distance s t
        → distance (x ∷ xs ++ s) (y ∷ ys ++ t) ≡ distance (x ∷ xs) (y ∷ ys) + distance s t
    go (inl k) h = omega (arith, agree x y (xs ++ s) (ys ++ t) k, agree x y xs ys k)
    go (inr n) h = omega (arith, disagree x y (xs ++ s) (ys ++ t) n, disagree x y xs ys n)

-- the triangle, for words of one length
pub triangle : (u v w : List ℕ) → length u ≡ length v → length v ≡ length w → distance u w ≤ distance u v + distance v w
triangle [] [] [] e f = zero-le
triangle [] [] (z ∷ zs) e f = absurd (suc-ne-zero (length zs) (sym f))
triangle [] (y ∷ ys) w e f = absurd (suc-ne-zero (length ys) (sym e))
triangle (x ∷ xs) [] w e f = absurd (suc-ne-zero (length xs) e)
triangle (x ∷ xs) (y ∷ ys) [] e f = absurd (suc-ne-zero (length ys) f)
triangle (x ∷ xs) (y ∷ ys) (z ∷ zs) e f = go (equal_or_not x y) (equal_or_not y z) (triangle xs ys zs (suc_inj e) (suc_inj f))
  where
    upper : distance (x ∷ xs) (z ∷ zs) ≤ suc (distance xs zs)
    upper = ⊎_elim (λ (k : x ≡ z). omega (arith, agree x z xs zs k)) (λ (k : x ≢ z). omega (arith, disagree x z xs zs k)) (equal_or_not x z)

    lower : (a b : ℕ) (s t : List ℕ) → distance s t ≤ distance (a ∷ s) (b ∷ t)
    lower a b s t =
        ⊎_elim (λ (k : a ≡ b). omega (arith, agree a b s t k)) (λ (k : a ≢ b). omega (arith, disagree a b s t k)) (equal_or_not a b)

    go : (x ≡ y) ⊎ (x ≢ y) → (y ≡ z) ⊎ (y ≢ z) → distance xs zs ≤ distance xs ys + distance ys zs
        → distance (x ∷ xs) (z ∷ zs) ≤ distance (x ∷ xs) (y ∷ ys) + distance (y ∷ ys) (z ∷ zs)
    go (inl k) (inl l) h = omega (arith, agree x z xs zs (k ∙ l), agree x y xs ys k, agree y z ys zs l)
    go (inr k) l h = omega (arith, upper, disagree x y xs ys k, lower y z ys zs)
    go (inl k) (inr l) h = omega (arith, upper, lower x y xs ys, disagree y z ys zs l)
