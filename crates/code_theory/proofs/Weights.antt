-- A check of a component is a weighted sum over the word that was differenced: taking every other symbol and differencing both move into
-- the weights. Edition 18 differences the other way round, which turns the sum's sign.
-- Assumes nothing.
use mathlib.Core.Path.{◌≡◌, refl, sym, ap, subst, ◌∙◌}
use mathlib.Core.Logic.{◌⊎◌, inl, inr, ⊎_elim}
use mathlib.Core.Bool.{Bool, true, false}
use mathlib.Core.List.{List, [], ◌∷◌}
use Prim.Native.Nat.{ℕ, zero, suc, ◌+◌, ◌-◌, ◌*◌, ◌≤◌, ◌<◌, zero-le, suc-le-suc}
use native.Mathlib.Nat.{not-suc-le-zero, suc-ne-zero, suc_inj, le_refl, one-mul}
use native.Mathlib.Omega.{arith}
use lib.Dec.{ltb}
use lib.ListN.{length}
use borrow.Author.Tests.{lt-ltb, le-ltb}
use Rattle.modular_theory.specs.Sum.{weight, dot}
use Rattle.modular_theory.specs.Residue.{Congruent, Invertible, minus}
use Rattle.modular_theory.proofs.Residue.{of_eq, same, symm, ◌then◌, add, mul, scale, multiple, cancel, minus_add, minus_below}
use Rattle.modular_theory.proofs.Sum.{dot_one, dot_same}
use Rattle.code_theory.specs.Parameters.{Edition, edition13, edition18, Parameters, in_edition}
use Rattle.code_theory.specs.Component.{Below}
use Rattle.code_theory.specs.Balance.{neighbour_difference, differences}
use Rattle.code_theory.specs.Codeword.{alternate, differenced}

-- the weights f at every other index, from the first on or from the second, and 0 between
abbrev pub spread : Bool → (ℕ → ℕ) → ℕ → ℕ
spread true f zero = f 0
spread true f (suc t) = spread false (λ i. f (suc i)) t
spread false f zero = 0
spread false f (suc t) = spread true f t

pub dot_alternate : (b : Bool) (f : ℕ → ℕ) (z : List ℕ) → dot f (alternate b z) ≡ dot (spread b f) z
dot_alternate b f [] = refl
dot_alternate true f (x ∷ xs) = ap (λ (s : ℕ). f 0 * x + s) (dot_alternate false (λ i. f (suc i)) xs)
dot_alternate false f (x ∷ xs) = omega (arith, dot_alternate true f xs)

-- 1 at every other index, and 0 between
abbrev pub ones : Bool → ℕ → ℕ
ones b = spread b (λ i. 1)

pub dot_ones : (b : Bool) (z : List ℕ) → dot (ones b) z ≡ weight (alternate b z)
dot_ones b z = sym (dot_alternate b (λ i. 1) z) ∙ dot_one (alternate b z)

-- the weights g, one index later
abbrev pub later : (ℕ → ℕ) → ℕ → ℕ
later g zero = 0
later g (suc t) = g t

-- g at t less g at the next
abbrev pub slope : ℕ → (ℕ → ℕ) → ℕ → ℕ
slope q g t = g t + (q - 1) * g (suc t)

suc_sub_one : (s : ℕ) → suc s - 1 ≡ s
suc_sub_one s = omega arith

-- (q - 1) times a number, and once more, is q times it
pub times_pred : (q a : ℕ) → 1 ≤ q → (q - 1) * a + a ≡ a * q
times_pred zero a h = absurd (not-suc-le-zero h)
times_pred (suc s) a h = rw (suc_sub_one s) (omega arith)

-- 1, or in edition 18 -1 mod q
abbrev pub sign : Parameters → ℕ
sign p = elim p.edition [ edition13 ↦ 1 | edition18 ↦ p.q - 1 ]

-- a difference is that of the symbols with the sign
sign_difference : (p : Parameters) → 1 ≤ p.q → (a x : ℕ) → Congruent p.q (neighbour_difference p a x + sign p * a) (sign p * x)
sign_difference p h a x = go p.edition
  where
    go : (e : Edition) → let r : Parameters = in_edition e p in Congruent p.q (neighbour_difference r a x + sign r * a) (sign r * x)
    go edition13 = rw (one-mul a, one-mul x) (minus_add p.q x a h)
    go edition18 =
        let q : ℕ = p.q in
        let d : ℕ = minus q a x in
        let l : d + (q - 1) * a + (a + x) ≡ d + x + a * q = omega (arith, times_pred q a h) in
        let r : a + x * q ≡ (q - 1) * x + (a + x) = omega (arith, times_pred q x h) in
        cancel (a + x) (of_eq l then multiple q (d + x) a then minus_add q a x h then symm (multiple q a x) then of_eq r)

-- the sign keeps what has an inverse
pub sign_invertible : (p : Parameters) → 1 ≤ p.q → {e : ℕ} → Invertible p.q e → Invertible p.q (sign p * e)
sign_invertible p h {e} u =
    let s : ℕ = sign p in
    let j : ℕ = u.inverse in
    let k : s * e * (s * j) ≡ s * s * (e * j) = omega arith in
    record { inverse = s * j; product = of_eq k then mul (square p.edition) u.product }
  where
    square : (o : Edition) → Congruent p.q (sign (in_edition o p) * sign (in_edition o p)) 1
    square edition13 = same 1
    square edition18 =
        let q : ℕ = p.q in
        let l : (q - 1) * (q - 1) + (q - 1) ≡ 0 + (q - 1) * q = omega (arith, times_pred q (q - 1) h) in
        let r : 0 + 1 * q ≡ 1 + (q - 1) = omega arith in
        cancel (q - 1) (of_eq l then multiple q 0 (q - 1) then symm (multiple q 0 1) then of_eq r)

-- a is the symbol before w
dot_differences : (p : Parameters) → 1 ≤ p.q → (g : ℕ → ℕ) (a : ℕ) (w : List ℕ) → g (length w) ≡ 0
    → Congruent p.q (dot g (differences p (a ∷ w)) + g 0 * (sign p * a)) (sign p * dot (slope p.q g) w)
dot_differences p h g a [] e =
    let k : 0 + g 0 * (sign p * a) ≡ sign p * 0 = omega (arith, ap (λ (x : ℕ). x * (sign p * a)) e) in
    of_eq k
dot_differences p h g a (x ∷ xs) e =
    let q : ℕ = p.q in
    let d : ℕ = dot (λ t. g (suc t)) (differences p (x ∷ xs)) in
    let y : ℕ = neighbour_difference p a x in
    let b : ℕ = sign p * a in
    let z : ℕ = sign p * x in
    let l : g 0 * y + d + g 0 * b ≡ g 0 * (y + b) + d = omega arith in
    let k : g 0 * z + d + g 1 * z * q ≡ (g 0 + (q - 1) * g 1) * z + (d + g 1 * z) = omega (arith, times_pred q (g 1 * z) h) in
    let m : (g 0 + (q - 1) * g 1) * z + sign p * dot (slope q (λ t. g (suc t))) xs
    ≡ sign p * ((g 0 + (q - 1) * g 1) * x + dot (slope q (λ t. g (suc t))) xs) = omega arith in
    of_eq l then add (scale (g 0) (sign_difference p h a x)) (same d) then symm (multiple q (g 0 * z + d) (g 1 * z)) then of_eq k
    then add (same ((g 0 + (q - 1) * g 1) * z)) (dot_differences p h (λ t. g (suc t)) x xs e) then of_eq m

-- f below n, and 0 from there on
abbrev pub cut : ℕ → (ℕ → ℕ) → ℕ → ℕ
cut n f i = elim (ltb i n) [ true ↦ f i | false ↦ 0 ]

pub cut_below : (n : ℕ) (f : ℕ → ℕ) (i : ℕ) → i < n → cut n f i ≡ f i
cut_below n f i h = rw (lt-ltb i n h, cut)

pub cut_past : (n : ℕ) (f : ℕ → ℕ) (i : ℕ) → n ≤ i → cut n f i ≡ 0
cut_past n f i h = rw (le-ltb i n h, cut)

-- twice a, by recursion
abbrev pub double : ℕ → ℕ
double zero = 0
double (suc a) = suc (suc (double a))

pub double_is : (a : ℕ) → double a ≡ 2 * a
double_is zero = refl
double_is (suc a) = omega (arith, double_is a)

-- an index is twice a number, or one more
pub parity : (t : ℕ) → (a : ℕ) × ((t ≡ double a) ⊎ (t ≡ suc (double a)))
parity zero = (0, inl refl)
parity (suc t) =
    let (a, c) = parity t in
    ⊎_elim (λ (x : t ≡ double a). (a, inr (ap suc x))) (λ (x : t ≡ suc (double a)). (suc a, inl (ap suc x))) c

pub spread_skip : (f : ℕ → ℕ) (a : ℕ) → spread false f (double a) ≡ 0
spread_skip f zero = refl
spread_skip f (suc a) = spread_skip (λ i. f (suc i)) a

pub spread_take : (f : ℕ → ℕ) (a : ℕ) → spread true f (double a) ≡ f a
spread_take f zero = refl
spread_take f (suc a) = spread_take (λ i. f (suc i)) a

later_skip : (f : ℕ → ℕ) (a : ℕ) → later (spread true f) (double a) ≡ 0
later_skip f zero = refl
later_skip f (suc a) = spread_skip (λ i. f (suc i)) a

later_take : (f : ℕ → ℕ) (a : ℕ) → later (spread false f) (double a) ≡ later f a
later_take f zero = refl
later_take f (suc a) = spread_take f a

-- the weight at index t of a word that the check f of its first or second component gives it
abbrev pub check_weight : Parameters → Bool → (ℕ → ℕ) → ℕ → ℕ
check_weight p b f = slope p.q (later (spread b (cut p.n f)))

-- at an odd position it is less the column after it in the first component, and the column before it in the second
pub weight_first_odd : (p : Parameters) (f : ℕ → ℕ) (a : ℕ) → check_weight p true f (double a) ≡ (p.q - 1) * cut p.n f a
weight_first_odd p f a = rw (later_skip (cut p.n f) a, spread_take (cut p.n f) a) (omega arith)

pub weight_second_odd : (p : Parameters) (f : ℕ → ℕ) (a : ℕ) → check_weight p false f (double a) ≡ later (cut p.n f) a
weight_second_odd p f a = rw (later_take (cut p.n f) a, spread_skip (cut p.n f) a) (omega arith)

-- at an even position it is the column of its index in the first, and less that column in the second
pub weight_first_even : (p : Parameters) (f : ℕ → ℕ) (a : ℕ) → check_weight p true f (suc (double a)) ≡ cut p.n f a
weight_first_even p f a = rw (spread_take (cut p.n f) a, spread_skip (λ i. cut p.n f (suc i)) a) (omega arith)

pub weight_second_even : (p : Parameters) (f : ℕ → ℕ) (a : ℕ) → check_weight p false f (suc (double a)) ≡ (p.q - 1) * cut p.n f a
weight_second_even p f a = rw (spread_skip (cut p.n f) a, spread_take (cut p.n f) a) (omega arith)

pub length_differences : (p : Parameters) (w : List ℕ) → 1 ≤ length w → suc (length (differences p w)) ≡ length w
length_differences p [] h = absurd (not-suc-le-zero h)
length_differences p (x ∷ []) h = refl
length_differences p (x ∷ y ∷ w) h = ap suc (length_differences p (y ∷ w) (suc-le-suc zero-le))

pub differences_below : (p : Parameters) → 1 ≤ p.q → (w : List ℕ) → Below p.q (differences p w)
differences_below p h [] i = h
differences_below p h (x ∷ []) i = h
differences_below p h (x ∷ y ∷ w) zero = go p.edition
  where
    go : (e : Edition) → neighbour_difference (in_edition e p) x y < p.q
    go edition13 = minus_below p.q y x h
    go edition18 = minus_below p.q x y h
differences_below p h (x ∷ y ∷ w) (suc i) = differences_below p h (y ∷ w) i

pub length_alternate : (n : ℕ) (b : Bool) (z : List ℕ) → length z ≡ double n → length (alternate b z) ≡ n
length_alternate zero b [] e = refl
length_alternate zero b (x ∷ z) e = absurd (suc-ne-zero (length z) e)
length_alternate (suc n) b [] e = absurd (suc-ne-zero (suc (double n)) (sym e))
length_alternate (suc n) b (x ∷ []) e = absurd (suc-ne-zero (double n) (sym (suc_inj e)))
length_alternate (suc n) true (x ∷ y ∷ z) e = ap suc (length_alternate n true z (suc_inj (suc_inj e)))
length_alternate (suc n) false (x ∷ y ∷ z) e = ap suc (length_alternate n false z (suc_inj (suc_inj e)))

-- The components of a word of 2 n + 1 symbols.

pub length_differenced : (p : Parameters) (b : Bool) (w : List ℕ) → length w ≡ suc (double p.n) → length (differenced p b w) ≡ p.n
length_differenced p b w e =
    let some : 1 ≤ length w = rw e (suc-le-suc zero-le) in
    length_alternate p.n b (differences p w) (suc_inj (length_differences p w some ∙ e))

last_weight_lem : (n : ℕ) (b : Bool) (f : ℕ → ℕ) → spread b (cut n f) (double n) ≡ 0
last_weight_lem n true f = spread_take (cut n f) n ∙ cut_past n f n (le_refl n)
last_weight_lem n false f = spread_skip (cut n f) n

pub dot_differenced : (p : Parameters) → 1 ≤ p.q → (b : Bool) (f : ℕ → ℕ) (w : List ℕ) → length w ≡ suc (double p.n)
    → Congruent p.q (dot f (differenced p b w)) (sign p * dot (check_weight p b f) w)
dot_differenced p h b f [] e = absurd (suc-ne-zero (double p.n) (sym e))
dot_differenced p h b f (x ∷ w) e =
    let c : List ℕ = differenced p b (x ∷ w) in
    let g : ℕ → ℕ = spread b (cut p.n f) in
    let d : ℕ = dot g (differences p (x ∷ w)) in
    let within : (i : ℕ) → i < length c → i < p.n = λ i l. subst (λ (k : ℕ). i < k) (length_differenced p b (x ∷ w) e) l in
    let k : dot f c ≡ d =
    dot_same f (cut p.n f) c (λ i l. sym (cut_below p.n f i (within i l))) ∙ dot_alternate b (cut p.n f) (differences p (x ∷ w)) in
    let y : ℕ = sign p * x in
    let l : d + g 0 * y * p.q ≡ (0 + (p.q - 1) * g 0) * y + (d + g 0 * y) = omega (arith, times_pred p.q (g 0 * y) h) in
    let z : g (length w) ≡ 0 = ap g (suc_inj e) ∙ last_weight_lem p.n b f in
    let m : (0 + (p.q - 1) * g 0) * y + sign p * dot (slope p.q g) w ≡ sign p * ((0 + (p.q - 1) * g 0) * x + dot (slope p.q g) w) =
    omega arith in
    of_eq k then symm (multiple p.q d (g 0 * y)) then of_eq l
    then add (same ((0 + (p.q - 1) * g 0) * y)) (dot_differences p h g x w z) then of_eq m
