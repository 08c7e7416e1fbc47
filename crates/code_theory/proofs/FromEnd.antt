-- Integrating from the end, as edition 18 does: a choice adds s to every symbol and 1 more before index v, and differencing gives back what
-- was integrated.
-- Assumes nothing.
use mathlib.Core.Path.{◌≡◌, refl, ap, ◌∙◌}
use mathlib.Core.List.{List, [], ◌∷◌, ◌++◌}
use Prim.Native.Nat.{ℕ, zero, suc, ◌+◌, ◌-◌, ◌%◌, ◌≤◌, ◌<◌}
use native.Mathlib.Nat.{le_of_suc-le-suc, not-suc-le-zero, mod-lt}
use native.Mathlib.Omega.{arith}
use lib.Dec.{T, ltb, lt→ltb, ltb→lt}
use lib.ListN.{length, get_or, set, length-append, get_or-append}
use lib.Seq.{set-append_left, set_at, get_or_at}
use Rattle.modular_theory.proofs.Search.{and_left, and_right, and_intro}
use Rattle.modular_theory.proofs.Residue.{◌then◌, of_eq, same, symm, reduce, add}
use Rattle.code_theory.specs.Parameters.{edition18, Parameters, in_edition}
use Rattle.code_theory.specs.Component.{symbols_below}
use Rattle.code_theory.specs.Balance.{add_at, add_before, integrate_from_end, shifted, add_one, differences}
use Rattle.code_theory.proofs.Symbols.{symbols_raised}
use Rattle.code_theory.proofs.Alternate.{minus_sum}

-- s added mod q to every symbol, and 1 more before index i
abbrev pub shifted_upto : ℕ → ℕ → ℕ → List ℕ → List ℕ
shifted_upto q s zero d = shifted q s d
shifted_upto q s (suc i) [] = []
shifted_upto q s (suc i) (a ∷ d) = (a + suc s) % q ∷ shifted_upto q s i d

pub length_from_end : (q : ℕ) (x : List ℕ) → length (integrate_from_end q x) ≡ length x
length_from_end q [] = refl
length_from_end q (x ∷ xs) = length_before (integrate_from_end q xs) ∙ ap suc (length_from_end q xs)
  where
    length_before : (w : List ℕ) → length (add_before q x w) ≡ suc (length w)
    length_before [] = refl
    length_before (a ∷ w) = refl

some_from_end : (q b : ℕ) (x : List ℕ) → 1 ≤ length (integrate_from_end q (b ∷ x))
some_from_end q b x = omega (arith, length_from_end q (b ∷ x))

-- what is added to a sum may be added to a part of it
regroup : (q w s a t : ℕ) → ((w + s) % q + (a + t) % q) % q ≡ ((w + a) % q + (s + t)) % q
regroup q w s a t =
    let e : w + s + (a + t) ≡ w + a + (s + t) = omega arith in
    (add (reduce q (w + s)) (reduce q (a + t)) then of_eq e then symm (add (reduce q (w + a)) (same (s + t)))).same

exchange : (q w s a : ℕ) → ((w + s) % q + a) % q ≡ ((w + a) % q + s) % q
exchange q w s a =
    let e : w + s + a ≡ w + a + s = omega arith in
    (add (reduce q (w + s)) (same a) then of_eq e then symm (add (reduce q (w + a)) (same s))).same

-- a symbol before a word that was shifted

before_shifted : (q a s : ℕ) (d : List ℕ) → 1 ≤ length d → add_before q a (shifted q s d) ≡ shifted q s (add_before q a d)
before_shifted q a s [] h = absurd (not-suc-le-zero h)
before_shifted q a s (w ∷ d) h = ap (λ (t : ℕ). t ∷ shifted q s (w ∷ d)) (exchange q w s a)

before_one : (q a s : ℕ) (d : List ℕ) → 1 ≤ length d → add_before q ((a + 1) % q) (shifted q s d) ≡ shifted_upto q s 1 (add_before q a d)
before_one q a s [] h = absurd (not-suc-le-zero h)
before_one q a s (w ∷ d) h =
    let e : s + 1 ≡ suc s = omega arith in
    ap (λ (t : ℕ). t ∷ shifted q s (w ∷ d)) (regroup q w s a 1 ∙ ap (λ (t : ℕ). ((w + a) % q + t) % q) e)

before_upto : (q a s i : ℕ) (d : List ℕ) → 1 ≤ length d
    → add_before q a (shifted_upto q s (suc i) d) ≡ shifted_upto q s (suc (suc i)) (add_before q a d)
before_upto q a s i [] h = absurd (not-suc-le-zero h)
before_upto q a s i (w ∷ d) h = ap (λ (t : ℕ). t ∷ shifted_upto q s (suc i) (w ∷ d)) (exchange q w (suc s) a)

-- s added to the last of two symbols or more is added to the last of the rest
raise_last : (q s a b : ℕ) (x : List ℕ) → add_at q (a ∷ b ∷ x) (length (a ∷ b ∷ x) - 1) s ≡ a ∷ add_at q (b ∷ x) (length (b ∷ x) - 1) s
raise_last q s a b x =
    let e : suc (suc (length x)) - 1 ≡ suc (suc (length x) - 1) = omega arith in
    ap (λ (j : ℕ). add_at q (a ∷ b ∷ x) j s) e

-- A choice.

last_shifted : (q s : ℕ) (x : List ℕ) → integrate_from_end q (add_at q x (length x - 1) s) ≡ shifted q s (integrate_from_end q x)
last_shifted q s [] = refl
last_shifted q s (a ∷ []) = ap (λ (t : ℕ). t ∷ []) (reduce q (a + s) then symm (add (reduce q a) (same s))).same
last_shifted q s (a ∷ b ∷ x) =
    ap (integrate_from_end q) (raise_last q s a b x)
    ∙ ap (add_before q a) (last_shifted q s (b ∷ x))
    ∙ before_shifted q a s (integrate_from_end q (b ∷ x)) (some_from_end q b x)

pub choice_upto : (p : Parameters) (s : ℕ) (x : List ℕ) (v : ℕ) → v < length x
    → integrate_from_end p.q (add_one p (add_at p.q x (length x - 1) s) v) ≡ shifted_upto p.q s v (integrate_from_end p.q x)
choice_upto p s x zero l = last_shifted p.q s x
choice_upto p s [] (suc j) l = absurd (not-suc-le-zero l)
choice_upto p s (a ∷ []) (suc j) l = absurd (not-suc-le-zero (le_of_suc-le-suc l))
choice_upto p s (a ∷ b ∷ x) (suc zero) l =
    let q : ℕ = p.q in
    ap (λ (y : List ℕ). integrate_from_end q (add_at q y 0 1)) (raise_last q s a b x)
    ∙ ap (add_before q ((a + 1) % q)) (last_shifted q s (b ∷ x))
    ∙ before_one q a s (integrate_from_end q (b ∷ x)) (some_from_end q b x)
choice_upto p s (a ∷ b ∷ x) (suc (suc j)) l =
    let q : ℕ = p.q in
    ap (λ (y : List ℕ). integrate_from_end q (add_at q y (suc j) 1)) (raise_last q s a b x)
    ∙ ap (add_before q a) (choice_upto p s (b ∷ x) (suc j) (le_of_suc-le-suc l))
    ∙ before_upto q a s j (integrate_from_end q (b ∷ x)) (some_from_end q b x)

-- The symbols are below q.

pub from_end_below : (q : ℕ) → 1 ≤ q → (x : List ℕ) → T (symbols_below q (integrate_from_end q x))
from_end_below q h [] = tt
from_end_below q h (x ∷ xs) = before (integrate_from_end q xs) (from_end_below q h xs)
  where
    before : (d : List ℕ) → T (symbols_below q d) → T (symbols_below q (add_before q x d))
    before [] b = and_intro (ltb (x % q) q) _ (lt→ltb (x % q) q (mod-lt x h)) b
    before (w ∷ d) b = and_intro (ltb ((w + x) % q) q) _ (lt→ltb ((w + x) % q) q (mod-lt (w + x) h)) b

-- Differencing.

module _ (p : Parameters) (h : 1 ≤ p.q) where
  abbrev q : ℕ
  q = p.q

  abbrev p18 : Parameters
  p18 = in_edition edition18 p

  before_difference : (a : ℕ) → a < q → (d : List ℕ) → 1 ≤ length d → differences p18 (add_before q a d) ≡ a ∷ differences p18 d
  before_difference a l [] k = absurd (not-suc-le-zero k)
  before_difference a l (w ∷ d) k = ap (λ (x : ℕ). x ∷ differences p18 (w ∷ d)) (minus_sum q w a h l)

  difference_from_end : (z : List ℕ) (t : ℕ) → T (symbols_below q z) → differences p18 (integrate_from_end q (z ++ (t ∷ []))) ≡ z
  difference_from_end [] t b = refl
  difference_from_end (a ∷ z) t b =
      let some : 1 ≤ length (integrate_from_end q (z ++ (t ∷ []))) =
      omega (arith, length_from_end q (z ++ (t ∷ [])), length-append z (t ∷ [])) in
      before_difference a (ltb→lt a q (and_left (ltb a q) (symbols_below q z) b)) (integrate_from_end q (z ++ (t ∷ []))) some
      ∙ ap (λ (x : List ℕ). a ∷ x) (difference_from_end z t (and_right (ltb a q) (symbols_below q z) b))

  last_raised : (z : List ℕ) (s : ℕ) → add_at q (z ++ (0 ∷ [])) (length (z ++ (0 ∷ [])) - 1) s ≡ z ++ ((0 + s) % q ∷ [])
  last_raised z s =
      let e : length z ≡ length (z ++ (0 ∷ [])) - 1 = omega (arith, length-append z (0 ∷ [])) in
      ap (λ (x : ℕ). set (z ++ (0 ∷ [])) (length (z ++ (0 ∷ [])) - 1) ((x + s) % q)) (get_or_at z 0 [] 0 _ e)
      ∙ set_at z 0 [] ((0 + s) % q) _ e

  one_before : (z : List ℕ) (t i : ℕ) → i ≤ length z → add_one p18 (z ++ (t ∷ [])) i ≡ add_one p18 z i ++ (t ∷ [])
  one_before z t zero l = refl
  one_before z t (suc i) l =
      ap (λ (x : ℕ). set (z ++ (t ∷ [])) i ((x + 1) % q)) (get_or-append z (t ∷ []) 0 i l)
      ∙ set-append_left z (t ∷ []) i ((get_or z i 0 + 1) % q) l

  one_below : (c : List ℕ) (i : ℕ) → T (symbols_below q c) → T (symbols_below q (add_one p18 c i))
  one_below c zero b = b
  one_below c (suc i) b = symbols_raised q h c i 1 b

  -- the word of a choice, whose zero stands last
  pub undone_from_end : (z : List ℕ) (s i : ℕ) → T (symbols_below q z) → i ≤ length z
      → differences p18 (integrate_from_end q (add_one p18 (add_at q (z ++ (0 ∷ [])) (length (z ++ (0 ∷ [])) - 1) s) i)) ≡ add_one p18 z i
  undone_from_end z s i b l =
      ap (λ (x : List ℕ). differences p18 (integrate_from_end q (add_one p18 x i))) (last_raised z s)
      ∙ ap (λ (x : List ℕ). differences p18 (integrate_from_end q x)) (one_before z ((0 + s) % q) i l)
      ∙ difference_from_end (add_one p18 z i) ((0 + s) % q) (one_below z i b)
