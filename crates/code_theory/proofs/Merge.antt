-- Laws of the words that specs/Component.antt takes apart and puts together by a test of the index, by induction on the word.
-- Assumes nothing.
use mathlib.Core.Path.{◌≡◌, refl, sym, ap, ◌∙◌, fun_ext}
use mathlib.Core.Logic.{◌≢◌}
use mathlib.Core.Bool.{Bool, true, false, not, ◌&&◌}
use mathlib.Core.List.{List, [], ◌∷◌}
use Prim.Native.Nat.{ℕ, zero, suc, ◌+◌, ◌≤◌, ◌<◌, zero-le, suc-le-suc}
use native.Mathlib.Nat.{not-suc-le-zero, le_of_suc-le-suc, suc_inj, ne_of_lt, le_refl, le_step}
use native.Mathlib.Omega.{arith}
use lib.Dec.{T, eqb, T_not, not_T, eqb→eq, eqb_refl}
use lib.Arith.{lt_of_le-ne}
use lib.ListN.{length, get_or, drop, set}
use lib.Seq.{get_or-drop}
use Rattle.modular_theory.proofs.Search.{and_intro, and_left, and_right, same_test}
use Rattle.code_theory.specs.Component.{symbols_below, Below, is_word, keep, merge}
use Rattle.code_theory.proofs.Symbols.{symbol_below}

-- a test is true or false
pub cases : {A : Type 0} (b : Bool) → (b ≡ true → A) → (b ≡ false → A) → A
cases true f g = f refl
cases false f g = g refl

-- the test from the second index on
abbrev pub shift : (ℕ → Bool) → ℕ → Bool
shift t i = t (suc i)

-- the opposite test
abbrev pub opposite : (ℕ → Bool) → ℕ → Bool
opposite t i = not (t i)

-- Symbols below q.

pub word_length : (q n : ℕ) (c : List ℕ) → T (is_word q n c) → length c ≡ n
word_length q n c h = eqb→eq (length c) n (and_left (eqb (length c) n) (symbols_below q c) h)

pub word_below : (q n : ℕ) (c : List ℕ) → 1 ≤ q → T (is_word q n c) → Below q c
word_below q n c l h = symbol_below q l c (and_right (eqb (length c) n) (symbols_below q c) h)

pub word_of : (q n : ℕ) (c : List ℕ) → length c ≡ n → T (symbols_below q c) → T (is_word q n c)
word_of q n c l h = and_intro (eqb (length c) n) (symbols_below q c) (rw l (eqb_refl n)) h

pub below_keep : (q : ℕ) (t : ℕ → Bool) (c : List ℕ) → Below q c → Below q (keep t c)
below_keep q t [] h i = h i
below_keep q t (x ∷ xs) h zero = cases (t 0) (λ b. rw (b, keep) (h 0)) (λ b. rw (b, keep) (below_keep q (shift t) xs (λ j. h (suc j)) 0))
below_keep q t (x ∷ xs) h (suc i) =
    let k : Below q (keep (shift t) xs) = below_keep q (shift t) xs (λ j. h (suc j)) in
    cases (t 0) (λ b. rw (b, keep) (k i)) (λ b. rw (b, keep) (k (suc i)))

pub below_merge : (q : ℕ) (t : ℕ → Bool) (n : ℕ) (e a : List ℕ) → Below q e → Below q a → Below q (merge t n e a)
below_merge q t zero e a h k i = omega (arith, h 0)
below_merge q t (suc n) e a h k zero = cases (t 0) (λ b. rw (b, merge) (h 0)) (λ b. rw (b, merge) (k 0))
below_merge q t (suc n) e a h k (suc i) =
    cases (t 0) (λ b. rw (b, merge) (below_merge q (shift t) n (drop 1 e) a (λ j. rw get_or-drop (h (1 + j))) k i))
    (λ b. rw (b, merge) (below_merge q (shift t) n e (drop 1 a) h (λ j. rw get_or-drop (k (1 + j))) i))

-- Counting.

-- how many indices below n pass the test
abbrev pub passing : (ℕ → Bool) → ℕ → ℕ
passing t zero = 0
passing t (suc n) = elim (t 0) [ true ↦ suc (passing (shift t) n) | false ↦ passing (shift t) n ]

pub count_not : (t : ℕ → Bool) (n : ℕ) → passing t n + passing (opposite t) n ≡ n
count_not t zero = refl
count_not t (suc n) =
    let e : passing (shift t) n + passing (opposite (shift t)) n ≡ n = count_not (shift t) n in
    cases (t 0) (λ h. rw (h, passing) (omega arith)) (λ h. rw (h, passing) (omega arith))

-- one index more

pub count_pass : (t : ℕ → Bool) (i : ℕ) → t i ≡ true → passing t (suc i) ≡ suc (passing t i)
count_pass t zero h = rw (h, passing)
count_pass t (suc i) h =
    cases (t 0) (λ b. rw (b, passing) (ap suc (count_pass (shift t) i h))) (λ b. rw (b, passing) (count_pass (shift t) i h))

pub count_fail : (t : ℕ → Bool) (i : ℕ) → t i ≡ false → passing t (suc i) ≡ passing t i
count_fail t zero h = rw (h, passing)
count_fail t (suc i) h =
    cases (t 0) (λ b. rw (b, passing) (ap suc (count_fail (shift t) i h))) (λ b. rw (b, passing) (count_fail (shift t) i h))

count_none : (t : ℕ → Bool) (n : ℕ) → ((i : ℕ) → i < n → T (t i) → ⊥) → passing t n ≡ 0
count_none t zero h = refl
count_none t (suc n) h =
    cases (t 0) (λ e. absurd (h 0 (suc-le-suc zero-le) (rw e tt)))
    (λ e. rw (e, passing) (count_none (shift t) n (λ i l. h (suc i) (suc-le-suc l))))

-- of tests that differ at one index only, one counts one more
count_step : (t u : ℕ → Bool) (n p : ℕ) → p < n → T (t p) → T (not (u p)) → ((i : ℕ) → i ≢ p → t i ≡ u i) → passing t n ≡ suc (passing u n)
count_step t u zero p l a b e = absurd (not-suc-le-zero l)
count_step t u (suc n) zero l a b e =
    let k : passing (shift t) n ≡ passing (shift u) n = ap (λ (f : ℕ → Bool). passing f n) (fun_ext (λ i. e (suc i) (omega arith))) in
    cases (t 0) (λ x. cases (u 0) (λ y. absurd (rw y at b)) (λ y. rw (x, passing, y, passing) (ap suc k))) (λ x. absurd (rw x at a))
count_step t u (suc n) (suc p) l a b e =
    let k : passing (shift t) n ≡ suc (passing (shift u) n) =
    count_step (shift t) (shift u) n p (le_of_suc-le-suc l) a b (λ i h. e (suc i) (λ g. h (suc_inj g))) in
    let x : u 0 ≡ t 0 = sym (e 0 (omega arith)) in
    cases (t 0) (λ y. rw (y, passing, x, y, passing) (ap suc k)) (λ y. rw (y, passing, x, y, passing) k)

-- r different indices are all that pass, so they are r
pub count_image : (f : ℕ → ℕ) (r n : ℕ) (t : ℕ → Bool) → ((k : ℕ) → k < r → f k < n) → ((k l : ℕ) → k < r → l < r → f k ≡ f l → k ≡ l)
    → ((k : ℕ) → k < r → T (t (f k))) → ((i : ℕ) → T (t i) → (k : ℕ) × (k < r) × (i ≡ f k)) → passing t n ≡ r
count_image f zero n t b j o h = count_none t n (λ i l p. not-suc-le-zero (h i p).1)
count_image f (suc r) n t b j o h =
    count_step t u n (f r) (b r (le_refl (suc r))) (o r (le_refl (suc r)))
    (not_T (u (f r)) (λ p. apart (f r) p refl)) (λ i d. same_test (t i) (u i) (λ p. rest i p d) (λ p. and_left (t i) (not (eqb i (f r))) p))
    ∙ ap suc (count_image f r n u (λ k l. b k (le_step l)) (λ k l x y. j k l (le_step x) (le_step y))
    (λ k l. rest (f k) (o k (le_step l)) (λ e. ne_of_lt l (j k r (le_step l) (le_refl (suc r)) e)))
    (λ i p.
    let (k, l, e) = h i (and_left (t i) (not (eqb i (f r))) p) in
    (k, lt_of_le-ne (le_of_suc-le-suc l) (λ g. apart i p (e ∙ ap f g)), e)))
  where
    u : ℕ → Bool
    u i = t i && not (eqb i (f r))

    apart : (i : ℕ) → T (u i) → i ≢ f r
    apart i p e = T_not (eqb i (f r)) (and_right (t i) (not (eqb i (f r))) p) (rw e (eqb_refl (f r)))

    rest : (i : ℕ) → T (t i) → i ≢ f r → T (u i)
    rest i p d = and_intro (t i) (not (eqb i (f r))) p (not_T (eqb i (f r)) (λ e. d (eqb→eq i (f r) e)))

-- Taking apart and putting together.

pub length_keep : (t : ℕ → Bool) (c : List ℕ) → length (keep t c) ≡ passing t (length c)
length_keep t [] = refl
length_keep t (x ∷ xs) =
    let e : length (keep (shift t) xs) ≡ passing (shift t) (length xs) = length_keep (shift t) xs in
    cases (t 0) (λ h. rw (h, keep, passing) (ap suc e)) (λ h. rw (h, keep, passing) e)

pub length_merge : (t : ℕ → Bool) (n : ℕ) (e a : List ℕ) → length (merge t n e a) ≡ n
length_merge t zero e a = refl
length_merge t (suc n) e a =
    cases (t 0) (λ h. rw (h, merge) (ap suc (length_merge (shift t) n (drop 1 e) a)))
    (λ h. rw (h, merge) (ap suc (length_merge (shift t) n e (drop 1 a))))

pub merge_keep : (t : ℕ → Bool) (c : List ℕ) → merge t (length c) (keep t c) (keep (opposite t) c) ≡ c
merge_keep t [] = refl
merge_keep t (x ∷ xs) =
    let e : merge (shift t) (length xs) (keep (shift t) xs) (keep (opposite (shift t)) xs) ≡ xs = merge_keep (shift t) xs in
    cases (t 0) (λ h. rw (h, merge, h, keep) (ap (λ (l : List ℕ). x ∷ l) e)) (λ h. rw (h, merge, h, keep) (ap (λ (l : List ℕ). x ∷ l) e))

pub keep_merge : (t : ℕ → Bool) (n : ℕ) (e a : List ℕ) → length a ≡ passing (opposite t) n → keep (opposite t) (merge t n e a) ≡ a
keep_merge t zero e [] h = refl
keep_merge t zero e (x ∷ a) h = absurd (omega arith)
keep_merge t (suc n) e [] h =
    cases (t 0) (λ b. rw (b, merge, b, keep) (keep_merge (shift t) n (drop 1 e) [] (rw (b, passing) at h)))
    (λ b. absurd (omega (arith, rw (b, passing) at h)))
keep_merge t (suc n) e (x ∷ a) h =
    cases (t 0) (λ b. rw (b, merge, b, keep) (keep_merge (shift t) n (drop 1 e) (x ∷ a) (rw (b, passing) at h)))
    (λ b. rw (b, merge, b, keep) (ap (λ (l : List ℕ). x ∷ l) (keep_merge (shift t) n e a (suc_inj (rw (b, passing) at h)))))

keep_parts : (t : ℕ → Bool) (x y : ℕ) (xs ys : List ℕ) → keep t (x ∷ xs) ≡ keep t (y ∷ ys)
    → (T (t 0) → x ≡ y) × (keep (shift t) xs ≡ keep (shift t) ys)
keep_parts t x y xs ys e =
    cases (t 0) (λ b. let k : x ∷ keep (shift t) xs ≡ y ∷ keep (shift t) ys = rw (b, keep) at e in ((λ h. cc), cc))
    (λ b. ((λ h. absurd (rw b at h)), rw (b, keep) at e))

-- words with the same kept symbols agree wherever the test passes
pub keep_at : (t : ℕ → Bool) (c d : List ℕ) → length c ≡ length d → keep t c ≡ keep t d → (i : ℕ) → T (t i) → get_or c i 0 ≡ get_or d i 0
keep_at t [] [] l e i h = refl
keep_at t [] (y ∷ ys) l e i h = omega arith
keep_at t (x ∷ xs) [] l e i h = omega arith
keep_at t (x ∷ xs) (y ∷ ys) l e zero h = (keep_parts t x y xs ys e).0 h
keep_at t (x ∷ xs) (y ∷ ys) l e (suc i) h = keep_at (shift t) xs ys (suc_inj l) (keep_parts t x y xs ys e).1 i h

-- and a change elsewhere keeps them
pub keep_set : (t : ℕ → Bool) (c : List ℕ) (i y : ℕ) → (T (t i) → ⊥) → keep t (set c i y) ≡ keep t c
keep_set t [] i y h = refl
keep_set t (x ∷ xs) zero y h = cases (t 0) (λ e. absurd (h (rw e tt))) (λ e. rw (e, keep))
keep_set t (x ∷ xs) (suc i) y h =
    let e : keep (shift t) (set xs i y) ≡ keep (shift t) xs = keep_set (shift t) xs i y h in
    cases (t 0) (λ b. rw (b, keep, e)) (λ b. rw (b, keep, e))
