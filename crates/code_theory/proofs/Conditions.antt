-- What the test of a codeword says, as facts, and back.
-- Assumes nothing.
use mathlib.Core.Path.{◌≡◌, sym, ap, ap₂, subst, ◌∙◌}
use mathlib.Core.Logic.{⊎_elim}
use mathlib.Core.Bool.{true, false, ◌&&◌}
use mathlib.Core.List.{List, [], ◌∷◌, ◌++◌}
use Prim.Native.Nat.{ℕ, suc, ◌+◌, ◌≤◌, ◌<◌}
use native.Mathlib.Numerals.{add-one}
use native.Mathlib.Omega.{arith}
use lib.Dec.{T, eqb, eqb→eq}
use lib.ListN.{length, get_or, take, drop, take-append-drop, length-append}
use lib.Seq.{drop-cons, length-take-le, take_at, get_or-append-add, drop-length, get_or_at, get_or-take}
use Rattle.modular_theory.specs.Sum.{weight}
use Rattle.modular_theory.proofs.Search.{eq_test, and_left, and_right, and_intro, and_four, and_parts, or_cases, or_left, or_right}
use Rattle.code_theory.specs.Parameters.{Parameters, balanced_length, codeword_length, balancing_value}
use Rattle.code_theory.specs.Component.{symbols_below, is_word, in_code}
use Rattle.code_theory.specs.Codeword.{alpha, beta, with_checks, body, received, near_code, is_balanced}
use Rattle.code_theory.specs.Codeword.{check_sum_agrees, has_checks, near_components, has_components, codeword}
use Rattle.code_theory.proofs.Weights.{double, double_is}
use Rattle.code_theory.proofs.Syndrome.{code_zero, zero_code, near_cases, zero_near, column_near}
use Rattle.code_theory.proofs.Moves.{Near, neither, first, second, NearIn}

pub record Conditions (p : Parameters) (u : List ℕ) : Type 0 where
  pub long : length u ≡ codeword_length p
  pub below : T (symbols_below p.q u)
  pub weighs : weight (body p u) ≡ balancing_value p.q (balanced_length p)
  pub checks : u ≡ with_checks p.q (body p u)
  pub near : Near p (received p true u) (received p false u)

pub body_length : (p : Parameters) (u : List ℕ) → length u ≡ codeword_length p → length (body p u) ≡ balanced_length p
unfolding body
body_length p u e = length-take-le (balanced_length p) u (omega arith)

-- a symbol of the body is one of the word
pub body_at : (p : Parameters) (u : List ℕ) (i : ℕ) → i < balanced_length p → get_or (body p u) i 0 ≡ get_or u i 0
unfolding body
body_at p u i h = get_or-take (balanced_length p) u i 0 h

-- 2 n + 1 as it is recurred on
pub balanced_length_lem : (p : Parameters) → balanced_length p ≡ suc (double p.n)
balanced_length_lem p = omega (arith, double_is p.n)

module _ (p : Parameters) (h : 1 ≤ p.q) (c d : List ℕ) where
  components_near : T (near_components p c d) → Near p c d
  unfolding near_components
  components_near k = ⊎_elim left right (or_cases (in_code p c && near_code p d) (near_code p c && in_code p d) k)
    where
      left : T (in_code p c && near_code p d) → Near p c d
      left l =
          let z = code_zero p c (and_left (in_code p c) (near_code p d) l) in
          ⊎_elim (λ y. neither z y) (λ a. second z a) (near_cases p h d (and_right (in_code p c) (near_code p d) l))

      right : T (near_code p c && in_code p d) → Near p c d
      right l =
          let z = code_zero p d (and_right (near_code p c) (in_code p d) l) in
          ⊎_elim (λ y. neither y z) (λ a. first a z) (near_cases p h c (and_left (near_code p c) (in_code p d) l))

  near_components_lem : Near p c d → T (near_components p c d)
  unfolding near_components
  near_components_lem k = go k
    where
      left : T (in_code p c) → T (near_code p d) → T (near_components p c d)
      left x y = or_left (in_code p c && near_code p d) _ (and_intro (in_code p c) (near_code p d) x y)

      go : Near p c d → T (near_components p c d)
      go (neither x y) = left (zero_code p c x) (zero_near p d y)
      go (second x a) = left (zero_code p c x) (column_near p h d a.0 a.1 a.2)
      go (first a y) =
          or_right (in_code p c && near_code p d) _
          (and_intro (near_code p c) (in_code p d) (column_near p h c a.0 a.1 a.2) (zero_code p d y))

-- the last two symbols of a word of N
two_last : (m : ℕ) (u : List ℕ) → length u ≡ m + 2 → u ≡ take m u ++ (get_or u m 0 ∷ get_or u (m + 1) 0 ∷ [])
two_last m u e =
    let i : m < length u = omega arith in
    let j : suc m < length u = omega arith in
    let k : length u ≡ suc (suc m) = omega arith in
    let none : drop (suc (suc m)) u ≡ [] = ap (λ (x : ℕ). drop x u) (sym k) ∙ drop-length u in
    let last : get_or u (suc m) 0 ≡ get_or u (m + 1) 0 = ap (λ (x : ℕ). get_or u x 0) (sym (add-one m)) in
    let tail : drop (suc m) u ≡ get_or u (m + 1) 0 ∷ [] = drop-cons u (suc m) 0 j ∙ ap₂ (λ (x : ℕ) (t : List ℕ). x ∷ t) last none in
    sym (take-append-drop m u)
    ∙ ap (λ (t : List ℕ). take m u ++ t) (drop-cons u m 0 i ∙ ap (λ (t : List ℕ). get_or u m 0 ∷ t) tail)

pub conditions : (p : Parameters) → 1 ≤ p.q → (u : List ℕ) → T (codeword p u) → Conditions p u
unfolding codeword is_balanced check_sum_agrees has_checks has_components with_checks body
conditions p h u k = from (and_parts (is_word p.q (codeword_length p) u) (is_balanced p u) (has_checks p u) (has_components p u) k)
  where
    from : T (is_word p.q (codeword_length p) u) × T (is_balanced p u) × T (has_checks p u) × T (has_components p u) → Conditions p u
    from t =
        record {
          long = long;
          below = and_right (eqb (length u) (codeword_length p)) (symbols_below p.q u) t.0;
          weighs = eqb→eq _ _ t.1;
          checks =
              two_last (balanced_length p) u long
              ∙ ap₂ (λ (x y : ℕ). take (balanced_length p) u ++ (x ∷ y ∷ []))
              (eqb→eq _ _ (and_left (check_sum_agrees p true u) (check_sum_agrees p false u) t.2))
              (eqb→eq _ _ (and_right (check_sum_agrees p true u) (check_sum_agrees p false u) t.2));
          near = components_near p h (received p true u) (received p false u) t.3;
        }
      where
        long : length u ≡ codeword_length p
        long = eqb→eq _ _ (and_left (eqb (length u) (codeword_length p)) (symbols_below p.q u) t.0)

-- the body of w with its check symbols is w
pub body_with_checks : (p : Parameters) (w : List ℕ) → length w ≡ balanced_length p → body p (with_checks p.q w) ≡ w
unfolding body with_checks
body_with_checks p w e = take_at w (alpha p.q w ∷ beta p.q w ∷ []) (balanced_length p) e

-- a word of m symbols that balances, with its check symbols, is a codeword where its components are near the code
pub codeword_of : (p : Parameters) → 1 ≤ p.q → (w : List ℕ) → length w ≡ balanced_length p → T (symbols_below p.q (with_checks p.q w))
    → weight w ≡ balancing_value p.q (balanced_length p) → NearIn p w → T (codeword p (with_checks p.q w))
unfolding codeword is_balanced check_sum_agrees has_checks has_components with_checks received
codeword_of p h w e b k z =
    and_four (is_word p.q (codeword_length p) u) (is_balanced p u) (has_checks p u) (has_components p u) word (eq_test (ap weight here ∙ k))
    (and_intro (check_sum_agrees p true u) (check_sum_agrees p false u) (eq_test (first_check ∙ ap (alpha p.q) (sym here)))
    (eq_test (second_check ∙ ap (beta p.q) (sym here))))
    (near_components_lem p h (received p true u) (received p false u) (subst (NearIn p) (sym here) z))
  where
    u : List ℕ
    u = w ++ (alpha p.q w ∷ beta p.q w ∷ [])

    here : body p u ≡ w
    here = body_with_checks p w e

    word : T (is_word p.q (codeword_length p) u)
    word =
        and_intro (eqb (length u) (codeword_length p)) (symbols_below p.q u)
        (eq_test (length-append w (alpha p.q w ∷ beta p.q w ∷ []) ∙ ap (λ (x : ℕ). x + 2) e)) b

    first_check : get_or u (balanced_length p) 0 ≡ alpha p.q w
    first_check = get_or_at w (alpha p.q w) (beta p.q w ∷ []) 0 (balanced_length p) e

    second_check : get_or u (balanced_length p + 1) 0 ≡ beta p.q w
    second_check =
        ap (λ (x : ℕ). get_or u (x + 1) 0) (sym e) ∙ get_or-append-add w (alpha p.q w ∷ beta p.q w ∷ []) 1 0
