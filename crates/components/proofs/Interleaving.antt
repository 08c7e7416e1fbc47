-- The two components in one array: what a symbol written there changes, and the array as the components in turn.
-- Assumes nothing.
use mathlib.Core.Path.{◌≡◌, refl, sym, ap, ap₂, ◌∙◌}
use mathlib.Core.Logic.{◌≢◌}
use mathlib.Core.Bool.{true, false}
use mathlib.Core.List.{List, [], ◌∷◌}
use Prim.Native.Nat.{ℕ, zero, suc, ◌+◌, ◌-◌, ◌*◌, ◌≤◌, ◌<◌}
use native.Mathlib.Omega.{arith}
use lib.ListN.{length, get_or, take, drop, set, length-drop}
use lib.Seq.{take-set-lt, drop-set-add, drop-cons, get_or-take, get_or-set_other, length-take-le}
use Rattle.code_theory.specs.Balance.{interleave}
use Rattle.code_theory.specs.Codeword.{alternate}
use Rattle.code_theory.proofs.Weights.{double, double_is}
use Rattle.code_theory.proofs.Alternate.{first_set, second_set, first_kept, second_kept}
use Rattle.symbols.specs.Syndromes.{part}
use Rattle.components.specs.Checks.{set_at}

module _ (n : ℕ) (x : List ℕ) (k y : ℕ) (h : k < n) where
  -- both components' symbols
  abbrev both : List ℕ → List ℕ
  both l = drop 1 (take (2 * n + 1) l)

  both_set : (j : ℕ) → 1 + j < 2 * n + 1 → both (set x (1 + j) y) ≡ set (both x) j y
  both_set j l = ap (drop 1) (take-set-lt (2 * n + 1) x (1 + j) y l) ∙ drop-set-add 1 (take (2 * n + 1) x) j y

  first_index : both (set x (2 * k + 1) y) ≡ set (both x) (double k) y
  first_index =
      let e : 2 * k + 1 ≡ 1 + double k = omega (arith, double_is k) in
      ap (λ (j : ℕ). both (set x j y)) e ∙ both_set (double k) (omega (arith, double_is k))

  second_index : both (set x (2 * k + 2) y) ≡ set (both x) (suc (double k)) y
  second_index =
      let e : 2 * k + 2 ≡ 1 + suc (double k) = omega (arith, double_is k) in
      ap (λ (j : ℕ). both (set x j y)) e ∙ both_set (suc (double k)) (omega (arith, double_is k))

  first_written : part true n (set x (2 * k + 1) y) ≡ set (part true n x) k y
  first_written = ap (alternate true) first_index ∙ first_set (both x) k y

  first_stays : part true n (set x (2 * k + 2) y) ≡ part true n x
  first_stays = ap (alternate true) second_index ∙ first_kept (both x) k y

  second_written : part false n (set x (2 * k + 2) y) ≡ set (part false n x) k y
  second_written = ap (alternate false) second_index ∙ second_set (both x) k y

  second_stays : part false n (set x (2 * k + 1) y) ≡ part false n x
  second_stays = ap (alternate false) first_index ∙ second_kept (both x) k y

-- symbol k of both written
module _ (n : ℕ) (x : List ℕ) (k a b : ℕ) (h : k < n) where
  pair_first : part true n (set (set x (2 * k + 1) a) (2 * k + 2) b) ≡ set (part true n x) k a
  pair_first = first_stays n (set x (2 * k + 1) a) k b h ∙ first_written n x k a h

  pair_second : part false n (set (set x (2 * k + 1) a) (2 * k + 2) b) ≡ set (part false n x) k b
  pair_second = second_written n (set x (2 * k + 1) a) k b h ∙ ap (λ (l : List ℕ). set l k b) (second_stays n x k a h)

-- the symbols of both at a position
module _ (n : ℕ) (x : List ℕ) (position a b : ℕ) (from : 1 ≤ position) (upto : position ≤ n) where
  indices : {A : Type 0} (f : List ℕ → A) → f (set_at x position a b) ≡ f (set (set x (2 * (position - 1) + 1) a) (2 * (position - 1) + 2) b)
  indices f =
      let e : 2 * position - 1 ≡ 2 * (position - 1) + 1 = omega arith in
      let g : 2 * position ≡ 2 * (position - 1) + 2 = omega arith in
      ap₂ (λ (i j : ℕ). f (set (set x i a) j b)) e g

  pub set_first : part true n (set_at x position a b) ≡ set (part true n x) (position - 1) a
  set_first = indices (part true n) ∙ pair_first n x (position - 1) a b (omega arith)

  pub set_second : part false n (set_at x position a b) ≡ set (part false n x) (position - 1) b
  set_second = indices (part false n) ∙ pair_second n x (position - 1) a b (omega arith)

  kept : (i : ℕ) → i ≢ 2 * position - 1 → i ≢ 2 * position → get_or (set_at x position a b) i 0 ≡ get_or x i 0
  kept i d e = get_or-set_other (set x (2 * position - 1) a) (2 * position) i b 0 e ∙ get_or-set_other x (2 * position - 1) i a 0 d

  -- what is neither's stays
  pub set_head : get_or (set_at x position a b) 0 0 ≡ get_or x 0 0
  set_head = kept 0 (λ z. omega arith) (λ z. omega arith)

  pub set_past : (i : ℕ) → 2 * n + 1 ≤ i → get_or (set_at x position a b) i 0 ≡ get_or x i 0
  set_past i h = kept i (λ z. omega arith) (λ z. omega arith)

interleave_alternate : (n : ℕ) (l : List ℕ) → length l ≡ 2 * n → interleave (alternate true l) (alternate false l) ≡ l
interleave_alternate zero [] h = refl
interleave_alternate (suc n) [] h = absurd (omega arith)
interleave_alternate zero (x ∷ l) h = absurd (omega arith)
interleave_alternate (suc n) (x ∷ []) h = absurd (omega arith)
interleave_alternate (suc n) (x ∷ y ∷ l) h = ap (λ (t : List ℕ). x ∷ y ∷ t) (interleave_alternate n l (omega arith))

-- 01: x is a symbol and then those of the halves in turn
pub parts_interleaved : (n : ℕ) (x : List ℕ) → 2 * n + 1 ≤ length x
    → take (2 * n + 1) x ≡ get_or x 0 0 ∷ interleave (part true n x) (part false n x)
parts_interleaved n x h =
    let m : ℕ = 2 * n + 1 in
    let e : length (take m x) ≡ m = length-take-le m x h in
    let l : 0 < length (take m x) = omega arith in
    let z : 0 < m = omega arith in
    let d : length (drop 1 (take m x)) ≡ 2 * n = omega (arith, length-drop 1 (take m x)) in
    drop-cons (take m x) 0 0 l
    ∙ ap (λ (a : ℕ). a ∷ drop 1 (take m x)) (get_or-take m x 0 0 z)
    ∙ ap (λ (t : List ℕ). get_or x 0 0 ∷ t) (sym (interleave_alternate n (drop 1 (take m x)) d))
