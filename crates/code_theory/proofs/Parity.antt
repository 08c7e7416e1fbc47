-- What the symbols of a codeword at odd and at even positions add up to: since w has an odd number of symbols, α stands at an even position
-- and β at an odd one, so each stands among the symbols that it does not sum.
-- Assumes nothing.
use mathlib.Core.Path.{◌≡◌, sym, ap, ap₂, ◌∙◌}
use mathlib.Core.Bool.{true, false}
use mathlib.Core.List.{List, [], ◌∷◌, ◌++◌}
use Prim.Native.Nat.{ℕ, zero, suc, ◌+◌}
use native.Mathlib.Nat.{suc-ne-zero, suc_inj}
use native.Mathlib.Omega.{arith}
use lib.Dec.{T}
use lib.ListN.{length, get_or}
use lib.Seq.{get_or-append_seam, get_or-append-add}
use Rattle.modular_theory.specs.Sum.{weight}
use Rattle.modular_theory.specs.Residue.{Congruent}
use Rattle.modular_theory.proofs.Residue.{of_eq, same, ◌then◌, add, reduce}
use Rattle.code_theory.specs.Parameters.{Parameters, Sized, balanced_length, balancing_value, delta}
use Rattle.code_theory.specs.Codeword.{alternate, alpha, beta, with_checks, body, codeword}
use Rattle.code_theory.specs.Claims.{ParitySums, ChecksBalanced}
use Rattle.code_theory.proofs.Weights.{double}
use Rattle.code_theory.proofs.Columns.{q_positive}
use Rattle.code_theory.proofs.Delta.{alternate_weight, checks_exact}
use Rattle.code_theory.proofs.Conditions.{Conditions, conditions, body_length, balanced_length_lem}

-- two symbols after a word of odd length: the first stands at an even position
after_odd : (n : ℕ) (w : List ℕ) (a b : ℕ) → length w ≡ suc (double n)
    → (weight (alternate true (w ++ (a ∷ b ∷ []))) ≡ weight (alternate true w) + b)
    × (weight (alternate false (w ++ (a ∷ b ∷ []))) ≡ weight (alternate false w) + a)
after_odd n [] a b e = absurd (suc-ne-zero (double n) (sym e))
after_odd zero (x ∷ []) a b e = (omega arith, omega arith)
after_odd zero (x ∷ y ∷ z) a b e = absurd (suc-ne-zero (length z) (suc_inj e))
after_odd (suc n) (x ∷ []) a b e = absurd (suc-ne-zero (suc (double n)) (sym (suc_inj e)))
after_odd (suc n) (x ∷ y ∷ z) a b e = let (f, g) = after_odd n z a b (suc_inj (suc_inj e)) in (omega arith, omega arith)

module _ (p : Parameters) (s : Sized p) (u : List ℕ) (h : T (codeword p u)) where
  known : Conditions p u
  known = conditions p (q_positive p s) u h

  abbrev w : List ℕ
  w = body p u

  abbrev odd : ℕ
  odd = weight (alternate true w)

  abbrev even : ℕ
  even = weight (alternate false w)

  long : length w ≡ balanced_length p
  long = body_length p u known.long

  abbrev target : ℕ
  target = balancing_value p.q (balanced_length p)

  total : odd + even ≡ target
  total = alternate_weight w ∙ known.weighs

  odd_sum : Congruent p.q (weight (alternate true u)) target
  unfolding with_checks beta
  odd_sum =
      of_eq (ap (λ (x : List ℕ). weight (alternate true x)) known.checks)
      then of_eq (after_odd p.n w (alpha p.q w) (beta p.q w) (long ∙ balanced_length_lem p)).0
      then add (same odd) (reduce p.q even) then of_eq total

  even_sum : Congruent p.q (weight (alternate false u)) (target + delta p.q (balanced_length p))
  unfolding with_checks alpha
  even_sum =
      let d : ℕ = delta p.q (length w) in
      let swap : even + (odd + d) ≡ odd + even + d = omega arith in
      of_eq (ap (λ (x : List ℕ). weight (alternate false x)) known.checks)
      then of_eq (after_odd p.n w (alpha p.q w) (beta p.q w) (long ∙ balanced_length_lem p)).1
      then add (same even) (reduce p.q (odd + d)) then of_eq (swap ∙ ap (λ (x : ℕ). x + d) total)
      then of_eq (ap (λ (x : ℕ). target + delta p.q x) long)

pub parity_sums : ParitySums
parity_sums p s u h = ((odd_sum p s u h).same, (even_sum p s u h).same)

-- the check symbols stand after the body
pub checks_balanced : ChecksBalanced
unfolding with_checks
checks_balanced p s u h =
    let w : List ℕ = body p u in
    let c = known p s u h in
    let m : length w ≡ balanced_length p = long p s u h in
    let a : ℕ = alpha p.q w in
    let b : ℕ = beta p.q w in
    let first : get_or u (length w) 0 ≡ a = ap (λ (x : List ℕ). get_or x (length w) 0) c.checks ∙ get_or-append_seam w a (b ∷ []) 0 in
    let second : get_or u (length w + 1) 0 ≡ b =
    ap (λ (x : List ℕ). get_or x (length w + 1) 0) c.checks ∙ get_or-append-add w (a ∷ b ∷ []) 1 0 in
    ap₂ (λ (i j : ℕ). get_or u i 0 + get_or u j 0) (sym m) (ap (λ (i : ℕ). i + 1) (sym m))
    ∙ ap₂ (λ (x y : ℕ). x + y) first second
    ∙ checks_exact p.q w s.odd (omega (arith, m, s.second)) (c.weighs ∙ ap (balancing_value p.q) (sym m))
