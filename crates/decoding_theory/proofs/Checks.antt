-- One changed symbol of the body moves the check symbol of its parity by as much, mod q, and keeps the other.
-- Assumes nothing.
use mathlib.Core.Path.{◌≡◌, refl, sym, ap, ap₂, ◌∙◌}
use mathlib.Core.Bool.{Bool, true, false, not}
use mathlib.Core.List.{List}
use Prim.Native.Nat.{ℕ, ◌+◌, ◌*◌, ◌%◌, ◌<◌}
use native.Mathlib.Nat.{add-zero, one-mul}
use native.Mathlib.Omega.{arith}
use lib.ListN.{length, get_or, set, length-set}
use Rattle.modular_theory.specs.Sum.{weight, dot}
use Rattle.modular_theory.specs.Residue.{Congruent}
use Rattle.modular_theory.proofs.Residue.{of_eq, same, symm, ◌then◌, add, reduce}
use Rattle.modular_theory.proofs.Sum.{dot_gain}
use Rattle.code_theory.specs.Parameters.{delta}
use Rattle.code_theory.specs.Codeword.{alternate, alpha, beta}
use Rattle.code_theory.proofs.Weights.{ones, spread_take, dot_ones}
use Rattle.code_theory.proofs.Alternate.{first_kept, second_kept}
use Rattle.decoding_theory.specs.Syndromes.{index}
use Rattle.decoding_theory.specs.Decoded.{check_symbol}
use Rattle.decoding_theory.proofs.Moved.{index_odd, index_even}

-- what is added to the sum of the symbols
abbrev offset : ℕ → Bool → ℕ → ℕ
offset q true m = delta q m
offset q false m = 0

check_is : (q : ℕ) (b : Bool) (w : List ℕ) → check_symbol q b w ≡ (weight (alternate b w) + offset q b (length w)) % q
unfolding alpha beta
check_is q true w = refl
check_is q false w = rw add-zero refl

-- the symbols of a parity are counted once each, and the others are not
counted : (b : Bool) (k : ℕ) → ones b (index b k) ≡ 1
counted true k = ap (ones true) (index_odd k) ∙ spread_take (λ x. 1) k
counted false k = ap (ones false) (index_even k) ∙ spread_take (λ x. 1) k

pub check_gained : {q : ℕ} (b : Bool) (w : List ℕ) (k y e : ℕ) → index b k < length w → Congruent q (get_or w (index b k) 0 + e) y
    → check_symbol q b (set w (index b k) y) ≡ (check_symbol q b w + e) % q
check_gained {q} b w k y e l h =
    let w' : List ℕ = set w (index b k) y in
    let sum : ℕ = weight (alternate b w) in
    let d : ℕ = offset q b (length w) in
    let a : dot (ones b) w + ones b (index b k) * e ≡ sum + e =
    ap₂ (λ (x z : ℕ). x + z * e) (dot_ones b w) (counted b k) ∙ ap (λ (x : ℕ). sum + x) (one-mul e) in
    let c : sum + e + d ≡ sum + d + e = omega arith in
    let g : Congruent q (weight (alternate b w') + d) (check_symbol q b w + e) =
    add (of_eq (sym (dot_ones b w')) then dot_gain (ones b) w (index b k) y e l h then of_eq a) (same d) then of_eq c
    then add (symm (of_eq (check_is q b w) then reduce q (sum + d))) (same e) in
    check_is q b w' ∙ ap (λ (x : ℕ). (weight (alternate b w') + offset q b x) % q) (length-set w (index b k) y) ∙ g.same

pub check_kept : (q : ℕ) (b : Bool) (w : List ℕ) (k y : ℕ) → check_symbol q (not b) (set w (index b k) y) ≡ check_symbol q (not b) w
check_kept q b w k y =
    check_is q (not b) (set w (index b k) y)
    ∙ ap₂ (λ (t : List ℕ) (x : ℕ). (weight t + offset q (not b) x) % q) (kept b) (length-set w (index b k) y)
    ∙ sym (check_is q (not b) w)
  where
    kept : (b : Bool) → alternate (not b) (set w (index b k) y) ≡ alternate (not b) w
    kept true = ap (λ (i : ℕ). alternate false (set w i y)) (index_odd k) ∙ second_kept w k y
    kept false = ap (λ (i : ℕ). alternate true (set w i y)) (index_even k) ∙ first_kept w k y
