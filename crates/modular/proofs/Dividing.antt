-- Sums mod q: a quotient by the inverse of q is right or one too low, whatever 16 bits the sum has.
-- Assumes nothing.
use Rattle.std.proofs.Common.{◌≡◌, ℕ, zero, suc, ◌+◌, ◌-◌, ◌*◌, ◌/◌, ◌%◌, ◌<◌, ◌≤◌, Bool, true, false, eqb, List, ◌∷◌, length, get_or, replicate, ℤ, pos, negsuc, ◌-ℤ◌, neg_ℤ, sym, refl, ap, ◌∙◌, suc-le-suc, zero-le, le_refl, le_of_suc-le-suc, not-suc-le-zero, mod-lt, mul-le-mul, add-one, arith, ext_get_or, ne_eqb}
use native.Mathlib.Nat.{mod-add-div'}
use Rattle.modular_theory.specs.Residue.{Congruent, remainder}
use Rattle.modular_theory.proofs.Residue.{of_eq, symm, ◌then◌, multiple, already_reduced, wrapped}
use Rattle.modular_theory.proofs.Integer.{difference_ge}
use Rattle.modular.specs.Remainder.{residue, residues_of, residue_of_integer, residue_of_negative}
use Rattle.modular.proofs.Filling.{FilledTo}

-- Where there are levels, they are remainders.

levels_there : {q : ℕ} (n : ℕ) → 1 ≤ q → elim (eqb q 0) as (λ _. ℕ) [ true ↦ 0 | false ↦ n ] ≡ n
levels_there {q} n h = ap (λ (b : Bool). elim b as (λ _. ℕ) [ true ↦ 0 | false ↦ n ]) (ne_eqb q 0 (λ e. omega arith))

pub residue_is : {q : ℕ} (sum : ℕ) → 1 ≤ q → residue q sum ≡ sum % q
unfolding residue
residue_is {q} sum h = levels_there (sum % q) h

pub residue_below : {q : ℕ} (sum : ℕ) → 1 ≤ q → residue q sum < q
residue_below sum h = rw (residue_is sum h) (mod-lt sum h)

integer_is : {q : ℕ} (z : ℤ) → 1 ≤ q → residue_of_integer q z ≡ remainder z q
unfolding residue_of_integer
integer_is {q} z h = levels_there (remainder z q) h

pub negative_is : {q : ℕ} (e : ℤ) → 1 ≤ q → residue_of_negative q e ≡ remainder (neg_ℤ e) q
unfolding residue_of_negative
negative_is e h = integer_is (neg_ℤ e) h

-- What the code answers for an integer, by its sign.

pub integer_above : (q : ℕ) {z : ℤ} {n : ℕ} → z ≡ pos n → residue q n ≡ residue_of_integer q z
unfolding residue residue_of_integer
integer_above q e = ap (residue_of_integer q) (sym e)

-- how far below -1 it is
pub down_from : {z : ℤ} (n : ℕ) → z ≡ negsuc n → negsuc 0 -ℤ z ≡ pos n
down_from n e =
    let back : suc n - 1 ≡ n = omega arith in
    rw e (difference_ge (suc n) 1 (suc-le-suc zero-le) ∙ ap pos back)

pub integer_below : {q : ℕ} {z : ℤ} (n : ℕ) → z ≡ negsuc n → 1 ≤ q → q - (residue q n + 1) ≡ residue_of_integer q z
integer_below {q} n e h = ap (λ (r : ℕ). q - (r + 1)) (residue_is n h) ∙ sym (rw e (integer_is (negsuc n) h))

-- The quotient by the inverse k.

module _ {q k s : ℕ} (some : 1 ≤ q) (inverse : k ≡ 65535 / q) (narrow : s ≤ 65535) where
  abbrev quotient : ℕ
  quotient = s * k / 65536

  -- what the product drops, and what the inverse was rounded down by, are each less than q
  dropped : (quotient * q ≤ s) × (s < quotient * q + (q + q))
  dropped =
      let c : ℕ = 65535 % q in
      let u : ℕ = s * k % 65536 in
      let t : ℕ = s * k / 65536 in
      let hc : c < q = mod-lt 65535 some in
      let hu : u < 65536 = mod-lt (s * k) (omega arith) in
      let one : c + k * q ≡ 65535 = rw inverse (mod-add-div' 65535 q) in
      let product : u + t * 65536 ≡ s * k = mod-add-div' (s * k) 65536 in
      let whole : s * (c + 1) + s * (k * q) ≡ s * 65536 = omega (arith, ap (λ (x : ℕ). s * x) one) in
      let parts : u * q + t * q * 65536 ≡ s * (k * q) = omega (arith, ap (λ (x : ℕ). x * q) product) in
      let first : u * q ≤ 65535 * q = mul-le-mul (omega arith) (le_refl q) in
      let second : s * (c + 1) ≤ 65535 * q = rw add-one (mul-le-mul narrow hc) in
      (omega arith, omega arith)

  pub quotient_fits : quotient * q ≤ s
  quotient_fits = dropped.0

  pub left_small : s - quotient * q < q + q
  left_small = omega (arith, dropped)

  left_is : Congruent q (s - quotient * q) s
  left_is =
      let e : s - quotient * q + quotient * q ≡ s = omega (arith, dropped) in
      symm (multiple q (s - quotient * q) quotient) then of_eq e

  pub left_kept : s - quotient * q < q → s - quotient * q ≡ s % q
  left_kept l = (already_reduced l).0 ∙ left_is.same

  pub left_wrapped : q ≤ s - quotient * q → s - quotient * q - q ≡ s % q
  left_wrapped l = (wrapped l left_small).0 ∙ left_is.same

-- An array of sums.

pub residues_long : (q : ℕ) (sum : ℕ → ℕ) (n : ℕ) → length (residues_of q sum n) ≡ n
residues_long q sum zero = refl
residues_long q sum (suc n) = ap suc (residues_long q (λ i. sum (suc i)) n)

pub residue_at_lem : (q : ℕ) (sum : ℕ → ℕ) (n i : ℕ) → i < n → get_or (residues_of q sum n) i 0 ≡ residue q (sum i)
residue_at_lem q sum zero i h = absurd (not-suc-le-zero h)
residue_at_lem q sum (suc n) zero h = refl
residue_at_lem q sum (suc n) (suc i) h = residue_at_lem q (λ i. sum (suc i)) n i (le_of_suc-le-suc h)

pub residues_none : (sum : ℕ → ℕ) (n : ℕ) → replicate n 0 ≡ residues_of 0 sum n
unfolding residue
residues_none sum zero = refl
residues_none sum (suc n) = ap (λ (l : List ℕ). 0 ∷ l) (residues_none (λ i. sum (suc i)) n)

pub residues_all : (q : ℕ) (sum : ℕ → ℕ) {n i : ℕ} {d : List ℕ} → FilledTo (λ k. residue q (sum k)) n d i → n ≤ i → d ≡ residues_of q sum n
residues_all q sum {n} {d = d} f h =
    ext_get_or 0 d (residues_of q sum n) (f.size ∙ sym (residues_long q sum n))
    (λ k m. let l : k < n = omega (arith, f.size) in f.at k (omega arith) ∙ sym (residue_at_lem q sum n k l))
