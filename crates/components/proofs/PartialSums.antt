-- Taking off multiples of q, and the step: what is carried once a symbol more is taken.
-- Assumes nothing.
use mathlib.Core.Path.{◌≡◌, refl, sym, ap, ◌∙◌}
use mathlib.Core.Logic.{⊎_elim}
use mathlib.Core.Bool.{Bool, true, false}
use Prim.Native.Nat.{ℕ, ◌+◌, ◌-◌, ◌*◌, ◌%◌, ◌≤◌, ◌<◌}
use native.Mathlib.Nat.{mul-le-mul, mod-lt, le_refl}
use native.Mathlib.Omega.{arith}
use borrow.Author.Tests.{lt-ltb, le-ltb}
use Rattle.modular_theory.specs.Residue.{Congruent}
use Rattle.modular_theory.proofs.Search.{le_or_lt}
use Rattle.modular_theory.proofs.Residue.{of_eq, same, symm, ◌then◌, reduce, add, multiple, already_reduced}
use Rattle.components.specs.PartialSums.{PartialSum}
use Rattle.components.specs.Residues.{less_once}

-- Taking off once.

module _ (k a : ℕ) where
  abbrev by_test : Bool → ℕ
  by_test b = elim b [ true ↦ a | false ↦ a - k ]

  pub less_kept : a < k → a ≡ less_once k a
  less_kept h = ap by_test (sym (lt-ltb a k h))

  pub less_taken : k ≤ a → a - k ≡ less_once k a
  less_taken h = ap by_test (sym (le-ltb a k h))

-- a multiple of q from a number below twice that multiple
module _ {q k a : ℕ} (m : ℕ) (is : k ≡ m * q) (h : a < k + k) where
  less_law : (less_once k a < k) × Congruent q (less_once k a) a
  less_law = ⊎_elim taken kept (le_or_lt k a)
    where
      taken : k ≤ a → (less_once k a < k) × Congruent q (less_once k a) a
      taken l =
          let below : a - k < k = omega arith in
          let back : a ≡ a - k + m * q = omega arith in
          rw (← less_taken k a l) (below, symm (of_eq back then multiple q (a - k) m))

      kept : a < k → (less_once k a < k) × Congruent q (less_once k a) a
      kept l = rw (← less_kept k a l) (l, same a)

-- 4q, 2q and q from a number below 8q
pub taken_thrice : (q a : ℕ) {b c d : ℕ} → a < 8 * q → b ≡ less_once (2 * (2 * q)) a → c ≡ less_once (2 * q) b → d ≡ less_once q c
    → d ≡ a % q
taken_thrice q a {b} {c} {d} h hb hc hd =
    let four : 2 * (2 * q) ≡ 4 * q = omega arith in
    let one : q ≡ 1 * q = omega arith in
    let first : (b < 2 * (2 * q)) × Congruent q b a = rw hb (less_law 4 four (omega arith)) in
    let second : (c < 2 * q) × Congruent q c b = rw hc (less_law 2 refl (omega (arith, first.0))) in
    let third : (d < q) × Congruent q d c = rw hd (less_law 1 one (omega (arith, second.0))) in
    (already_reduced third.0).0 ∙ (third.1 then second.1 then first.1).same

-- The step.

-- a product of two symbols, of nine levels at most
pub product_room : {q digit x : ℕ} → q ≤ 9 → digit < q → x < q → (digit * x ≤ 64) × (digit * x < 8 * q)
product_room {q} {digit} {x} h a b =
    let eight : digit ≤ 8 = omega arith in
    let most : digit * x ≤ 8 * x = mul-le-mul eight (le_refl x) in
    (omega arith, omega arith)

pub residue_below : {q r : ℕ} (a : ℕ) → 1 ≤ q → r ≡ a % q → r < q
residue_below {q} a some e = rw e (mod-lt a some)

-- the residue of the product is below q too, so that q has to be taken off the sum only once
pub accumulated_once : {q s p r : ℕ} (digit x : ℕ) → s < q → p ≡ digit * x % q → r ≡ less_once q (s + p) → PartialSum q (s + digit * x) r
accumulated_once {q} {s} {p} {r} digit x a product e =
    let some : 1 ≤ q = omega arith in
    let below : p < q = residue_below (digit * x) some product in
    let one : q ≡ 1 * q = omega arith in
    let taken : (r < q) × Congruent q r (s + p) = rw e (less_law 1 one (omega arith)) in
    record { below = taken.0; same = taken.1 then add (same s) (of_eq product then reduce q (digit * x)) }

-- a step takes what is carried from one sum to the next
pub continued : {q sum s r : ℕ} (y : ℕ) → PartialSum q sum s → PartialSum q (s + y) r → PartialSum q (sum + y) r
continued y a b = record { below = b.below; same = b.same then add a.same (same y) }
