-- Sums and differences of symbols are remainders: one below twice q is below q once q is taken off.
-- Assumes nothing.
use Rattle.std.proofs.Common.{◌≡◌, ℕ, ◌+◌, ◌-◌, ◌*◌, ◌%◌, ◌<◌, ◌≤◌, sym, ap, ◌∙◌, ⊎_elim, mod-eq_of_lt, arith, le-ltb, lt-ltb}
use Rattle.modular_theory.specs.Residue.{Congruent, minus}
use Rattle.modular_theory.proofs.Search.{le_or_lt}
use Rattle.modular_theory.proofs.Residue.{of_eq, symm, ◌then◌, same, add, reduce, multiple, cancel}
use Rattle.modular_theory.proofs.Residue.{minus_low, minus_high, already_reduced, wrapped}
use Rattle.modular.specs.Byte.{byte_of, byte_sum, byte_difference}

-- What the code answers, by its branches.

module _ (q a x : ℕ) where
  pub sum_low : {s : ℕ} → s ≡ byte_of (a + x) → s < q → s ≡ byte_sum q a x
  unfolding byte_sum
  sum_low e h = let l : byte_of (a + x) < q = omega arith in rw (lt-ltb (byte_of (a + x)) q l, byte_sum) e

  pub sum_high : {s : ℕ} → s ≡ byte_of (a + x) → q ≤ s → s - q ≡ byte_sum q a x
  unfolding byte_sum
  sum_high e h =
      let l : q ≤ byte_of (a + x) = omega arith in
      rw (le-ltb (byte_of (a + x)) q l, byte_sum) (ap (λ (s : ℕ). s - q) e)

  pub difference_high : x ≤ a → a - x ≡ byte_difference q a x
  unfolding byte_difference
  difference_high h = rw (le-ltb a x h, byte_difference)

  -- d is a - x in a byte
  pub difference_low : (d : ℕ) {r : ℕ} → a < x → x ≤ 255 → byte_of (d + x) ≡ a → r ≡ byte_of (d + q) → r ≡ byte_difference q a x
  unfolding byte_difference
  difference_low d h l e f =
      let c : d + q + x ≡ q + (d + x) = omega arith in
      let g : q + a + 1 * 256 ≡ a + q + (256 - x) + x = omega arith in
      let back : Congruent 256 (d + x) a = symm (reduce 256 (d + x)) then of_eq e in
      let is = cancel x (of_eq c then add (same q) back then symm (multiple 256 (q + a) 1) then of_eq g) in
      rw (lt-ltb a x h, byte_difference) (f ∙ is.same)

-- The laws, of a level a and of x up to q.
module _ {q a x : ℕ} (h : a < q) (k : x ≤ q) where
  pub byte_sum_lem : q ≤ 128 → {r : ℕ} → r ≡ byte_sum q a x → (r ≡ (a + x) % q) × (r < q)
  byte_sum_lem l e =
      let f : a + x ≡ byte_of (a + x) = sym (mod-eq_of_lt (omega arith)) in
      let m : a + x < q + q = omega arith in
      rw e
      (⊎_elim (λ (g : q ≤ a + x). rw (sym (sum_high q a x f g)) (wrapped g m))
      (λ (g : a + x < q). rw (sym (sum_low q a x f g)) (already_reduced g)) (le_or_lt q (a + x)))

  pub byte_difference_lem : q ≤ 255 → {r : ℕ} → r ≡ byte_difference q a x → (r ≡ minus q a x) × (r < q)
  unfolding byte_difference
  byte_difference_lem l e = rw e (⊎_elim high low (le_or_lt x a))
    where
      high : x ≤ a → (byte_difference q a x ≡ minus q a x) × (byte_difference q a x < q)
      high g = rw (sym (difference_high q a x g)) (minus_high k h g, omega arith)

      low : a < x → (byte_difference q a x ≡ minus q a x) × (byte_difference q a x < q)
      low g =
          let m : a + (q - x) < q = omega arith in
          let f : a + q + (256 - x) ≡ a + (q - x) + 1 * 256 = omega arith in
          let b : byte_of (a + q + (256 - x)) ≡ a + (q - x) =
          ap byte_of f ∙ (multiple 256 (a + (q - x)) 1).same ∙ mod-eq_of_lt (omega arith) in
          rw (lt-ltb a x g, byte_difference, b) (minus_low k g, m)
