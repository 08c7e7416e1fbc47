-- One erased symbol: the symbol that the code finds is the one wanted, and its tests are those of the definition.
-- Assumes nothing.
use mathlib.Core.Path.{◌≡◌, refl, sym, ◌∙◌}
use mathlib.Core.Logic.{⊎_elim}
use mathlib.Core.Bool.{Bool, true, false, ◌&&◌}
use Rattle.std.specs.Prelude.{Option}
use Prim.Native.Nat.{ℕ, ◌≤◌, ◌<◌}
use native.Mathlib.Omega.{arith}
use lib.Dec.{T, ltb, ltb→lt}
use borrow.Author.Tests.{lt-ltb, le-ltb}
use Rattle.modular_theory.proofs.Search.{le_or_lt, holds, and_left}
use Rattle.code_theory.specs.Parameters.{Parameters}
use Rattle.decoding_theory.specs.Decoded.{Sums}
use Rattle.decoding_theory.specs.Syndromes.{near_syndromes}
use Rattle.decoding_theory.specs.Filled.{consistent, codeword_sums, wanted, fillable, nothing, fill_one}
use Rattle.symbols.specs.Syndromes.{four_rows, rows}
use Rattle.symbols.specs.declared.sums.Syndromes.{Syndromes}
use Rattle.fillings.specs.declared.sums.Numbers.{Numbers}
use Rattle.fillings.specs.declared.sums.Erased.{Erased}
use Rattle.fillings.specs.declared.sums.Erased.TheVariants.{Odd, Even, Alpha, Beta}
use Rattle.fillings.specs.declared.fill.Filling.{Filling}
use Rattle.fillings.specs.Filling.{erased_of, filling_of}
use Rattle.fillings.specs.Steps.{numbers_with, syndromes_with, wanted_by, consistent_numbers, one_if_near}
use Rattle.fillings.proofs.Placing.{sums_by, with_is}

module _ (q n : ℕ) (m : Numbers) (s : Syndromes) where
  abbrev p : Parameters
  p = four_rows q n

  wanted_is : (e : Erased) → wanted_by q e m ≡ wanted q (erased_of e) (sums_by m s)
  wanted_is (Odd d) = refl
  wanted_is (Even d) = refl
  wanted_is Alpha = refl
  wanted_is Beta = refl

  -- the syndromes once the erased symbol is y are near
  abbrev near_with : Erased → ℕ → Bool
  near_with e y = near_syndromes p (rows (syndromes_with q e y s).first) (rows (syndromes_with q e y s).second)

  -- the tests of the definition, of a level that is wanted
  tests : (e : Erased) {y : ℕ} → y ≡ wanted q (erased_of e) (sums_by m s) → y < q
      → fillable p (erased_of e) (sums_by m s) ≡ (consistent_numbers (numbers_with q e y m) && near_with e y)
  unfolding fillable codeword_sums consistent consistent_numbers
  tests e {y} f l = rw (← f, lt-ltb y q l, with_is q n (omega (arith, l)) y e m s)

-- Where y is what the code finds, and b its test of y by the numbers.
module _ (q n : ℕ) {m : Numbers} {s : Syndromes} {t : Sums} (has : sums_by m s ≡ t) (e : Erased) {y : ℕ} (found : y ≡ wanted_by q e m)
    {b : Bool} (tested : b ≡ (ltb y q && consistent_numbers (numbers_with q e y m))) where
  met : y ≡ wanted q (erased_of e) (sums_by m s)
  met = found ∙ wanted_is q n m s e

  pub unsuited : b ≡ false → nothing ≡ fill_one (four_rows q n) (erased_of e) t
  unfolding fill_one fillable
  unsuited h = rw (← has, none, fill_one)
    where
      none : fillable (four_rows q n) (erased_of e) (sums_by m s) ≡ false
      none =
          ⊎_elim (λ (l : q ≤ y). rw (← met, le-ltb y q l))
          (λ (l : y < q). tests q n m s e met l ∙ rw (rw (lt-ltb y q l) at (sym tested ∙ h))) (le_or_lt q y)

  pub suited : b ≡ true → {s' : Syndromes} → s' ≡ syndromes_with q e y s → {r : Option (Filling 1)} → r ≡ one_if_near q n y s'
      → filling_of r ≡ fill_one (four_rows q n) (erased_of e) t
  unfolding fill_one one_if_near
  suited h {s'} after {r} is = rw (← has, is, after) (by (near_with q n m s e y) refl)
    where
      passed : T (ltb y q && consistent_numbers (numbers_with q e y m))
      passed = holds _ (sym tested ∙ h)

      below : y < q
      below = ltb→lt y q (and_left (ltb y q) (consistent_numbers (numbers_with q e y m)) passed)

      fillable_by : (b : Bool) → near_with q n m s e y ≡ b → fillable (four_rows q n) (erased_of e) (sums_by m s) ≡ b
      fillable_by b k = tests q n m s e met below ∙ rw (rw (lt-ltb y q below) at (sym tested ∙ h), k)

      by : (b : Bool) → near_with q n m s e y ≡ b
          → filling_of (one_if_near q n y (syndromes_with q e y s)) ≡ fill_one (four_rows q n) (erased_of e) (sums_by m s)
      by true k = rw (k, one_if_near, fillable_by true k, fill_one, ← met, with_is q n (omega (arith, below)) y e m s)
      by false k = rw (k, one_if_near, fillable_by false k, fill_one)
