-- A symbol put where 0 stood does to the numbers and to the syndromes of four rows what the definitions say.
-- Assumes nothing.
use mathlib.Core.Path.{◌≡◌, refl, sym, ap, fun_ext}
use mathlib.Core.Bool.{Bool, true, false}
use Prim.Native.Nat.{ℕ, ◌+◌, ◌≤◌}
use Rattle.decoding_theory.specs.Decoded.{Sums, update}
use Rattle.decoding_theory.specs.Filled.{in_body, plus_multiple, sums_with}
use Rattle.modular.specs.Remainder.{residue}
use Rattle.modular.proofs.Dividing.{residue_is}
use Rattle.symbols.specs.Syndromes.{four_rows, rows}
use Rattle.symbols.specs.declared.checks.Checks.{Checks}
use Rattle.symbols.specs.declared.sums.Syndrome.{Syndrome}
use Rattle.symbols.specs.declared.sums.Syndromes.{Syndromes}
use Rattle.syndromes.specs.Plus.{syndrome_plus}
use Rattle.fillings.specs.declared.sums.Sums as declared
use Rattle.fillings.specs.declared.sums.Numbers.{Numbers}
use Rattle.fillings.specs.declared.sums.Erased.{Erased}
use Rattle.fillings.specs.declared.sums.Erased.TheVariants.{Odd, Even, Alpha, Beta}
use Rattle.symbols.specs.Weight.{check_of}
use Rattle.fillings.specs.Filling.{erased_of, four_row_sums}
use Rattle.fillings.specs.Steps.{numbers_of, with_check, heavier, numbers_with, syndromes_plus, syndromes_with}

-- the sums that have these numbers and syndromes
abbrev pub sums_by : Numbers → Syndromes → Sums
sums_by m s =
    record {
      excess = m.excess;
      asked = check_of m.asked;
      arrived = check_of m.arrived;
      first = rows s.first;
      second = rows s.second;
    }

pub has_own : (t : declared.Sums) {m : Numbers} → m ≡ numbers_of t → sums_by m t.syndromes ≡ four_row_sums t
has_own t e = ap (λ (m : Numbers). sums_by m t.syndromes) e

check_set : (b : Bool) (y : ℕ) (c : Checks) → update b y (check_of c) ≡ check_of (with_check b y c)
check_set b y c = fun_ext (at b)
  where
    at : (b d : Bool) → update b y (check_of c) d ≡ check_of (with_check b y c) d
    at true true = refl
    at true false = refl
    at false true = refl
    at false false = refl

module _ (q n : ℕ) (some : 1 ≤ q) (y : ℕ) where
  plus_is : (e s : Syndrome) → plus_multiple (four_rows q n) y (rows e) (rows s) ≡ rows (syndrome_plus q y e s)
  unfolding plus_multiple
  plus_is e s = simp residue_is

  body_is : (b : Bool) (e : Syndromes) (m : Numbers) (s : Syndromes)
      → sums_with (four_rows q n) (in_body b (rows e.first) (rows e.second)) y (sums_by m s)
      ≡ sums_by (heavier q b y m) (syndromes_plus q y e s)
  body_is b e m s =
      let asked : ℕ = residue q (check_of m.asked b + y) in
      rw (
        plus_is e.first s.first,
        plus_is e.second s.second,
        ← residue_is (check_of m.asked b + y) some,
        check_set b asked m.asked,
      )

  pub with_is : (e : Erased) (m : Numbers) (s : Syndromes)
      → sums_with (four_rows q n) (erased_of e) y (sums_by m s) ≡ sums_by (numbers_with q e y m) (syndromes_with q e y s)
  with_is (Odd e) m s = body_is true e m s
  with_is (Even e) m s = body_is false e m s
  with_is Alpha m s = rw (check_set true y m.arrived)
  with_is Beta m s = rw (check_set false y m.arrived)

  pub has_with : (e : Erased) {m m' : Numbers} {s : Syndromes} {t : Sums} → sums_by m s ≡ t → m' ≡ numbers_with q e y m
      → sums_by m' (syndromes_with q e y s) ≡ sums_with (four_rows q n) (erased_of e) y t
  has_with e {m} {s = s} has is = rw (is, ← has) (sym (with_is e m s))
