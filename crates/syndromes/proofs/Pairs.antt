-- Two near syndromes, by the tests of each.
-- Assumes nothing.
use mathlib.Core.Path.{◌≡◌, refl, sym}
use mathlib.Core.Bool.{false, ◌&&◌, ◌||◌, and-false}
use mathlib.Core.List.{List}
use Prim.Native.Nat.{ℕ}
use Rattle.code_theory.specs.Parameters.{Parameters}
use Rattle.decoding_theory.specs.Syndromes.{zero_syndrome, column_syndrome, near_syndrome, near_syndromes}
use Rattle.symbols.specs.Syndromes.{four_rows}
use Rattle.syndromes.specs.FourRows.{zero_rows}

pub near_neither : (p : Parameters) (S S' : List ℕ) → zero_syndrome p S ≡ false → zero_syndrome p S' ≡ false → false ≡ near_syndromes p S S'
unfolding near_syndromes near_syndrome
near_neither p S S' a b = rw (a, b) (sym (and-false (column_syndrome p S)))

-- of four rows
pub near_is : (q n : ℕ) (S S' : List ℕ) → near_syndromes (four_rows q n) S S'
    ≡ zero_rows S && (zero_rows S' || column_syndrome (four_rows q n) S')
    || (zero_rows S || column_syndrome (four_rows q n) S) && zero_rows S'
unfolding near_syndromes near_syndrome zero_syndrome zero_rows
near_is q n S S' = refl
