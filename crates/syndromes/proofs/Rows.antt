-- The tests of one syndrome by its four rows.
-- Assumes nothing.
use mathlib.Core.Path.{◌≡◌, sym, ◌∙◌}
use mathlib.Core.Logic.{◌≢◌}
use mathlib.Core.Bool.{Bool, false}
use mathlib.Core.List.{List, [], ◌∷◌}
use Prim.Native.Nat.{ℕ, ◌+◌, ◌*◌, ◌<◌}
use native.Mathlib.Omega.{arith}
use lib.Dec.{eqb, eqb→eq}
use lib.ListN.{get_or}
use Rattle.modular_theory.proofs.Search.{fails, all_at}
use Rattle.decoding_theory.specs.Syndromes.{from_digits, zero_syndrome}
use Rattle.symbols.specs.Syndromes.{four_rows}
use Rattle.syndromes.specs.FourRows.{zero_rows}

-- one of the four is not 0
pub zero_not : (S : List ℕ) (j : ℕ) → j < 4 → get_or S j 0 ≢ 0 → false ≡ zero_rows S
unfolding zero_rows
zero_not S j l n = sym (fails (λ h. n (eqb→eq _ 0 (all_at (λ j. eqb (get_or S j 0) 0) 4 h j l))))

-- the test of the definitions
pub zero_by : (q n : ℕ) (S : List ℕ) {b c : Bool} → b ≡ zero_rows S → b ≡ c → zero_syndrome (four_rows q n) S ≡ c
unfolding zero_syndrome zero_rows
zero_by q n S e f = sym e ∙ f

pub position_is : (q a b c d : ℕ) → (c * q + b) * q + a ≡ from_digits q 3 (a ∷ b ∷ c ∷ d ∷ [])
position_is q a b c d = omega arith
