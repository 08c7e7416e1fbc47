-- How many positions are tried for the symbol that changed (02, T-08: tried places), by what the word is read as.
-- Assumes nothing.
use Rattle.std.specs.Prelude.{Bool, true, false, not, ◌&&◌, List, ℕ, zero, suc, ◌%◌, eqb}
use Rattle.code_theory.specs.Parameters.{Parameters, balanced_length}
use Rattle.code_theory.specs.Codeword.{is_balanced, check_sum_agrees}
use Rattle.code_theory.specs.Erasures.{erasures}
use Rattle.code_theory.specs.Reading.{clean, corrected, filled, Reading, read, unreadable, reading}

-- position i is one of the odd ones (true) or of the even ones (false): of one half of w, as 02 says
abbrev pub has_parity : Bool → ℕ → Bool
has_parity true i = eqb (i % 2) 1
has_parity false i = eqb (i % 2) 0

-- how many positions of the parity b there are from 1 up to and including i
abbrev pub positions_up_to : Bool → ℕ → ℕ
positions_up_to b zero = 0
positions_up_to b (suc i) = elim (has_parity b (suc i)) [ true ↦ suc (positions_up_to b i) | false ↦ positions_up_to b i ]

-- 02: the positions of the parity b are tried: no symbol is erased, the weight is off the middle, and exactly one check sum disagrees, b's
unfoldable pub searched : Parameters → Bool → List ℕ → Bool
searched p b v = eqb (erasures v) 0 && not (is_balanced p v) && not (check_sum_agrees p b v) && check_sum_agrees p (not b) v

-- the last of them: the one found, or the last of w if none fits
abbrev pub last_tried : Parameters → Reading → ℕ
last_tried p (read clean x y) = 0
last_tried p (read (corrected c) x y) = c.position
last_tried p (read (filled cs) x y) = 0
last_tried p unreadable = balanced_length p

-- 02: how many are tried
unfoldable pub tried_positions : Parameters → List ℕ → ℕ
tried_positions p v =
    let last : ℕ = last_tried p (reading p v) in
    elim (searched p true v) [
      | true ↦ positions_up_to true last
      | false ↦ elim (searched p false v) [ true ↦ positions_up_to false last | false ↦ 0 ]
    ]
