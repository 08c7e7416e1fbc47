-- How many positions decoding tries, by the sums over a received word.
-- Assumes nothing.
use Rattle.std.specs.Prelude.{Bool, true, false, List, ℕ}
use Rattle.modular_theory.specs.Level.{is_zero}
use Rattle.code_theory.specs.Parameters.{Parameters}
use Rattle.code_theory.specs.TriedPositions.{positions_up_to, last_tried}
use Rattle.decoding_theory.specs.Decoded.{Sums, sums, decoded_body, agrees}

-- one check symbol, b's, disagrees with an unbalanced body: those of the parity b up to the last that is tried
unfoldable pub tried_body : Parameters → Sums → Bool → List ℕ → ℕ
tried_body p s b v = positions_up_to b (last_tried p (decoded_body p s b v))

unfoldable pub tried_unbalanced : Parameters → Sums → List ℕ → ℕ
tried_unbalanced p s v =
    elim (agrees s true) [
      | true ↦ elim (agrees s false) [ true ↦ 0 | false ↦ tried_body p s false v ]
      | false ↦ elim (agrees s false) [ true ↦ tried_body p s true v | false ↦ 0 ]
    ]

unfoldable pub tried_by : Parameters → Sums → List ℕ → ℕ
tried_by p s v = elim (is_zero s.excess) [ true ↦ 0 | false ↦ tried_unbalanced p s v ]

unfoldable pub tried_of : Parameters → List ℕ → ℕ
tried_of p v = tried_by p (sums p v) v
