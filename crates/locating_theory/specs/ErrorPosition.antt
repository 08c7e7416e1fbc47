-- The position of an error (02, T-09: the place) from the two components' syndromes (02: check row sums), the error and the check sum that
-- disagrees, with no symbol of the word. That this is the place that is mended is proved (`PositionOfCorrected`; of the contracts
-- `LocatesCorrected` in crate codec_claims); for syndromes and errors of no mended word 02 says nothing.
-- Assumes nothing.
use Rattle.std.specs.Prelude.{Bool, true, false, not, ◌&&◌, List, ℕ, ◌+◌, ltb, ℤ, neg_ℤ, nat_abs}
use Rattle.modular_theory.specs.Residue.{remainder}
use Rattle.modular_theory.specs.Level.{is_zero}
use Rattle.modular_theory.specs.Search.{least}
use Rattle.code_theory.specs.Parameters.{Parameters}
use Rattle.decoding_theory.specs.Syndromes.{near_syndromes, index, moved_of}
use Rattle.decoding_theory.specs.Decoded.{gain_by, position_count}

-- e is an error (02, T-02: the fault, received minus sent): from -(q - 1) to q - 1, and never 0
unfoldable pub is_error : ℕ → ℤ → Bool
is_error q e = not (is_zero e) && ltb (nat_abs e) q

-- what the components gain, mod q, where the error e is taken out of a symbol
abbrev pub gain_without : Parameters → ℤ → ℕ
gain_without p e = gain_by p (remainder (neg_ℤ e) p.q)

-- the syndromes are near once the components gain g by the symbol at index k of the parity b, 02: of the check sum that disagrees, that of
-- the odd positions (true) or of the even ones (false)
unfoldable pub near_with : Parameters → Bool → ℕ → List ℕ → List ℕ → ℕ → Bool
near_with p b g S S' k = near_syndromes p (moved_of p true b k g S) (moved_of p false b k g S')

-- once the error e is taken out of that symbol
unfoldable pub near_without : Parameters → Bool → ℤ → List ℕ → List ℕ → ℕ → Bool
near_without p b e S S' k = near_with p b (gain_without p e) S S' k

-- the first such index of the parity; their number where there is none
unfoldable pub error_index : Parameters → Bool → ℤ → List ℕ → List ℕ → ℕ
error_index p b e S S' = least (near_without p b e S S') (position_count p b)

-- a position of w, from 1, or none
pub data Location : Type 0 where
  at : ℕ → Location
  nowhere : Location

-- the position of the error
unfoldable pub error_position : Parameters → Bool → ℤ → List ℕ → List ℕ → Location
error_position p b e S S' =
    elim (is_error p.q e && ltb (error_index p b e S S') (position_count p b)) [
      | true ↦ at (index b (error_index p b e S S') + 1)
      | false ↦ nowhere
    ]
