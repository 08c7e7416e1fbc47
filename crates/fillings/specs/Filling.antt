-- The code's sums, erased symbols and fillings, as the definitions of crate decoding_theory have them, with syndromes of four rows.
-- Assumes nothing.
use Rattle.std.specs.Prelude.{true, false, ℕ, Option, Some, None}
use Rattle.decoding_theory.specs.Decoded.{Sums}
use Rattle.decoding_theory.specs.Filled.{Erased, in_body, as_check, Filling, fills, nothing}
use Rattle.symbols.specs.Syndromes.{rows}
use Rattle.symbols.specs.Weight.{check_of}
use Rattle.fillings.specs.declared.sums.Sums as declared-sums
use Rattle.fillings.specs.declared.sums.Erased as declared-erased
use Rattle.fillings.specs.declared.sums.Erased.TheVariants.{Odd, Even, Alpha, Beta}
use Rattle.fillings.specs.declared.fill.Filling as declared

abbrev pub erased_of : declared-erased.Erased → Erased
erased_of (Odd s) = in_body true (rows s.first) (rows s.second)
erased_of (Even s) = in_body false (rows s.first) (rows s.second)
erased_of Alpha = as_check true
erased_of Beta = as_check false

abbrev pub four_row_sums : declared-sums.Sums → Sums
four_row_sums t =
    record {
      excess = t.excess;
      asked = check_of t.asked;
      arrived = check_of t.arrived;
      first = rows t.syndromes.first;
      second = rows t.syndromes.second;
    }

-- of any number of symbols
abbrev pub filling_of : {N : ℕ} → Option (declared.Filling N) → Filling
filling_of (Some f) = fills f.symbols (rows f.syndromes.first) (rows f.syndromes.second)
filling_of None = nothing
