-- The parities of the positions, as the definitions of crate decoding_theory have them.
-- Assumes nothing.
use Rattle.std.specs.Prelude.{Bool, true, false}
use Rattle.decoder.specs.declared.parity.Parity.{Parity}
use Rattle.decoder.specs.declared.parity.Parity.TheVariants.{Odd, Even}

abbrev pub is_odd : Parity → Bool
is_odd Odd = true
is_odd Even = false
