-- Every claim of specs/Claims.antt, proved.
-- Assumes nothing.
use mathlib.Core.Path.{refl}
use Rattle.fogzurt.specs.Claims.{HeaderBytes, Claims}
use Rattle.fogzurt.specs.Packed.{packed}
use Rattle.fogzurt.proofs.Packing.{unpacks, syndrome_unpacks, same_bytes}

-- computed
header_bytes : HeaderBytes
unfolding packed
header_bytes =
    record {
      clean_word = refl;
      corrected_high = refl;
      corrected_low = refl;
      one_filled = refl;
      two_filled = refl;
      unreadable_none_tried = refl;
      unreadable_all_tried = refl;
      wrong_symbol = refl;
      many_erasures = refl;
      no_edition_lem = refl;
    }

pub claims : Claims
claims = record { unpacks = unpacks; syndrome_unpacks = syndrome_unpacks; same_bytes = same_bytes; header_bytes = header_bytes }
