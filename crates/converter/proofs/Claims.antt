-- Every claim of specs/Claims.antt, proved.
-- Assumes nothing.
use mathlib.Core.Path.{refl}
use Rattle.converter.specs.Claims.{Claims}
use Rattle.converter.proofs.Refusing.{only_codewords, convert_refuses}
use Rattle.converter.proofs.Converting.{convert_writes, there_and_back, own_word_back, convert_follows}
use Rattle.converter.proofs.Cases.{passed_on_hold, kept_back_hold}

pub claims : Claims
claims =
    record {
      other_edition_lem = (refl, refl);
      convert_writes = convert_writes;
      there_and_back = there_and_back;
      own_word_back = own_word_back;
      convert_follows = convert_follows;
      only_codewords = only_codewords;
      convert_refuses = convert_refuses;
      passed_on_hold = passed_on_hold;
      kept_back_hold = kept_back_hold;
    }
