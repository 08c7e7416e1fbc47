-- The starred cases by the algorithm, computed: what is decoded and, as received words, what is encoded.
-- Assumes nothing.
use mathlib.Core.Path.{◌≡◌, refl}
use mathlib.Core.List.{List, [], ◌∷◌}
use Rattle.modular_theory.specs.Residue.{minus}
use Rattle.code_theory.specs.Parameters.{balancing_value, delta}
use Rattle.code_theory.specs.Component.{syndrome, is_check, message}
use Rattle.code_theory.specs.Codeword.{alpha, beta, body, received}
use Rattle.code_theory.specs.Reading.{read, unreadable, clean}
use Rattle.code_theory.specs.Profiles.{profile}
use Rattle.code_theory.specs.Operations.{answered, report, report_number}
use Rattle.code_theory.specs.Cases.{Case, balancing, encoding, choosing, least_peak_of, least_peak_of_pair, checking, decoding, refusing}
use Rattle.code_theory.specs.Cases.{counting, starred}
use Rattle.decoding_theory.specs.Syndromes.{zero_syndrome, column_position, column_syndrome}
use Rattle.decoding_theory.specs.Syndromes.{near_syndrome, near_syndromes, restored_by, moved, moved_of}
use Rattle.decoding_theory.specs.Decoded.{lack, balancing_symbol, in_range, off_by_lack, near_after, fits, first_fit, read_by, read_fit}
use Rattle.decoding_theory.specs.Decoded.{decoded_body, decoded_check, decoded_balanced, decoded_unbalanced, decoded_by, decoded}
use Rattle.decoding_theory.specs.TriedPositions.{tried_of}

abbrev pub Decodes : Case → Type 0
Decodes (balancing q x s v w sum) = Unit {0}
Decodes (encoding i a b u) = decoded (profile i) u ≡ read clean a b
Decodes (choosing i a b s v u) = decoded (profile i) u ≡ read clean a b
Decodes (least_peak_of q x s v u n) = Unit {0}
Decodes (least_peak_of_pair i a b s v u n) = decoded (profile i) u ≡ read clean a b
Decodes (checking i a c) = Unit {0}
Decodes (decoding i u d) = decoded (profile i) u ≡ d
Decodes (refusing i u n) = report_number (report (answered (decoded (profile i) u) (tried_of (profile i) u))) ≡ n
Decodes (counting i u n) = Unit {0}

abbrev pub AllDecode : List Case → Type 0
AllDecode [] = Unit {0}
AllDecode (c ∷ cs) = Decodes c × AllDecode cs

pub starred_decode : AllDecode starred
unfolding minus balancing_value delta syndrome is_check message alpha beta body received profile zero_syndrome column_position column_syndrome
    near_syndrome near_syndromes restored_by moved moved_of lack balancing_symbol in_range off_by_lack near_after fits first_fit read_by read_fit
    decoded_body decoded_check decoded_balanced decoded_unbalanced decoded_by decoded
starred_decode = (tt, (refl, (refl, (refl, (tt, (tt, (refl, (refl, (refl, (refl, (refl, tt)))))))))))

-- balanced, with right check symbols and a syndrome 0 0 1, which names position 0 and is no column
pub position_zero : decoded (profile 1) (0 ∷ 0 ∷ 2 ∷ 0 ∷ 0 ∷ 1 ∷ 1 ∷ 1 ∷ 2 ∷ 2 ∷ 2 ∷ 1 ∷ 1 ∷ 1 ∷ 0 ∷ 2 ∷ 1 ∷ 0 ∷ 2 ∷ []) ≡ unreadable
unfolding minus balancing_value delta syndrome is_check message alpha beta body received profile zero_syndrome column_position column_syndrome
    near_syndrome near_syndromes decoded_balanced decoded_unbalanced decoded_by decoded
position_zero = refl
