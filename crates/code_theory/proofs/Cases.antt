-- The starred cases, those with erasures, how many positions are tried, words of edition 18, and choices of line rule 2, computed.
-- Assumes nothing.
use mathlib.Core.Path.{refl}
use Rattle.modular_theory.specs.Residue.{minus}
use Rattle.code_theory.specs.Parameters.{balancing_value, delta}
use Rattle.code_theory.specs.Component.{syndrome, in_code, is_check, message, candidate, component}
use Rattle.code_theory.specs.Balance.{chosen, balances, earliest_s, earliest_v, balanced}
use Rattle.code_theory.specs.Codeword.{alpha, beta, with_checks, interleaved, encoded, body, received, near_code}
use Rattle.code_theory.specs.Codeword.{restored, is_balanced, check_sum_agrees, has_checks, near_components}
use Rattle.code_theory.specs.Codeword.{has_components, codeword, carried}
use Rattle.code_theory.specs.RunningSum.{running_digital_sum, peak}
use Rattle.code_theory.specs.LineRule.{choice_peak, peaks_from, all_peak_from, has_least_peak, chosen_s, chosen_v, balanced_by}
use Rattle.code_theory.specs.Erasures.{filling, first_filling}
use Rattle.code_theory.specs.Reading.{mends, changed_at, sent_at, near_reading, reading, filled_reading, received_reading}
use Rattle.code_theory.specs.TriedPositions.{searched, tried_positions}
use Rattle.code_theory.specs.Profiles.{profile}
use Rattle.code_theory.specs.Operations.{decode_answer}
use Rattle.code_theory.specs.Cases.{AllHold, starred, erased, counted, in18, least_peaks13, least_peaks18, no_edition}

pub starred_hold : AllHold 13 starred
unfolding minus balancing_value delta syndrome in_code is_check message candidate component chosen balances earliest_s earliest_v balanced alpha
    beta with_checks interleaved encoded body received near_code restored is_balanced check_sum_agrees has_checks near_components has_components
    codeword carried mends changed_at sent_at near_reading reading received_reading profile decode_answer
starred_hold =
    ((refl, refl, refl, refl), (refl, (refl, (refl, (refl, (refl, ((refl, refl, refl), (refl, (refl, (refl, (refl, tt)))))))))))

pub erased_hold : AllHold 13 erased
unfolding minus balancing_value delta syndrome in_code is_check message alpha beta body received near_code restored is_balanced check_sum_agrees
    has_checks near_components has_components codeword carried filling first_filling filled_reading received_reading profile decode_answer
erased_hold = (refl, (refl, (refl, (refl, (refl, (refl, (refl, (refl, (refl, (refl, tt))))))))))

pub counted_hold : AllHold 13 counted
unfolding minus balancing_value delta syndrome in_code alpha beta body received near_code is_balanced check_sum_agrees has_checks near_components
    has_components codeword mends changed_at sent_at near_reading reading searched tried_positions profile
counted_hold = (refl, (refl, (refl, (refl, (refl, (refl, (refl, (refl, (refl, (refl, (refl, (refl, (refl, tt)))))))))))))

pub in_18_hold : AllHold 18 in18
unfolding minus balancing_value delta syndrome in_code is_check message candidate component chosen balances earliest_s earliest_v balanced alpha
    beta with_checks interleaved encoded body received near_code restored is_balanced check_sum_agrees has_checks near_components has_components
    codeword carried mends changed_at sent_at near_reading reading filling first_filling filled_reading received_reading searched tried_positions
    profile
in_18_hold = (
  (refl, refl, refl, refl),
  (
    (refl, refl, refl, refl),
    (
      (refl, refl, refl, refl),
      (
        (refl, refl, refl),
        (
          (refl, refl, refl),
          (
            (refl, refl, refl),
            (refl, (refl, (refl, tt))),
          ),
        ),
      ),
    ),
  ),
)

pub least_peaks_hold : AllHold 13 least_peaks13 × AllHold 18 least_peaks18
unfolding balancing_value delta syndrome in_code is_check candidate component chosen balances alpha beta with_checks interleaved running_digital_sum
    peak choice_peak peaks_from all_peak_from has_least_peak chosen_s chosen_v balanced_by profile
least_peaks_hold = (
  ((refl, refl, refl, refl), ((refl, refl, refl, refl), ((refl, refl, refl, refl), ((refl, refl, refl, refl), tt)))),
  ((refl, refl, refl, refl), ((refl, refl, refl, refl), ((refl, refl, refl, refl), ((refl, refl, refl, refl), tt)))),
)

pub no_edition_holds : AllHold 12 no_edition × AllHold 0 no_edition
unfolding decode_answer
no_edition_holds = ((refl, (refl, (refl, (refl, tt)))), (refl, (refl, (refl, (refl, tt)))))
