-- The rows of specs/Cases.antt, computed.
-- Assumes nothing.
use mathlib.Core.Path.{refl}
use Rattle.modular_theory.specs.Residue.{minus}
use Rattle.code_theory.specs.Parameters.{balancing_value, delta}
use Rattle.code_theory.specs.Component.{syndrome, in_code, is_check, message, candidate, component}
use Rattle.code_theory.specs.Balance.{chosen, balances, earliest_s, earliest_v, balanced}
use Rattle.code_theory.specs.Codeword.{alpha, beta, with_checks, interleaved, encoded, body, received, near_code, restored, is_balanced}
use Rattle.code_theory.specs.Codeword.{check_sum_agrees, has_checks, near_components, has_components, codeword, carried}
use Rattle.code_theory.specs.Erasures.{filling, first_filling}
use Rattle.code_theory.specs.Reading.{mends, changed_at, sent_at, near_reading, reading, filled_reading, received_reading}
use Rattle.code_theory.specs.Profiles.{profile}
use Rattle.converter.specs.Conversion.{convert_refusal, converted, convert_output}
use Rattle.converter.specs.Cases.{CasesHold, passed_on, kept_back}

pub passed_on_hold : CasesHold passed_on
unfolding minus balancing_value delta syndrome in_code is_check message candidate component chosen balances earliest_s earliest_v balanced alpha
    beta with_checks interleaved encoded body received near_code restored is_balanced check_sum_agrees has_checks near_components has_components
    codeword carried reading received_reading profile convert_refusal converted convert_output
passed_on_hold = ((refl, refl), ((refl, refl), ((refl, refl), ((refl, refl), ((refl, refl), tt)))))

pub kept_back_hold : CasesHold kept_back
unfolding minus balancing_value delta syndrome in_code alpha beta body received near_code is_balanced check_sum_agrees has_checks near_components
    has_components codeword mends changed_at sent_at near_reading reading filling first_filling filled_reading received_reading profile
    convert_refusal convert_output
kept_back_hold = (
  (refl, refl),
  (
    (refl, refl),
    (
      (refl, refl),
      (
        (refl, refl),
        (
          (refl, refl),
          (
            (refl, refl),
            (
              (refl, refl),
              ((refl, refl), ((refl, refl), ((refl, refl), ((refl, refl), ((refl, refl), ((refl, refl), tt)))))),
            ),
          ),
        ),
      ),
    ),
  ),
)
