-- 01's example, words with question marks, errors of +2 and -2 and short inputs, computed.
-- Assumes nothing.
use mathlib.Core.Path.{refl}
use Rattle.modular_theory.specs.Residue.{minus}
use Rattle.code_theory.specs.Parameters.{balancing_value, delta}
use Rattle.code_theory.specs.Component.{syndrome, in_code, message, is_check}
use Rattle.code_theory.specs.Erasures.{filling, first_filling}
use Rattle.code_theory.specs.Codeword.{alpha, beta, body, received, near_code, restored, is_balanced}
use Rattle.code_theory.specs.Codeword.{check_sum_agrees, has_checks, near_components, has_components, codeword, carried}
use Rattle.code_theory.specs.Reading.{mends, changed_at, sent_at, near_reading, reading, filled_reading, received_reading}
use Rattle.code_theory.specs.Profiles.{profile}
use Rattle.code_theory.specs.Operations.{decode_answer}
use Rattle.lines_theory.specs.Line.{has_form, decimal, refusal_line, reading_line, read_answer, line_answer}
use Rattle.lines_theory.specs.Stream.{stream_output}
use Rattle.lines_theory.specs.Examples.{AllPrint, examples}

pub examples_print : AllPrint examples
unfolding minus balancing_value delta syndrome in_code is_check message alpha beta body received near_code restored is_balanced check_sum_agrees
    has_checks near_components has_components codeword carried mends changed_at sent_at near_reading reading filling first_filling filled_reading
    received_reading profile decode_answer has_form decimal refusal_line reading_line read_answer line_answer stream_output
examples_print = (refl, (refl, (refl, (refl, (refl, (refl, (refl, (refl, (refl, (refl, (refl, (refl, tt))))))))))))
