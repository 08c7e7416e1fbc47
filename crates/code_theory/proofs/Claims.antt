-- Every claim of specs/Claims.antt, proved.
-- Assumes nothing.
use Rattle.code_theory.specs.Claims.{Claims}
use Rattle.code_theory.proofs.Choice.{balance_exists}
use Rattle.code_theory.proofs.Pair.{balance_of_pair}
use Rattle.code_theory.proofs.LineRule.{peaks_told, least_peak_exists, least_peak_of_pair_lem, rule_one, rule_numbers}
use Rattle.code_theory.proofs.Component.{one_component}
use Rattle.code_theory.proofs.Encoded.{choice_carries, encoded_carries}
use Rattle.code_theory.proofs.Restored.{one_pair}
use Rattle.code_theory.proofs.Carried.{carried_messages}
use Rattle.code_theory.proofs.Parity.{parity_sums, checks_balanced}
use Rattle.code_theory.proofs.Apart.{apart_by_units, differences_invertible, apart}
use Rattle.code_theory.proofs.Reading.{near_is_one, reading_is, reading_corrects}
use Rattle.code_theory.proofs.Errors.{error_carried, errors_told}
use Rattle.code_theory.proofs.Whole.{received_symbols, whole_reading}
use Rattle.code_theory.proofs.Erased.{erasures_filled, erased_by_filling}
use Rattle.code_theory.proofs.TriedPositions.{counts_told, most_tried}
use Rattle.code_theory.proofs.Profiles.{edition_numbers, profiles_fit}
use Rattle.code_theory.proofs.Cases.{starred_hold, erased_hold, counted_hold, in_18_hold, least_peaks_hold, no_edition_holds}

pub claims : Claims
claims =
    record {
      balance_exists = balance_exists;
      balance_of_pair = balance_of_pair;
      peaks_told = peaks_told;
      least_peak_exists = least_peak_exists;
      least_peak_of_pair_lem = least_peak_of_pair_lem;
      rule_one = rule_one;
      rule_numbers = rule_numbers;
      one_component = one_component;
      choice_carries = choice_carries;
      encoded_carries = encoded_carries;
      one_pair = one_pair;
      carried_messages = carried_messages;
      parity_sums = parity_sums;
      checks_balanced = checks_balanced;
      apart_by_units = apart_by_units;
      differences_invertible = differences_invertible;
      apart = apart;
      near_is_one = near_is_one;
      reading_is = reading_is;
      reading_corrects = reading_corrects;
      error_carried = error_carried;
      errors_told = errors_told;
      received_symbols = received_symbols;
      erasures_filled = erasures_filled;
      whole_reading = whole_reading;
      erased_by_filling = erased_by_filling;
      counts_told = counts_told;
      most_tried = most_tried;
      edition_numbers = edition_numbers;
      profiles_fit = profiles_fit;
      starred_hold = starred_hold;
      erased_hold = erased_hold;
      counted_hold = counted_hold;
      in_18_hold = in_18_hold;
      least_peaks_hold = least_peaks_hold;
      no_edition_holds = no_edition_holds;
    }
