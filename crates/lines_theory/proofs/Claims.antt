-- Every claim has its proof.
-- Assumes nothing.
use Rattle.lines_theory.specs.Claims.{Claims}
use Rattle.lines_theory.proofs.Whole.{long_line}
use Rattle.lines_theory.proofs.Feed.{feed_stops, feed_fits}
use Rattle.lines_theory.proofs.Cutting.{calls_go_on, any_cutting, finish_fits, finish_stops}
use Rattle.lines_theory.proofs.Examples.{examples_print}
use Rattle.lines_theory.proofs.OneAnswer.{one_answer_each}

pub claims : Claims
claims =
    record {
      calls_go_on = calls_go_on;
      any_cutting = any_cutting;
      feed_stops = feed_stops;
      feed_fits = feed_fits;
      finish_fits = finish_fits;
      finish_stops = finish_stops;
      long_line = long_line;
      one_answer_each = one_answer_each;
      examples_print = examples_print;
    }
