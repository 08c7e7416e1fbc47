-- `format` meets its contract: the answer is whether the length was a queue's.
-- Assumes nothing.
use mathlib.Core.Path.{sym, ◌∙◌}
use mathlib.Core.List.{[]}
use lib.ListN.{length}
use Rattle.modular_theory.proofs.Search.{holds}
use Rattle.code_theory.specs.Refusal.{asks}
use Rattle.code_theory.proofs.Refusal.{stops}
use Rattle.queue_theory.specs.Layout.{is_queue_length}
use Rattle.queue_theory.specs.Operations.{format_answer}
use Rattle.queue_theory.proofs.Rule.{format_succeeds}
use Rattle.queue.proofs.format.Goals as goal

pub returns-then-not-format_cells : goal.returns-then-not-format_cells
unfolding format_answer
returns-then-not-format_cells c =
    let s = c.args.queue.now in
    record {
      answer = sym (stops [] (asks (is_queue_length (length s)) 5) [] tt
          (sym c.format_cells.ensures.value ∙ c.if-not-format_cells.true));
      queue = c.format_cells.ensures.queue_after;
    }

pub returns : goal.returns
returns c =
    record {
      answer = sym (format_succeeds c.args.queue.now (holds _ (sym c.format_cells.ensures.value ∙ c.if-not-format_cells.false)));
      queue = c.format_cells.ensures.queue_after;
    }
