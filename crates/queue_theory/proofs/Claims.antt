-- Every claim of specs/Claims.antt, proved.
-- Assumes nothing.
use Rattle.queue_theory.specs.Claims.{Claims}
use Rattle.queue_theory.proofs.Meaning.{record_law, sound_law}
use Rattle.queue_theory.proofs.Format.{format_law}
use Rattle.queue_theory.proofs.Laws.{lists_fill, enqueue_law, full_law, peek_law, dequeue_law}
use Rattle.queue_theory.proofs.Rule.{list_rule_from, list_rule}

pub claims : Claims
claims =
    record {
      record_law = record_law;
      sound_law = sound_law;
      lists_fill = lists_fill;
      format_law = format_law;
      enqueue_law = enqueue_law;
      full_law = full_law;
      peek_law = peek_law;
      dequeue_law = dequeue_law;
      list_rule_from = list_rule_from;
      list_rule = list_rule;
    }
