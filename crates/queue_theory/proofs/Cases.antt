-- Small queues, computed: 01's case of R = 1, and a run on R = 2 that goes round the cells, against the plain list.
-- Assumes nothing.
use mathlib.Core.Path.{◌≡◌, refl}
use mathlib.Core.List.{List, [], ◌∷◌, map}
use Prim.Native.Nat.{ℕ}
use lib.ListN.{replicate}
use Rattle.code_theory.specs.Profiles.{profile}
use Rattle.queue_theory.specs.Lists.{zeros}
use Rattle.queue_theory.specs.Layout.{cell_size, body_size, is_queue_length, capacity}
use Rattle.queue_theory.specs.Chains.{used, free, records, last_used}
use Rattle.queue_theory.specs.Sound.{record_of, is_padded, is_record, is_header, is_cell, is_list, each_once, sound}
use Rattle.queue_theory.specs.Operations.{formatted, format_answer, format_queue, enqueued}
use Rattle.queue_theory.specs.Operations.{enqueue_answer, enqueue_queue, cell_of, shown_cell}
use Rattle.queue_theory.specs.Operations.{peek_answer, peek_output, dequeued, dequeue_answer, dequeue_queue, dequeue_output}
use Rattle.queue_theory.specs.Model.{Call, Reply, enqueue, peek, dequeue, queue_reply, queue_after, list_reply, list_after, replies}

word : List ℕ
word = replicate 19 2

calls : List Call
unfolding word
calls =
    enqueue 40 1 word
    ∷ enqueue 1 1 word
    ∷ peek 1 (zeros cell_size)
    ∷ peek 0 (zeros cell_size)
    ∷ dequeue (zeros cell_size)
    ∷ dequeue (zeros cell_size)
    ∷ enqueue 1 1 word
    ∷ []

answers : map Reply.answer (replies queue_reply queue_after (format_queue (replicate 208 7)) calls) ≡ 0 ∷ 8 ∷ 0 ∷ 10 ∷ 0 ∷ 10 ∷ 0 ∷ []
unfolding word calls profile is_queue_length capacity used free records last_used record_of is_padded is_record is_header
    is_cell is_list each_once sound formatted format_answer format_queue enqueued enqueue_answer enqueue_queue cell_of
    shown_cell peek_answer peek_output dequeued dequeue_answer dequeue_queue dequeue_output
answers = refl

longer_calls : List Call
unfolding word
longer_calls =
    enqueue 2 1 word
    ∷ enqueue 3 1 (replicate 19 1)
    ∷ enqueue 4 1 word
    ∷ dequeue (zeros cell_size)
    ∷ enqueue 41 1 word
    ∷ enqueue 5 2 word
    ∷ enqueue 5 1 (replicate 19 0)
    ∷ peek 2 (zeros cell_size)
    ∷ peek 3 (zeros cell_size)
    ∷ dequeue (zeros body_size)
    ∷ dequeue (zeros cell_size)
    ∷ []

as_list : replies queue_reply queue_after (format_queue (replicate 312 7)) longer_calls ≡ replies (list_reply 2) (list_after 2) [] longer_calls
unfolding word longer_calls profile is_queue_length capacity used free records last_used record_of is_padded is_record is_header
    is_cell is_list each_once sound formatted format_answer format_queue enqueued enqueue_answer enqueue_queue cell_of
    shown_cell peek_answer peek_output dequeued dequeue_answer dequeue_queue dequeue_output
as_list = refl
