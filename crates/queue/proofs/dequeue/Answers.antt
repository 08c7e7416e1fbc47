-- `dequeue` meets its contract: what `peek` refuses leaves the queue, and otherwise the first cell is released.
-- Assumes nothing.
use mathlib.Core.Path.{◌≡◌, sym, ap, ◌∙◌}
use Rattle.refusals.specs.Number.{number_of as number_of_refusal}
use Rattle.refusals.proofs.Claims.{none_is_success}
use Rattle.code_theory.proofs.Refusal.{kept, wrote}
use Rattle.queue_theory.specs.Operations.{peek_answer, dequeue_answer, dequeue_queue, dequeue_output}
use Rattle.queue_theory.proofs.Answers.{showing}
use Rattle.queue_theory.proofs.Laws.{first_cell}
use Rattle.cells.proofs.Cells.{releases}
use Rattle.queue.specs.Answer.{number_of}
use Rattle.queue.proofs.Told.{handed_on}
use Rattle.queue.proofs.Stores.{first_fits}
use Rattle.queue.proofs.dequeue.Goals as goal

pub returns-in_err-peek : goal.returns-in_err-peek
unfolding dequeue_answer dequeue_queue dequeue_output
returns-in_err-peek c =
    let allowed = c.peek.ensures in
    let e = c.in_err-peek.field-0.0 in
    let was : number_of c.peek.result ≡ number_of_refusal e = ap number_of c.in_err-peek.was in
    let same : number_of c.from_residual.result ≡ number_of c.peek.result = handed_on _ _ c.from_residual.ensures.1 ∙ sym was in
    record {
      answer = same ∙ allowed.answer;
      queue = kept _ _ c.args.queue.now (λ z. none_is_success e (sym was ∙ allowed.answer ∙ z));
      output = allowed.output;
    }

pub returns : goal.returns
unfolding dequeue_answer dequeue_queue dequeue_output
returns c =
    let s = c.args.queue.now in
    let e : peek_answer s 1 c.args.out.now ≡ 0 = sym c.peek.ensures.answer ∙ ap number_of c.in_ok-peek.was in
    let shows = showing _ _ _ e in
    let fits = first_fits s shows.queue (λ z. shows.found (first_cell s shows.queue ∙ z)) in
    record {
      answer = sym e;
      queue = c.release.ensures ∙ releases s fits ∙ wrote _ _ _ e;
      output = c.peek.ensures.output;
    }
