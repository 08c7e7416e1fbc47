-- What the contract of each operation allows, whether it is called from Rattle or from C: of 01's number n of the answer, 0 where it
-- succeeds, and of each buffer at exit, s' for the queue's bytes s, and out' for out.
-- Assumes nothing.
use Rattle.std.specs.Prelude.{◌≡◌, List, ℕ}
use Rattle.queue_theory.specs.Operations.{format_answer, format_queue, enqueue_answer}
use Rattle.queue_theory.specs.Operations.{enqueue_queue, peek_answer, peek_output, dequeue_answer}
use Rattle.queue_theory.specs.Operations.{dequeue_queue, dequeue_output}

pub record FormatAllows (s : List ℕ) (n : ℕ) (s' : List ℕ) : Type 0 where
  pub answer : n ≡ format_answer s
  pub queue : s' ≡ format_queue s

pub record EnqueueAllows (s : List ℕ) (b p : ℕ) (w : List ℕ) (n : ℕ) (s' : List ℕ) : Type 0 where
  pub answer : n ≡ enqueue_answer s b p w
  pub queue : s' ≡ enqueue_queue s b p w

pub record PeekAllows (s : List ℕ) (k : ℕ) (out : List ℕ) (n : ℕ) (out' : List ℕ) : Type 0 where
  pub answer : n ≡ peek_answer s k out
  pub output : out' ≡ peek_output s k out

pub record DequeueAllows (s out : List ℕ) (n : ℕ) (s' out' : List ℕ) : Type 0 where
  pub answer : n ≡ dequeue_answer s out
  pub queue : s' ≡ dequeue_queue s out
  pub output : out' ≡ dequeue_output s out
