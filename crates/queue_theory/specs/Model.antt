-- The plain first-in first-out list of at most R records that a queue has to answer as, and runs of calls on either.
-- Assumes nothing.
use Rattle.std.specs.Prelude.{Bool, ◌&&◌, List, [], ◌∷◌, ◌++◌, ℕ, ◌-◌, leb, ltb, length, get_or, drop}
use Rattle.code_theory.specs.Refusal.{first_refusal, on_success}
use Rattle.queue_theory.specs.Sound.{record_of}
use Rattle.queue_theory.specs.Operations.{enqueue_tests, show_tests, enqueue_answer, enqueue_queue, peek_answer, peek_output, dequeue_answer}
use Rattle.queue_theory.specs.Operations.{dequeue_queue, dequeue_output}

-- a call with its arguments: box, profile and word; a record's number and the output's bytes; the output's bytes
pub data Call : Type 0 where
  enqueue : ℕ → ℕ → List ℕ → Call
  peek : ℕ → List ℕ → Call
  dequeue : List ℕ → Call

-- what the caller sees: the answer, and the output at exit where there is one
pub record Reply : Type 0 where
  pub answer : ℕ
  pub output : List ℕ

abbrev pub reply : ℕ → List ℕ → Reply
reply n out = record { answer = n; output = out }

-- a call on a queue's bytes
abbrev pub queue_reply : List ℕ → Call → Reply
queue_reply s (enqueue b p w) = reply (enqueue_answer s b p w) []
queue_reply s (peek k out) = reply (peek_answer s k out) (peek_output s k out)
queue_reply s (dequeue out) = reply (dequeue_answer s out) (dequeue_output s out)

abbrev pub queue_after : List ℕ → Call → List ℕ
queue_after s (enqueue b p w) = enqueue_queue s b p w
queue_after s (peek k out) = s
queue_after s (dequeue out) = dequeue_queue s out

-- a call on a plain list of at most R records

-- record k, counted from 1, with the byte 0 that it is shown with
abbrev pub shown_record : List (List ℕ) → ℕ → List ℕ
shown_record l k = 0 ∷ get_or l (k - 1) []

abbrev pub has_record : List (List ℕ) → ℕ → Bool
has_record l k = leb 1 k && leb k (length l)

abbrev pub show_record : List (List ℕ) → ℕ → List ℕ → Reply
show_record l k out =
    let n = first_refusal (show_tests (has_record l k) out) in
    reply n (on_success n (shown_record l k) out)

abbrev pub list_reply : ℕ → List (List ℕ) → Call → Reply
list_reply R l (enqueue b p w) = reply (first_refusal (enqueue_tests (ltb (length l) R) b p w)) []
list_reply R l (peek k out) = show_record l k out
list_reply R l (dequeue out) = show_record l 1 out

abbrev pub list_after : ℕ → List (List ℕ) → Call → List (List ℕ)
list_after R l (enqueue b p w) = on_success (first_refusal (enqueue_tests (ltb (length l) R) b p w)) (l ++ (record_of b p w ∷ [])) l
list_after R l (peek k out) = l
list_after R l (dequeue out) = on_success (first_refusal (show_tests (has_record l 1) out)) (drop 1 l) l

-- the replies to a run of calls, and what it leaves, from a state
abbrev pub replies : {S : Type 0} → (S → Call → Reply) → (S → Call → S) → S → List Call → List Reply
replies answer after s [] = []
replies answer after s (c ∷ cs) = answer s c ∷ replies answer after (after s c) cs

abbrev pub left : {S : Type 0} → (S → Call → S) → S → List Call → S
left after s [] = s
left after s (c ∷ cs) = left after (after s c) cs
