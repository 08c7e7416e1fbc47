-- The operations on a queue (01: Operations and their numbers), each as a function of the bytes that it is lent and its arguments:
-- the answer, which is 0 or a refusal's number, and each buffer at exit.
-- Assumes nothing.
use Rattle.std.specs.Prelude.{Bool, not, List, [], ◌∷◌, ◌++◌, ℕ, zero, suc, ◌-◌, eqb, length, get_or}
use Rattle.code_theory.specs.Refusal.{Test, asks, first_refusal, on_success}
use Rattle.code_theory.specs.Parameters.{codeword_length}
use Rattle.code_theory.specs.Component.{is_received}
use Rattle.code_theory.specs.Profiles.{is_profile, profile}
use Rattle.queue_theory.specs.Lists.{zeros}
use Rattle.queue_theory.specs.Layout.{cell_size, body_size, is_queue_length, capacity}
use Rattle.queue_theory.specs.Layout.{next_cell, first_free, cell_body, set_next, set_first_free}
use Rattle.queue_theory.specs.Layout.{set_body}
use Rattle.queue_theory.specs.Chains.{used, last_used}
use Rattle.queue_theory.specs.Sound.{is_box, record_of, sound}

-- What is tested, each in 01's order.

-- of the bytes' length, before anything else
abbrev pub length_tests : List ℕ → List Test
length_tests s = asks (is_queue_length (length s)) 5 ∷ []

-- of the bytes, by every operation on a queue
abbrev pub sound_tests : List ℕ → List Test
sound_tests s = length_tests s ++ (asks (sound s) 6 ∷ [])

-- of a record's box, profile and word
abbrev pub record_tests : ℕ → ℕ → List ℕ → List Test
record_tests b p w =
    asks (is_box b) 7
    ∷ asks (is_profile p) 1
    ∷ asks (eqb (length w) (codeword_length (profile p))) 2
    ∷ asks (is_received (profile p) w) 3
    ∷ []

-- whether there is room for it
abbrev pub room_tests : Bool → List Test
room_tests room = asks room 8 ∷ []

-- enqueue's own tests
abbrev pub enqueue_tests : Bool → ℕ → ℕ → List ℕ → List Test
enqueue_tests room b p w = record_tests b p w ++ room_tests room

-- peek's and dequeue's own: of the output, and whether there is such a record
abbrev pub show_tests : Bool → List ℕ → List Test
show_tests found out = asks (eqb (length out) cell_size) 2 ∷ asks found 10 ∷ []

-- 01: lay out

-- cells i, i + 1, .. each linked to the one after it, n of them
abbrev pub linked : List ℕ → ℕ → ℕ → List ℕ
linked s i zero = s
linked s i (suc n) = linked (set_next s i (suc i)) (suc i) n

-- the free list is 1, 2, up to R, and all else is zero
unfoldable pub formatted : List ℕ → List ℕ
formatted s = set_first_free (linked (zeros (length s)) 1 (capacity s - 1)) 1

unfoldable pub format_answer : List ℕ → ℕ
format_answer s = first_refusal (length_tests s)

unfoldable pub format_queue : List ℕ → List ℕ
format_queue s = on_success (format_answer s) (formatted s) s

-- 01: enter

-- the first free cell, with the record r in it, goes to the end of the used list
unfoldable pub enqueued : List ℕ → List ℕ → List ℕ
enqueued s r =
    let c = first_free s in
    set_body (set_next (set_next (set_first_free s (next_cell s c)) c 0) (last_used s) c) c r

unfoldable pub enqueue_answer : List ℕ → ℕ → ℕ → List ℕ → ℕ
enqueue_answer s b p w = first_refusal (sound_tests s ++ enqueue_tests (not (eqb (first_free s) 0)) b p w)

unfoldable pub enqueue_queue : List ℕ → ℕ → ℕ → List ℕ → List ℕ
enqueue_queue s b p w = on_success (enqueue_answer s b p w) (enqueued s (record_of b p w)) s

-- 01: look

-- the cell of record k, counted from 1; 0 where there is no such record
unfoldable pub cell_of : List ℕ → ℕ → ℕ
cell_of s k = get_or (0 ∷ used s) k 0

-- a cell as it is shown, with byte 0 as zero
unfoldable pub shown_cell : List ℕ → ℕ → List ℕ
shown_cell s i = 0 ∷ cell_body s i

unfoldable pub peek_answer : List ℕ → ℕ → List ℕ → ℕ
peek_answer s k out = first_refusal (sound_tests s ++ show_tests (not (eqb (cell_of s k) 0)) out)

unfoldable pub peek_output : List ℕ → ℕ → List ℕ → List ℕ
peek_output s k out = on_success (peek_answer s k out) (shown_cell s (cell_of s k)) out

-- 01: take off

-- the first used cell is zeroed, and goes first on the free list
unfoldable pub dequeued : List ℕ → List ℕ
dequeued s =
    let c = next_cell s 0 in
    set_body (set_first_free (set_next (set_next s 0 (next_cell s c)) c (first_free s)) c) c (zeros body_size)

unfoldable pub dequeue_answer : List ℕ → List ℕ → ℕ
dequeue_answer s out = peek_answer s 1 out

unfoldable pub dequeue_queue : List ℕ → List ℕ → List ℕ
dequeue_queue s out = on_success (dequeue_answer s out) (dequeued s) s

unfoldable pub dequeue_output : List ℕ → List ℕ → List ℕ
dequeue_output s out = peek_output s 1 out
