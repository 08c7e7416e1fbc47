-- What is claimed of a queue, each claim a named type, all of them fields of one record. proofs/Claims.antt has a term of it.
-- Assumes nothing.
use Rattle.std.specs.Prelude.{◌≡◌, ◌≢◌, ◌↔◌, List, [], ◌∷◌, ◌++◌, ℕ, ◌+◌, ◌≤◌, T, length, get_or}
use Rattle.queue_theory.specs.Lists.{zeros, up_from}
use Rattle.queue_theory.specs.Layout.{body_size, is_queue_length, capacity, next_cell, first_free, cell_body}
use Rattle.queue_theory.specs.Chains.{used, free, records, last_used}
use Rattle.queue_theory.specs.Sound.{record_of, is_record, sound, Queue}
use Rattle.queue_theory.specs.Meaning.{Record, SoundQueue}
use Rattle.queue_theory.specs.Operations.{formatted, enqueued, enqueue_answer, peek_answer, shown_cell, cell_of, dequeued, dequeue_answer}
use Rattle.queue_theory.specs.Operations.{format_queue}
use Rattle.queue_theory.specs.Model.{Call, queue_reply, queue_after, list_reply, list_after, replies, left}

-- Bytes of a body's size pass as a used cell's exactly where they are a record.
abbrev pub RecordLaw : Type 0
RecordLaw = (r : List ℕ) → ((length r ≡ body_size) × T (is_record r)) ↔ Record r

-- Bytes of a queue's length pass as sound exactly where they are what 01 calls sound.
abbrev pub SoundLaw : Type 0
SoundLaw = (s : List ℕ) → T (is_queue_length (length s)) → T (sound s) ↔ SoundQueue s

-- cell i is the same in both, byte for byte
pub record Unchanged (s s' : List ℕ) (i : ℕ) : Type 0 where
  pub next_kept : next_cell s' i ≡ next_cell s i
  pub body_kept : cell_body s' i ≡ cell_body s i

-- Every cell 1 to R is on one of the lists, so their lengths add up to R.
abbrev pub ListsFill : Type 0
ListsFill = (s : List ℕ) → Queue s → length (used s) + length (free s) ≡ capacity s

-- Format (01: lay out).
pub record Formatted (s : List ℕ) : Type 0 where
  pub kept_length : length (formatted s) ≡ length s
  pub queue : Queue (formatted s)
  pub no_used : used (formatted s) ≡ []
  pub all_free : free (formatted s) ≡ up_from 1 (capacity s)
  pub no_records : records (formatted s) ≡ []

abbrev pub FormatLaw : Type 0
FormatLaw = (s : List ℕ) → T (is_queue_length (length s)) → Formatted s

-- Enqueue (01: enter).
pub record Enqueues (s r s' : List ℕ) : Type 0 where
  pub kept_length : length s' ≡ length s
  pub queue : Queue s'
  pub used_after : used s' ≡ used s ++ (first_free s ∷ [])
  pub free_before : free s ≡ first_free s ∷ free s'
  pub records_after : records s' ≡ records s ++ (r ∷ [])
  -- only the new cell, cell 0 and the former last cell change
  pub others : (i : ℕ) → i ≤ capacity s → i ≢ 0 → i ≢ first_free s → i ≢ last_used s → Unchanged s s' i
  -- and of the former last cell only the next cell
  pub last_body : (i : ℕ) → i ≤ capacity s → i ≢ 0 → i ≢ first_free s → cell_body s' i ≡ cell_body s i

abbrev pub EnqueueLaw : Type 0
EnqueueLaw =
    (s : List ℕ) (b p : ℕ) (w : List ℕ) → enqueue_answer s b p w ≡ 0 → let r = record_of b p w in Enqueues s r (enqueued s r)

-- 8 is met only with R records
abbrev pub FullLaw : Type 0
FullLaw = (s : List ℕ) (b p : ℕ) (w : List ℕ) → enqueue_answer s b p w ≡ 8 → length (records s) ≡ capacity s

-- Peek (01: look): record k, counted from 1, and byte 0 as zero.
abbrev pub PeekLaw : Type 0
PeekLaw =
    (s : List ℕ) (k : ℕ) (out : List ℕ) → peek_answer s (k + 1) out ≡ 0 → shown_cell s (cell_of s (k + 1)) ≡ 0 ∷ get_or (records s) k []

-- Dequeue (01: take off).
pub record Dequeues (s s' : List ℕ) : Type 0 where
  pub kept_length : length s' ≡ length s
  pub queue : Queue s'
  pub used_before : used s ≡ next_cell s 0 ∷ used s'
  pub free_after : free s' ≡ next_cell s 0 ∷ free s
  pub records_before : records s ≡ cell_body s (next_cell s 0) ∷ records s'
  -- the cell is zero after byte 0, and the next one that enqueue takes
  pub cleared : cell_body s' (next_cell s 0) ≡ zeros body_size
  pub reused : first_free s' ≡ next_cell s 0
  pub others : (i : ℕ) → i ≤ capacity s → i ≢ 0 → i ≢ next_cell s 0 → Unchanged s s' i

abbrev pub DequeueLaw : Type 0
DequeueLaw = (s out : List ℕ) → dequeue_answer s out ≡ 0 → Dequeues s (dequeued s)

-- THE LIST RULE (01): from format on, any run of calls, refused ones among them, is answered as a first-in first-out list of at most
-- R records answers it, and leaves a sound queue of that list's records.
pub record AnswersAsList (R : ℕ) (s : List ℕ) (l : List (List ℕ)) (calls : List Call) : Type 0 where
  pub replies_same : replies queue_reply queue_after s calls ≡ replies (list_reply R) (list_after R) l calls
  pub queue : Queue (left queue_after s calls)
  pub records_same : records (left queue_after s calls) ≡ left (list_after R) l calls

abbrev pub ListRule : Type 0
ListRule = (s : List ℕ) → T (is_queue_length (length s)) → (calls : List Call) → AnswersAsList (capacity s) (format_queue s) [] calls

-- and so it is from any sound queue on
abbrev pub ListRuleFrom : Type 0
ListRuleFrom = (s : List ℕ) → Queue s → (calls : List Call) → AnswersAsList (capacity s) s (records s) calls

pub record Claims : Type 0 where
  pub record_law : RecordLaw
  pub sound_law : SoundLaw
  pub lists_fill : ListsFill
  pub format_law : FormatLaw
  pub enqueue_law : EnqueueLaw
  pub full_law : FullLaw
  pub peek_law : PeekLaw
  pub dequeue_law : DequeueLaw
  pub list_rule_from : ListRuleFrom
  pub list_rule : ListRule
