-- What is claimed of the open functions, each claim a named type, all of them fields of one record. proofs/Claims.antt has a term of it.
-- Assumes nothing.
use Rattle.std.specs.Prelude.{◌≡◌, ◌≢◌, false, List, [], ◌∷◌, ℕ, T, eqb, length, Result}
use Rattle.refusals.specs.declared.Refusal.{Refusal}
use Rattle.code_theory.specs.Parameters.{codeword_length}
use Rattle.code_theory.specs.Component.{is_received}
use Rattle.code_theory.specs.Profiles.{is_profile, profile}
use Rattle.queue_theory.specs.Layout.{cell_size, is_queue_length, capacity, first_free}
use Rattle.queue_theory.specs.Chains.{records}
use Rattle.queue_theory.specs.Sound.{is_box, sound, Queue}
use Rattle.queue_theory.specs.Operations.{cell_of}
use Rattle.queue_theory.specs.Model.{Call, enqueue, peek, dequeue, Reply, reply, list_reply, list_after, replies, left}
use Rattle.queue_theory.specs.Allowed.{FormatAllows, EnqueueAllows, PeekAllows, DequeueAllows}
use Rattle.queue.specs.Answer.{number_of}

-- No two answers have the same number.
abbrev pub NumbersDiffer : Type 0
NumbersDiffer = (a a' : Result (Unit {0}) Refusal) → number_of a ≡ number_of a' → a ≡ a'

-- A run of calls on the bytes s, each answered in a way that its contract allows: the calls, the replies, and the bytes that are left.
pub data Run : List ℕ → List Call → List Reply → List ℕ → Type 0 where
  over : {s : List ℕ} → Run s [] [] s
  enqueues : {s s' t : List ℕ} {b p : ℕ} {w : List ℕ} {n : ℕ} {cs : List Call} {rs : List Reply}
      → EnqueueAllows s b p w n s' → Run s' cs rs t → Run s (enqueue b p w ∷ cs) (reply n [] ∷ rs) t
  peeks : {s t : List ℕ} {k : ℕ} {out out' : List ℕ} {n : ℕ} {cs : List Call} {rs : List Reply}
      → PeekAllows s k out n out' → Run s cs rs t → Run s (peek k out ∷ cs) (reply n out' ∷ rs) t
  dequeues : {s s' t out out' : List ℕ} {n : ℕ} {cs : List Call} {rs : List Reply}
      → DequeueAllows s out n s' out' → Run s' cs rs t → Run s (dequeue out ∷ cs) (reply n out' ∷ rs) t

-- Every sequence of calls has a run.
abbrev pub RunsExist : Type 0
RunsExist = (s : List ℕ) (calls : List Call) → (rs : List Reply) × (t : List ℕ) × Run s calls rs t

-- The answer n of format, the replies and the bytes that are left are those of a list of at most R records that was empty at first.
pub record RanAsList (R : ℕ) (n : ℕ) (calls : List Call) (rs : List Reply) (t : List ℕ) : Type 0 where
  pub formatted : n ≡ 0
  pub replies_same : rs ≡ replies (list_reply R) (list_after R) [] calls
  pub queue : Queue t
  pub records_same : records t ≡ left (list_after R) [] calls

-- THE LIST RULE (01) by the contracts alone: from format on, of any bytes of a queue's length, whatever answers, outputs and bytes the
-- contracts allow are those of a first-in first-out list of at most R records.
abbrev pub ContractsListRule : Type 0
ContractsListRule =
    (before : List ℕ) → T (is_queue_length (length before)) → (n : ℕ) (s : List ℕ) → FormatAllows before n s
    → (calls : List Call) (rs : List Reply) (t : List ℕ) → Run s calls rs t → RanAsList (capacity before) n calls rs t

-- The order of refusals, by the first number that applies; and no refusal changes a byte.
pub record EnqueueRefuses (s : List ℕ) (b p : ℕ) (w : List ℕ) (n : ℕ) (s' : List ℕ) : Type 0 where
  pub by_5 : is_queue_length (length s) ≡ false → n ≡ 5
  pub by_6 : T (is_queue_length (length s)) → sound s ≡ false → n ≡ 6
  pub by_7 : Queue s → is_box b ≡ false → n ≡ 7
  pub by_1 : Queue s → T (is_box b) → is_profile p ≡ false → n ≡ 1
  pub by_2 : Queue s → T (is_box b) → T (is_profile p) → eqb (length w) (codeword_length (profile p)) ≡ false → n ≡ 2
  pub by_3 : Queue s → T (is_box b) → T (is_profile p) → length w ≡ codeword_length (profile p) → is_received (profile p) w ≡ false → n ≡ 3
  pub by_8 : Queue s → T (is_box b) → T (is_profile p) → length w ≡ codeword_length (profile p) → T (is_received (profile p) w)
      → first_free s ≡ 0 → n ≡ 8
  pub keeps : n ≢ 0 → s' ≡ s

pub record ShowRefuses (s : List ℕ) (k : ℕ) (out : List ℕ) (n : ℕ) (out' : List ℕ) : Type 0 where
  pub by_5 : is_queue_length (length s) ≡ false → n ≡ 5
  pub by_6 : T (is_queue_length (length s)) → sound s ≡ false → n ≡ 6
  pub by_2 : Queue s → eqb (length out) cell_size ≡ false → n ≡ 2
  pub by_10 : Queue s → length out ≡ cell_size → cell_of s k ≡ 0 → n ≡ 10
  pub keeps : n ≢ 0 → out' ≡ out

-- of format, of enter, of look, and of take off, which leaves the queue's bytes too
pub record Refusals : Type 0 where
  pub format : (s s' : List ℕ) (n : ℕ) → FormatAllows s n s' → is_queue_length (length s) ≡ false → (n ≡ 5) × (s' ≡ s)
  pub enqueue : (s : List ℕ) (b p : ℕ) (w : List ℕ) (n : ℕ) (s' : List ℕ) → EnqueueAllows s b p w n s' → EnqueueRefuses s b p w n s'
  pub peek : (s : List ℕ) (k : ℕ) (out : List ℕ) (n : ℕ) (out' : List ℕ) → PeekAllows s k out n out' → ShowRefuses s k out n out'
  pub dequeue : (s out : List ℕ) (n : ℕ) (s' out' : List ℕ) → DequeueAllows s out n s' out'
      → ShowRefuses s 1 out n out' × (n ≢ 0 → s' ≡ s)

pub record Claims : Type 0 where
  pub numbers_differ : NumbersDiffer
  pub runs_exist : RunsExist
  pub contracts_list_rule : ContractsListRule
  pub refusals : Refusals
