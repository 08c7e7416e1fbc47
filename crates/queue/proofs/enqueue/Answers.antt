-- `enqueue` meets its contract: what is refused leaves the queue, and what is admitted is stored after the last used cell.
-- Assumes nothing.
use mathlib.Core.Path.{◌≡◌, sym, ap, ◌∙◌}
use mathlib.Core.Logic.{◌≢◌}
use mathlib.Core.Bool.{Bool, true, false, not}
use mathlib.Core.List.{List, []}
use Prim.Native.Nat.{ℕ}
use native.Mathlib.Omega.{arith}
use lib.Dec.{eqb}
use borrow.Author.Tests.{eq-eqb, ne_eqb}
use Rattle.modular_theory.proofs.Search.{holds}
use Rattle.code_theory.specs.Refusal.{Test, asks, first_refusal}
use Rattle.code_theory.proofs.Refusal.{past, past_none, stops, refused_first, kept, wrote}
use Rattle.queue_theory.specs.Layout.{first_free}
use Rattle.queue_theory.specs.Sound.{record_of}
use Rattle.queue_theory.specs.Operations.{record_tests, room_tests, enqueue_tests, enqueued, enqueue_answer, enqueue_queue}
use Rattle.queue_theory.proofs.Lists.{size_of}
use Rattle.queue_theory.proofs.Answers.{Entering, on_sound, entering}
use Rattle.soundness.specs.Checked.{checked_report}
use Rattle.std.specs.Prelude.{Result, Err}
use Rattle.refusals.specs.declared.Refusal.{Refusal}
use Rattle.refusals.specs.declared.Refusal.TheVariants.{Full}
use Rattle.refusals.specs.Number.{number_of as number_of_refusal}
use Rattle.refusals.proofs.Claims.{none_is_success}
use Rattle.queue_theory.specs.Allowed.{EnqueueAllows}
use Rattle.queue.specs.Answer.{number_of}
use Rattle.queue.proofs.Checking.{SoundAnswer, told_sound, told_unsound, last_at}
use Rattle.queue.proofs.Told.{handed_on}
use Rattle.queue.proofs.enqueue.Goals as goal
use Rattle.queue.proofs.enqueue.Goals.{Else-full, In_ok-admit, In_ok-used, Start}

abbrev S : Start → List ℕ
S c = c.args.queue.now

abbrev B : Start → ℕ
B c = c.args.boxno

abbrev P : Start → ℕ
P c = c.args.profile

abbrev W : Start → List ℕ
W c = c.args.word.now

abbrev room : Start → Bool
room c = not (eqb (first_free (S c)) 0)

-- the tests after those of the bytes: the record's, and then whether there is room
abbrev of_record : Start → List Test
of_record a = record_tests (B a) (P a) (W a)

abbrev own : Start → List Test
own a = enqueue_tests (room a) (B a) (P a) (W a)

-- what the contract fixes of the answer
abbrev answered : Start → ℕ
answered a = enqueue_answer (S a) (B a) (P a) (W a)

told : (c : In_ok-used) → SoundAnswer c.args.queue.now 255 c.in_ok-used.used.cell c.in_ok-used.used.records
told c =
    told_sound c.args.queue.now 255 c.in_ok-used.used.cell c.in_ok-used.used.records
    (ap checked_report (sym c.in_ok-used.was) ∙ c.check.ensures)

-- a refusal keeps the queue
refused : (s : List ℕ) (b p : ℕ) (w : List ℕ) (a : Result (Unit {0}) Refusal) → number_of a ≢ 0 → number_of a ≡ enqueue_answer s b p w
    → EnqueueAllows s b p w (number_of a) s
unfolding enqueue_queue
refused s b p w a d e = record { answer = e; queue = kept _ _ s (λ z. d (e ∙ z)) }

-- the answer of a sound queue
answer : (c : In_ok-used) → let a = (goal.at.In_ok-used c).Start in first_refusal (own a) ≡ answered a
unfolding enqueue_answer
answer c = let a = (goal.at.In_ok-used c).Start in sym (on_sound (S a) (own a) (told c).queue)

-- the record is right, and so the answer is whether there is room
by_room : (c : In_ok-admit) → let a = (goal.at.In_ok-admit c).Start in first_refusal (room_tests (room a)) ≡ answered a
by_room c =
    let a = (goal.at.In_ok-admit c).Start in
    let done : first_refusal (of_record a) ≡ 0 = sym c.admit.ensures ∙ ap number_of c.in_ok-admit.was in
    sym (past_none (of_record a) (room_tests (room a)) tt done) ∙ answer (goal.at.In_ok-admit c).In_ok-used

entered : (c : Else-full) → answered (goal.at.Else-full c).Start ≡ 0
entered c =
    let p = goal.at.Else-full c in
    let r = room p.Start in
    let there : r ≡ true = rw (ne_eqb (first_free c.args.queue.now) 0 c.if-full.false) in
    sym (by_room p.In_ok-admit) ∙ past (room_tests r) [] (holds r there, tt)

enters : (c : Else-full) → let a = (goal.at.Else-full c).Start in Entering (S a) (B a) (P a) (W a)
enters c = entering _ _ _ _ (entered c)

pub returns-in_err-used : goal.returns-in_err-used
unfolding enqueue_answer
returns-in_err-used c =
    let a = (goal.at.returns-in_err-used c).Start in
    let same = handed_on _ _ c.from_residual.ensures.1 in
    let r = told_unsound (S a) 255 _ (ap checked_report (sym c.in_err-used.was) ∙ c.check.ensures) in
    refused (S a) (B a) (P a) (W a) c.from_residual.result (λ e. r.nonzero (sym same ∙ e)) (same ∙ r.answer (own a))

pub returns-in_err-admit : goal.returns-in_err-admit
returns-in_err-admit c =
    let p = goal.at.returns-in_err-admit c in
    let a = p.Start in
    let r = c.in_err-admit.field-0.0 in
    let of : number_of_refusal r ≡ first_refusal (of_record a) = sym (ap number_of c.in_err-admit.was) ∙ c.admit.ensures in
    let same = handed_on _ _ c.from_residual-in_err-admit.ensures.1 in
    refused (S a) (B a) (P a) (W a) c.from_residual-in_err-admit.result (λ e. none_is_success r (sym same ∙ e))
    (same ∙ of ∙ sym (refused_first (of_record a) (room_tests (room a)) (λ e. none_is_success r (of ∙ e))) ∙ answer p.In_ok-used)

pub bounds-queue-1 : goal.bounds-queue-1
bounds-queue-1 c =
    let z = size_of c.args.queue.now (told (goal.at.bounds-queue-1 c).In_ok-used).queue.size in
    omega (arith, z.long, z.some)

pub returns-then-full : goal.returns-then-full
returns-then-full c =
    let p = goal.at.returns-then-full c in
    let a = p.Start in
    let none : room a ≡ false = rw (eq-eqb (first_free (S a)) 0 c.if-full.true) in
    let number = stops [] (asks (room a) 8) [] tt none in
    refused (S a) (B a) (P a) (W a) (Err Full) (omega arith) (sym number ∙ by_room p.In_ok-admit)

pub store-requires : goal.store-requires
store-requires c =
    let p = goal.at.store-requires c in
    (entered p.Else-full, last_at c.args.queue.now c.in_ok-used.used.cell c.in_ok-used.used.records (told p.In_ok-used))

pub returns : goal.returns
unfolding enqueue_queue
returns c =
    let p = goal.at.returns c in
    let a = p.Start in
    let e = entered p.Else-full in
    record { answer = sym e; queue = c.store.ensures ∙ wrote (answered a) (enqueued (S a) (record_of (B a) (P a) (W a))) (S a) e }
