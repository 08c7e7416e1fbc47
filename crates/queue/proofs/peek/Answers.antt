-- `peek` meets its contract: what is refused leaves the output, and otherwise the cell that the check led to is shown.
-- Assumes nothing.
use mathlib.Core.Path.{◌≡◌, sym, ap, ◌∙◌}
use mathlib.Core.Logic.{◌≢◌}
use mathlib.Core.Bool.{Bool, not, ◌&&◌}
use mathlib.Core.List.{List, [], ◌∷◌}
use Prim.Native.Nat.{ℕ}
use native.Mathlib.Omega.{arith}
use lib.Dec.{eqb, leb, leb→le}
use lib.ListN.{length}
use borrow.Author.Tests.{ne_eqb}
use Rattle.modular_theory.proofs.Search.{eq_test, and_right, holds}
use Rattle.code_theory.specs.Refusal.{Test, asks, first_refusal}
use Rattle.code_theory.proofs.Refusal.{past, stops, kept, wrote}
use Rattle.queue_theory.specs.Operations.{show_tests, cell_of, peek_answer, peek_output}
use Rattle.queue_theory.proofs.Answers.{on_sound, showing}
use Rattle.cells.specs.Cells.{shown_at}
use Rattle.cells.proofs.Cells.{shows}
use Rattle.soundness.specs.Checked.{checked_report}
use Rattle.queue_theory.specs.Layout.{cell_size}
use Rattle.std.specs.Prelude.{Result, Err}
use Rattle.refusals.specs.declared.Refusal.{Refusal}
use Rattle.refusals.specs.declared.Refusal.TheVariants.{Length, NoRecord}
use Rattle.queue_theory.specs.Allowed.{PeekAllows}
use Rattle.queue.specs.Answer.{number_of}
use Rattle.queue.proofs.Checking.{SoundAnswer, told_sound, told_unsound, found_is, found_at}
use Rattle.queue.proofs.Stores.{record_fits}
use Rattle.queue.proofs.Told.{handed_on}
use Rattle.queue.proofs.peek.Goals as goal
use Rattle.queue.proofs.peek.Goals.{In_ok-found, Start, Else-not-number-found}

abbrev S : Start → List ℕ
S c = c.args.queue.now

abbrev K : Start → ℕ
K c = c.args.number

abbrev O : Start → List ℕ
O c = c.args.out.now

-- the tests after those of the bytes
abbrev own : Start → List Test
own a = show_tests (not (eqb (cell_of (S a) (K a)) 0)) (O a)

abbrev length_test : Start → Test
length_test a = asks (eqb (length (O a)) cell_size) 2

-- whether there is such a record
abbrev hit : In_ok-found → Bool
hit c = leb 1 c.args.number && leb c.args.number c.in_ok-found.found.records

told : (c : In_ok-found) → SoundAnswer c.args.queue.now c.args.number c.in_ok-found.found.cell c.in_ok-found.found.records
told c =
    told_sound c.args.queue.now c.args.number c.in_ok-found.found.cell c.in_ok-found.found.records
    (ap checked_report (sym c.in_ok-found.was) ∙ c.check.ensures)

-- a refusal keeps the output
refused : (s : List ℕ) (k : ℕ) (out : List ℕ) (a : Result (Unit {0}) Refusal) → number_of a ≢ 0 → number_of a ≡ peek_answer s k out
    → PeekAllows s k out (number_of a) out
unfolding peek_output
refused s k out a d e = record { answer = e; output = kept _ _ out (λ z. d (e ∙ z)) }

-- the answer of a sound queue, by whether there is such a record
answer : (c : In_ok-found)
    → let a = (goal.at.In_ok-found c).Start in
    first_refusal (show_tests (hit c) (O a)) ≡ peek_answer (S a) (K a) (O a)
unfolding peek_answer
answer c =
    let a = (goal.at.In_ok-found c).Start in
    ap (λ (found : Bool). first_refusal (show_tests found (O a)))
    (found_is (S a) (K a) c.in_ok-found.found.cell c.in_ok-found.found.records (told c))
    ∙ sym (on_sound (S a) (own a) (told c).queue)

-- where a record is there to show
found : (c : Else-not-number-found) → peek_answer c.args.queue.now c.args.number c.args.out.now ≡ 0
found c =
    let t = (goal.at.Else-not-number-found c).In_ok-found in
    sym (answer t)
    ∙ past (show_tests (hit t) c.args.out.now) [] (eq_test c.if-out-ne-CELL_SIZE.false, (holds (hit t) c.if-not-number-found.false, tt))

at_cell : (c : Else-not-number-found) → c.in_ok-found.found.cell ≡ cell_of c.args.queue.now c.args.number
at_cell c =
    let t = (goal.at.Else-not-number-found c).In_ok-found in
    let k = c.args.number in
    let n = c.in_ok-found.found.records in
    found_at c.args.queue.now k c.in_ok-found.found.cell n (told t)
    (leb→le k n (and_right (leb 1 k) (leb k n) (holds (hit t) c.if-not-number-found.false)))

pub returns-in_err-found : goal.returns-in_err-found
unfolding peek_answer
returns-in_err-found c =
    let a = (goal.at.returns-in_err-found c).Start in
    let same = handed_on _ _ c.from_residual.ensures.1 in
    let r = told_unsound (S a) (K a) _ (ap checked_report (sym c.in_err-found.was) ∙ c.check.ensures) in
    refused (S a) (K a) (O a) c.from_residual.result (λ e. r.nonzero (sym same ∙ e)) (same ∙ r.answer (own a))

pub returns-then-out-ne-CELL_SIZE : goal.returns-then-out-ne-CELL_SIZE
returns-then-out-ne-CELL_SIZE c =
    let p = goal.at.returns-then-out-ne-CELL_SIZE c in
    let a = p.Start in
    let number = stops [] (length_test a) (asks (hit p.In_ok-found) 10 ∷ []) tt (ne_eqb _ _ c.if-out-ne-CELL_SIZE.true) in
    refused (S a) (K a) (O a) (Err Length) (omega arith) (sym number ∙ answer p.In_ok-found)

pub returns-then-not-number-found : goal.returns-then-not-number-found
returns-then-not-number-found c =
    let p = goal.at.returns-then-not-number-found c in
    let a = p.Start in
    let number =
    stops (length_test a ∷ []) (asks (hit p.In_ok-found) 10) [] (eq_test c.if-out-ne-CELL_SIZE.false, tt)
    c.if-not-number-found.true in
    refused (S a) (K a) (O a) (Err NoRecord) (omega arith) (sym number ∙ answer p.In_ok-found)

pub returns : goal.returns
unfolding peek_output
returns c =
    let p = goal.at.returns c in
    let a = p.Start in
    let e = found p.Else-not-number-found in
    let h = showing (S a) (K a) (O a) e in
    record {
      answer = sym e;
      output =
          c.show.ensures
          ∙ ap (λ (i : ℕ). shown_at (S a) i (O a)) (at_cell p.Else-not-number-found)
          ∙ shows (S a) (O a) (cell_of (S a) (K a)) (record_fits (S a) h.queue (K a) h.found) h.long
          ∙ wrote _ _ _ e;
    }
