-- `check` meets its contract: the length first, and then what the walks found.
-- Assumes nothing.
use mathlib.Core.Path.{◌≡◌, refl, sym, ap, ap₂, ◌∙◌}
use mathlib.Core.Bool.{true}
use mathlib.Core.List.{List}
use Prim.Native.Nat.{ℕ}
use lib.ListN.{length}
use Rattle.std.specs.Prelude.{Option, Some, None}
use Rattle.std.specs.Option.{ok_or}
use Rattle.refusals.specs.declared.Refusal.TheVariants.{Unsound}
use Rattle.queue_theory.specs.Layout.{is_queue_length}
use Rattle.soundness.specs.declared.lists.Walked.{Walked}
use Rattle.soundness.specs.Checked.{checked_report, check_report, check_answer}
use Rattle.soundness.specs.Walked.{WalksBoth}
use Rattle.soundness.proofs.check.Goals as goal
use Rattle.soundness.proofs.check.Goals.{Else-not-is_length}

length_ok : (c : Else-not-is_length) → is_queue_length (length c.args.queue.now) ≡ true
length_ok c = sym c.is_length.ensures ∙ c.if-not-is_length.false

pub returns-then-not-is_length : goal.returns-then-not-is_length
unfolding check_answer
returns-then-not-is_length c = rw (sym c.is_length.ensures ∙ c.if-not-is_length.true)

-- what both walks say of a queue of the right length
report : (s : List ℕ) (k : ℕ) (found : Option Walked) → is_queue_length (length s) ≡ true → WalksBoth s k found
    → checked_report (ok_or found Unsound) ≡ check_answer s k
unfolding check_answer
report s k (Some w) e both = rw (e, sym both.good_is) (ap₂ (check_report 0) (both.cell_is w refl) (both.records_is w refl))
report s k None e both = rw (e, sym both.good_is)

pub returns : goal.returns
returns c =
    ap checked_report c.ok_or.ensures.value
    ∙ report c.args.queue.now c.args.number c.walk_both.result (length_ok (goal.at.returns c).Else-not-is_length) c.walk_both.ensures
