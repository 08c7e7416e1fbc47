-- `format_cells` meets its contract: cleared, linked, and the first free cell is 1.
-- Assumes nothing.
use mathlib.Core.Bool.{true, false}
use mathlib.Core.Path.{◌≡◌, sym, ap, ◌∙◌}
use mathlib.Core.List.{List}
use Prim.Native.Nat.{ℕ, ◌-◌}
use native.Mathlib.Omega.{arith}
use lib.ListN.{length, set}
use Rattle.queue_theory.specs.Lists.{zeros}
use Rattle.queue_theory.specs.Layout.{is_queue_length, capacity}
use Rattle.queue_theory.specs.Operations.{linked, formatted, format_answer, format_queue}
use Rattle.queue_theory.proofs.Lists.{size_of}
use Rattle.queue_theory.proofs.Rule.{same_capacity}
use Rattle.modular_theory.proofs.Search.{holds}
use Rattle.cells.proofs.format_cells.Goals as goal
use Rattle.cells.proofs.format_cells.Goals.{Else-not-is_length}

length_ok : (c : Else-not-is_length) → is_queue_length (length c.args.queue.now) ≡ true
length_ok c = sym c.is_length.ensures ∙ c.if-not-is_length.false

pub returns-then-not-is_length-clause-queue_after : goal.returns-then-not-is_length-clause-queue_after
unfolding format_answer format_queue
returns-then-not-is_length-clause-queue_after c =
    let e : is_queue_length (length c.args.queue.now) ≡ false = sym c.is_length.ensures ∙ c.if-not-is_length.true in
    rw e

pub bounds-queue-1 : goal.bounds-queue-1
bounds-queue-1 c =
    let z = size_of c.args.queue.now (holds _ (length_ok (goal.at.bounds-queue-1 c).Else-not-is_length)) in
    omega (arith, z.long)

pub returns-clause-queue_after : goal.returns-clause-queue_after
unfolding format_answer format_queue formatted
returns-clause-queue_after c =
    let s = c.args.queue.now in
    let cleared = c.fill.new.self in
    let same : c.link.new.queue ≡ linked (zeros (length s)) 1 (capacity s - 1) =
    c.link.ensures
    ∙ ap (λ (n : ℕ). linked cleared 1 (n - 1)) (same_capacity s cleared c.fill.ensures.len)
    ∙ ap (λ (t : List ℕ). linked t 1 (capacity s - 1)) (c.fill.ensures.after (λ y e. e)) in
    rw (length_ok (goal.at.returns-clause-queue_after c).Else-not-is_length) (ap (λ (t : List ℕ). set t 1 1) same)
