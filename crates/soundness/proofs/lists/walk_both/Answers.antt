-- `walk_both` meets its contract: each list, then cell 0's own bytes and the table that both lists have filled.
-- Assumes nothing.
use mathlib.Core.Path.{refl, sym, ap, ◌∙◌}
use mathlib.Core.Bool.{true, ◌&&◌}
use Prim.Native.Nat.{suc, ◌*◌, ◌≤◌}
use native.Mathlib.Omega.{arith}
use lib.Dec.{eqb}
use lib.ListN.{length, get_or}
use Rattle.std.specs.Prelude.{Option, is_some}
use Rattle.std.specs.Bool.{then_some}
use Rattle.modular_theory.specs.Search.{all_below}
use Rattle.queue_theory.specs.Layout.{cell_size, capacity, next_cell, first_free, header}
use Rattle.queue_theory.specs.Sound.{is_header}
use Rattle.queue_theory.proofs.Lists.{size_of}
use Rattle.soundness.specs.declared.lists.Walked.{Walked}
use Rattle.soundness.specs.Walked.{Walks}
use Rattle.soundness.proofs.Tallies.{none_seen, none_seen_lem}
use Rattle.soundness.proofs.Both.{unsound, few_after, checks}
use Rattle.soundness.proofs.lists.walk_both.Goals as goal
use Rattle.soundness.proofs.lists.walk_both.Goals.{After-walk, Start}

long : (c : Start) → 2 * cell_size ≤ length c.args.queue.now
long c = let z = size_of c.args.queue.now c.requires in omega (arith, z.long, z.some)

walked : (c : After-walk) → Walks c.args.queue.now true (next_cell c.args.queue.now 0) c.args.number none_seen c.walk.new.seen c.walk.result
unfolding none_seen
walked c = c.walk.ensures

pub bounds-queue-0 : goal.bounds-queue-0
bounds-queue-0 c = omega (arith, long (goal.at.bounds-queue-0 c).Start)

pub walk-requires : goal.walk-requires
unfolding none_seen
walk-requires c = (c.requires, none_seen_lem)

pub returns-in_err-used : goal.returns-in_err-used
returns-in_err-used c =
    rw c.from_residual.ensures
    (unsound c.args.queue.now c.args.number _ c.walk.new.seen c.walk.result c.requires refl (walked (goal.at.returns-in_err-used c).After-walk)
    c.in_err-used.was)

pub bounds-queue-1 : goal.bounds-queue-1
bounds-queue-1 c = omega (arith, long (goal.at.bounds-queue-1 c).Start)

pub walk-requires-2 : goal.walk-requires-2
walk-requires-2 c =
    let few = few_after c.args.queue.now c.args.number _ c.walk.new.seen c.walk.result c.requires refl
    (walked (goal.at.walk-requires-2 c).After-walk) in
    (c.requires, few c.in_ok-used.used c.in_ok-used.was)

pub returns-in_err-walk : goal.returns-in_err-walk
returns-in_err-walk c =
    let s = c.args.queue.now in
    let v = c.in_ok-used.used in
    let h = is_header (header s) in
    let o = all_below (λ i. eqb (get_or c.walk-2.new.seen (suc i) 0) 1) (capacity s) in
    checks s c.args.number _ c.walk.new.seen c.walk.result c.requires refl (walked (goal.at.returns-in_err-walk c).After-walk) v c.in_ok-used.was
    (first_free s) c.walk-2.new.seen c.walk-2.result _ h o refl c.walk-2.ensures refl refl
    (c.from_residual-in_err-walk.ensures ∙ ap (λ (f : Option Walked). then_some (is_some f && (h && o)) v) (sym c.in_err-walk.was))

pub each_once-requires : goal.each_once-requires
each_once-requires c = let z = size_of c.args.queue.now c.requires in omega (arith, z.few)

pub returns : goal.returns
returns c =
    let s = c.args.queue.now in
    let v = c.in_ok-used.used in
    let h = c.is_header.result in
    let o = c.each_once.result in
    let t = c.walk-2.new.seen in
    checks s c.args.number _ c.walk.new.seen c.walk.result c.requires refl (walked (goal.at.returns c).After-walk) v c.in_ok-used.was
    (first_free s) t c.walk-2.result _ h o refl c.walk-2.ensures c.is_header.ensures
    (c.each_once.ensures ∙ ap (all_below (λ i. eqb (get_or t (suc i) 0) 1)) c.capacity.ensures)
    (c.then_some.ensures ∙ ap (λ (f : Option Walked). then_some (is_some f && (h && o)) v) (sym c.in_ok-walk.was))
