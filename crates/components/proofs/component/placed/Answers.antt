-- `components::component::placed` meets its contract. The invariant: the symbols passed are those of the merged words, and `power` is the
-- next power of q.
-- Assumes nothing.
use mathlib.Core.Path.{◌≡◌, refl, ◌∙◌}
use mathlib.Core.Logic.{◌≢◌}
use Prim.Native.Nat.{ℕ, ◌+◌, ◌-◌, ◌≤◌, ◌<◌}
use native.Mathlib.Omega.{arith}
use Rattle.code_theory.proofs.Component.{message_count}
use Rattle.profiles.specs.Row.{parameters}
use Rattle.components.proofs.Placing.{Pair, pair_none, pair_power, pair_two, pair_inside, pair_message, pair_all}
use Rattle.components.proofs.component.placed.Goals as goal
use Rattle.components.proofs.component.placed.Goals.{Start, Else-position-power, Joined-position-power}

two : (c : Start) → 2 ≤ c.args.row.q
two c = omega (arith, c.requires.0.sized.levels)

-- where both have a next symbol
next-below : (c : Else-position-power) (l : ℕ) → c.loop-position.position ≢ 2 → l ≡ c.args.row.n - c.args.row.r
    → c.loop-position.next < l
next-below c l other e =
    let v = c.requires.0 in
    rw (e ∙ message_count (parameters c.args.row) v.sized)
    (pair_inside (two (goal.at.Else-position-power c).Start) v.levels v.length v.sized.columns c.loop-position.invariant
    c.loop-position-test.true c.if-position-power.false other)

pub loop-position-init : goal.loop-position-init
loop-position-init c = pair_none _ _ _ c.requires.0.length

pub bounds-first-next : goal.bounds-first-next
bounds-first-next c = next-below (goal.at.bounds-first-next c).Else-position-power _ (omega arith) c.requires.1

pub bounds-second-next : goal.bounds-second-next
bounds-second-next c = next-below (goal.at.bounds-second-next c).Else-position-power _ (omega arith) c.requires.2

pub overflow_add-next : goal.overflow_add-next
overflow_add-next c =
    omega (arith, next-below (goal.at.overflow_add-next c).Else-position-power _ (omega arith) refl, c.requires.0.length)

-- the symbols passed once a turn has set its own
passed : (c : Joined-position-power) → Pair (parameters c.args.row) c.args.first.now c.args.second.now c.if-position-power.x
    c.if-position-power.power c.if-position-power.next (c.loop-position.position + 1)
passed c =
    let q = two (goal.at.Joined-position-power c).Start in
    let v = c.requires.0 in
    let p = c.loop-position.invariant in
    let i = c.loop-position-test.true in
    elim c.if-position-power.branch [
      | goal.then-position-power w ↦
          rw (w.x-is, w.power-is, w.next-is, c.from-q.ensures) (pair_power q v.levels v.length v.sized.columns p i w.if-position-power.true)
      | goal.else-position-power+then-position-ne2 w ↦
          rw (w.x-is, w.set_pair.ensures, w.power-is, w.next-is)
          (pair_message q v.levels v.length v.sized.columns p i w.if-position-power.false w.if-position-ne2.true)
      | goal.else-position-power+else-position-ne2 w ↦
          rw (w.x-is, w.power-is, w.next-is)
          (pair_two q v.levels v.length v.sized.columns p i w.if-position-power.false w.if-position-ne2.false)
    ]

pub loop-position-preserved : goal.loop-position-preserved
loop-position-preserved c = passed (goal.at.loop-position-preserved c).Joined-position-power

pub returns-after-position-power : goal.returns-after-position-power
returns-after-position-power c =
    pair_all c.args.row (passed (goal.at.returns-after-position-power c).Joined-position-power) (omega arith)

pub returns : goal.returns
returns c = pair_all c.args.row c.loop-position.invariant c.loop-position-test.false
