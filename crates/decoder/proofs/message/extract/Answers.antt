-- `decoder::message::extract` meets its contract. The invariant: the symbols before the next power of q are passed. The measure is what the
-- power lacks of n.
-- Assumes nothing.
use native.Mathlib.Omega.{arith}
use Rattle.decoder.proofs.Messaging.{Given, passed_two, run_requires, last_requires, power_grows, power_small}
use Rattle.decoder.proofs.Messaging.{passed_run, passed_all}
use Rattle.decoder.proofs.message.extract.Goals as goal
use Rattle.decoder.proofs.message.extract.Goals.{After-from-q, Start}

-- once q is converted
module _ (c : After-from-q) where
  abbrev start : Start
  start = (goal.at.After-from-q c).Start

  given : Given start.args.row c.from-q.result start.args.x.now start.args.first.now start.args.second.now
  given =
      let (body, outputs) = start.requires in
      record { valid = body.valid; same = c.from-q.ensures; size = body.size; outputs = outputs }

pub loop-power-init : goal.loop-power-init
loop-power-init c = ((start (goal.at.loop-power-init c).After-from-q).requires.0.valid.sized.second, passed_two (given (goal.at.loop-power-init c).After-from-q))

pub overflow_sub-end : goal.overflow_sub-end
overflow_sub-end c = omega (arith, c.loop-power.invariant.1.ahead.some)

pub copy_run-requires : goal.copy_run-requires
copy_run-requires c =
    run_requires (given (goal.at.copy_run-requires c).After-from-q) c.loop-power.invariant.1 c.loop-power-test.true

pub overflow_sub-next : goal.overflow_sub-next
overflow_sub-next c = (run_requires (given (goal.at.overflow_sub-next c).After-from-q) c.loop-power.invariant.1 c.loop-power-test.true).0

pub overflow_add-next : goal.overflow_add-next
overflow_add-next c =
    let (body, outputs) = (start (goal.at.overflow_add-next c).After-from-q).requires in
    let asked = run_requires (given (goal.at.overflow_add-next c).After-from-q) c.loop-power.invariant.1 c.loop-power-test.true in
    omega (arith, asked, c.loop-power.invariant.1.one.size, outputs.first_long, body.valid.length)

pub overflow_mul-power : goal.overflow_mul-power
overflow_mul-power c =
    omega (arith, power_small (given (goal.at.overflow_mul-power c).After-from-q) c.loop-power.invariant.1 c.loop-power-test.true)

pub loop-power-smaller : goal.loop-power-smaller
loop-power-smaller c =
    let taken = c.loop-power-test.true in
    omega (arith, power_grows (given (goal.at.loop-power-smaller c).After-from-q) c.loop-power.invariant.1 taken, taken)

pub loop-power-preserved : goal.loop-power-preserved
loop-power-preserved c =
    let copied = c.copy_run.ensures in
    let taken = c.loop-power-test.true in
    (taken, passed_run (given (goal.at.loop-power-preserved c).After-from-q) c.loop-power.invariant.1 taken copied.first_after copied.second_after)

pub copy_run-requires-2 : goal.copy_run-requires-2
copy_run-requires-2 c =
    last_requires (given (goal.at.copy_run-requires-2 c).After-from-q) c.loop-power.invariant.1 c.loop-power-test.false c.loop-power.invariant.0

pub returns : goal.returns
returns c =
    let copied = c.copy_run-2.ensures in
    passed_all (given (goal.at.returns c).After-from-q) c.loop-power.invariant.1 c.loop-power-test.false c.loop-power.invariant.0 copied.first_after copied.second_after
