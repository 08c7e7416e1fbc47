-- `peaks::suffix::suffix_peaks` meets its contract. The invariant: the sums and the peaks from the index on are in their lanes and rows.
-- Assumes nothing.
use mathlib.Core.Path.{◌≡◌}
use mathlib.Core.List.{List, []}
use Prim.Native.Nat.{ℕ, suc, ◌+◌, ◌-◌, ◌≤◌, ◌<◌}
use lib.ListN.{length, get_or, take}
use Rattle.peaks.specs.Lanes.{LanesAre, raised_lane}
use Rattle.peaks.proofs.Summing.{word_size, word_at}
use Rattle.peaks.proofs.FromEnd.{Backward, backward_none, backward_room, backward_more}
use native.Mathlib.Omega.{arith}
use Rattle.peaks.proofs.suffix.suffix_peaks.Goals as goal
use Rattle.peaks.proofs.suffix.suffix_peaks.Goals.{In-loop-i, Start}

-- the word that is searched
abbrev word : Start → List ℕ
word c = take c.args.m c.args.d.now

size : (c : Start) → length (word c) ≡ c.args.m
size c = word_size c.requires.0

short : (c : Start) → length (word c) ≤ 97
short c = omega (arith, size c, c.requires.0.room)

-- The turn's symbol, at the index before that of the loop.
module _ (c : In-loop-i) where
  abbrev start : Start
  start = (goal.at.In-loop-i c).Start

  abbrev index : ℕ
  index = c.loop-i.i - 1

  abbrev read : ℕ
  read = get_or c.args.d.now index 0

  inside : index < length (word start)
  inside = omega (arith, c.loop-i.invariant.upto, c.loop-i-test.true)

  below : read < c.args.q
  below = c.requires.0.below index

  known : Backward c.args.q (word start) c.loop-i.tails c.loop-i.totals c.loop-i.peaks (suc index)
  known = let e : c.loop-i.i ≡ suc index = omega (arith, c.loop-i-test.true) in rw e at c.loop-i.invariant

  row : LanesAre (raised_lane c.args.q 0 1 (get_or (word start) index 0 + 1)) (get_or c.args.rows.now (read + 1) [])
  row =
      rw (← word_at c.requires.0 index (omega (arith, inside, size start)))
      (c.requires.1.at (read + 1) (omega (arith, below)))

pub loop-i-init : goal.loop-i-init
loop-i-init c =
    let a = (goal.at.loop-i-init c).Start in
    backward_none c.args.q (word a) c.requires.2 (size a)

pub backward-requires : goal.backward-requires
backward-requires c =
    let turn = (goal.at.backward-requires c).In-loop-i in
    let a = start turn in
    let p = c.requires.0 in (
      c.loop-i.invariant.sums.size,
      c.loop-i.invariant.here.size,
      backward_room c.args.q (word a) (inside turn) (rw c.from.ensures (row turn)) p.some p.few (short a) (known turn),
    )

pub loop-i-preserved : goal.loop-i-preserved
loop-i-preserved c =
    let turn = (goal.at.loop-i-preserved c).In-loop-i in
    let a = start turn in
    let p = c.requires.0 in
    let made = c.backward.ensures in
    backward_more c.args.q (word a) (inside turn) (rw c.from.ensures (row turn)) p.some p.few (short a) (known turn) made.0 made.1
