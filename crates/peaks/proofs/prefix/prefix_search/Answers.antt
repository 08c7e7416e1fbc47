-- `peaks::prefix::prefix_search` meets its contract. The invariant: in each lane the sum, the peak and the whole sum are those of the index,
-- and of the indices passed the lowest cost is known.
-- Assumes nothing.
use mathlib.Core.Path.{◌≡◌}
use mathlib.Core.List.{List, []}
use Prim.Native.Nat.{ℕ, ◌+◌, ◌≤◌, ◌<◌}
use lib.ListN.{length, get_or, take}
use Rattle.peaks.specs.Lanes.{LanesAre, raised_lane, taken_off}
use Rattle.peaks.specs.Sums.{tail_lane}
use Rattle.peaks.proofs.Summing.{word_size, word_at}
use Rattle.peaks.proofs.Costing.{taken_below}
use Rattle.peaks.proofs.FromFront.{forward_room, forward_more, forward_all}
use native.Mathlib.Omega.{arith}
use Rattle.peaks.proofs.prefix.prefix_search.Goals as goal
use Rattle.peaks.proofs.prefix.prefix_search.Goals.{In-loop-i, Start}

-- the word that is searched
abbrev word : Start → List ℕ
word c = take c.args.m c.args.d.now

size : (c : Start) → length (word c) ≡ c.args.m
size c = word_size c.requires.0

short : (c : Start) → length (word c) ≤ 97
short c = omega (arith, size c, c.requires.0.room)

-- The turn's symbol, and what the tables and the other pass have for its index.
module _ (c : In-loop-i) where
  abbrev start : Start
  start = (goal.at.In-loop-i c).Start

  abbrev index : ℕ
  index = c.loop-i.i

  -- the symbol, and the same by the word
  abbrev read : ℕ
  read = get_or c.args.d.now index 0

  abbrev symbol : ℕ
  symbol = get_or (word start) index 0

  inside : index < length (word start)
  inside = omega (arith, size start, c.loop-i-test.true)

  below : read < c.args.q
  below = c.requires.0.below index

  symbol-is : read ≡ symbol
  symbol-is = word_at c.requires.0 index c.loop-i-test.true

  row : LanesAre (raised_lane c.args.q 0 1 symbol) (get_or c.args.rows.now read [])
  row = rw (← symbol-is) (c.requires.3.at read (omega (arith, below)))

  row_next : LanesAre (raised_lane c.args.q 0 1 (symbol + 1)) (get_or c.args.rows.now (read + 1) [])
  row_next = rw (← symbol-is) (c.requires.3.at (read + 1) (omega (arith, below)))

  tail : LanesAre (tail_lane c.args.q (word start) index) (get_or c.args.tails.now index [])
  tail = c.requires.4.at index c.loop-i-test.true

  check_below : c.loop-i.k < c.args.q
  check_below = taken_below c.args.q index c.requires.0.some c.loop-i.invariant.1

  check : LanesAre (raised_lane c.args.q c.args.first c.args.step (taken_off c.args.q index))
      (get_or c.raised_rows-checks.result c.loop-i.k [])
  check = rw (← c.loop-i.invariant.1) (c.raised_rows-checks.ensures.at c.loop-i.k (omega (arith, check_below)))

pub step-requires : goal.step-requires
step-requires c =
    let turn = (goal.at.step-requires c).In-loop-i in
    let a = start turn in
    let f = c.loop-i.invariant.0 in
    let p = c.requires.0 in (
      f.sizes,
      rw c.from-symbol.ensures
          (forward_room c.args.q c.args.first c.args.step (word a) p.some p.few (short a) (inside turn) (row turn) (row_next turn) f),
    )

pub loop-i-preserved : goal.loop-i-preserved
loop-i-preserved c =
    let turn = (goal.at.loop-i-preserved c).In-loop-i in
    let a = start turn in
    let f = c.loop-i.invariant.0 in
    let p = c.requires.0 in (
      forward_more c.args.q c.args.first c.args.step (word a) p.some p.few (short a) (inside turn) (row turn) (row_next turn) f
          (tail turn) (check turn) (rw c.from-symbol.ensures at c.step.ensures),
      rw c.from.ensures at c.next_check-k.ensures,
    )

pub returns : goal.returns
returns c =
    let a = (goal.at.returns c).Start in
    let e : c.loop-i.i ≡ c.args.m = omega (arith, c.loop-i-test.false, c.loop-i.auto.i-end) in
    forward_all c.args.q c.args.first c.args.step (word a) (size a) e c.loop-i.invariant.0
