-- `components::sums::component_sums` meets its contract. The invariant: what is carried, in each row of each component, is below q and
-- equal mod q to the sum of the symbols passed.
-- Assumes nothing.
use mathlib.Core.Path.{◌≡◌}
use mathlib.Core.List.{[]}
use Prim.Native.Nat.{suc, ◌≤◌}
use native.Mathlib.Omega.{arith}
use lib.ListN.{get_or}
use Rattle.modular_theory.specs.Digits.{digits}
use Rattle.symbols.specs.Columns.{Columns}
use Rattle.symbols.proofs.Counting.{columns_right}
use Rattle.components.proofs.Carrying.{column_below, symbols_lanes_below, carrying_more}
use Rattle.components.proofs.Carrying.{first_sums, second_sums}
use Rattle.components.proofs.sums.component_sums.Goals as goal
use Rattle.components.proofs.sums.component_sums.Goals.{Start, After-columns-matrix, In-loop-i}

-- there is a level
some : (c : Start) → 1 ≤ c.args.q
some c = omega (arith, c.requires.0)

-- the columns are those of the positions
right : (c : After-columns-matrix) → Columns c.args.q c.args.n c.columns-matrix.result
right c = columns_right c.columns-matrix.ensures (some (goal.at.After-columns-matrix c).Start) c.requires.2

-- the digits of a turn's column
position : (c : In-loop-i) → get_or c.columns-matrix.result c.loop-i.i [] ≡ digits c.args.q 3 (suc c.loop-i.i)
position c = (right (goal.at.In-loop-i c).After-columns-matrix).at c.loop-i.i (omega arith)

pub accumulate_all-requires : goal.accumulate_all-requires
accumulate_all-requires c =
    let inv = c.loop-i.invariant in
    let is = position (goal.at.accumulate_all-requires c).In-loop-i in (
      c.requires.1,
      inv.size,
      inv.below,
      column_below _ c.requires.0 _ c.column_lanes-column.ensures is,
      symbols_lanes_below _ c.requires.0 _ _ c.symbol_lanes-pair.ensures (c.requires.3 _) (c.requires.3 _),
    )

pub loop-i-preserved : goal.loop-i-preserved
loop-i-preserved c =
    let is = position (goal.at.loop-i-preserved c).In-loop-i in
    carrying_more c.loop-i.invariant (omega arith) c.column_lanes-column.ensures is c.symbol_lanes-pair.ensures c.accumulate_all.ensures

pub returns : goal.returns
returns c =
    let inv = c.loop-i.invariant in
    (first_sums inv (omega arith) c.syndrome_from.ensures, second_sums inv (omega arith) c.syndrome_from-2.ensures)
