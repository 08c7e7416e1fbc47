-- `components::component::filled` meets its contract: each of the check positions is set in turn.
-- Assumes nothing.
use mathlib.Core.Path.{◌≡◌}
use native.Mathlib.Omega.{arith}
use Rattle.components.specs.Checks.{check_symbols}
use Rattle.components.proofs.Setting.{filled_three, filled_four}
use Rattle.components.proofs.component.filled.Goals as goal

pub returns-then-row-gt3 : goal.returns-then-row-gt3
returns-then-row-gt3 c =
    let r : c.args.row.r ≡ 4 = omega (arith, c.if-row-gt3.true, c.requires.0.checks) in
    rw (c.set_pair-then-row-gt3.ensures, c.set_pair-3.ensures, c.set_pair-2.ensures, c.set_pair.ensures, c.from-q.ensures)
    (filled_four c.args.row c.requires.0 (check_symbols c.args.first) (check_symbols c.args.second) c.args.x r)

pub returns-else-row-gt3 : goal.returns-else-row-gt3
returns-else-row-gt3 c =
    let r : c.args.row.r ≡ 3 = omega (arith, c.if-row-gt3.false, c.requires.1) in
    rw (c.set_pair-3.ensures, c.set_pair-2.ensures, c.set_pair.ensures, c.from-q.ensures)
    (filled_three c.args.row c.requires.0 (check_symbols c.args.first) (check_symbols c.args.second) c.args.x r)
