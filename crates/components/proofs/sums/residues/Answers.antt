-- `components::sums::residues` meets its contract: levels are their own residues. The invariant: the symbols passed are reduced, and the
-- others are as they were.
-- Assumes nothing.
use Rattle.components.proofs.Reducing.{levels_kept}
use Rattle.components.proofs.sums.residues.Goals as goal

pub returns-then-symbols_below : goal.returns-then-symbols_below
returns-then-symbols_below c = levels_kept _ _ c.symbols_below.ensures c.if-symbols_below.true
