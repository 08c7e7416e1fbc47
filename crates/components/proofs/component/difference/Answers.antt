-- `components::component::difference` meets its contract: q is put on where the difference would be below 0.
-- Assumes nothing.
use native.Mathlib.Nat.{le_of_lt}
use Rattle.modular_theory.proofs.Residue.{minus_low, minus_high}
use Rattle.components.proofs.component.difference.Goals as goal

pub returns-then-a-x : goal.returns-then-a-x
returns-then-a-x c = minus_low (le_of_lt c.requires.1) c.if-a-x.true

pub returns-else-a-x : goal.returns-else-a-x
returns-else-a-x c = minus_high (le_of_lt c.requires.1) c.requires.0 c.if-a-x.false
