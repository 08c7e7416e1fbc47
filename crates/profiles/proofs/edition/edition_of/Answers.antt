-- `profiles::edition::edition_of` meets its contract: its cases are the tests of the definition.
-- Assumes nothing.
use Rattle.std.proofs.Common.{arith}
use Rattle.profiles.proofs.Editions.{is_13, is_18, is_neither}
use Rattle.profiles.proofs.edition.edition_of.Goals as goal

pub returns-in-13 : goal.returns-in-13
returns-in-13 c = is_13 _ c.in-13.is

pub returns-in-18 : goal.returns-in-18
returns-in-18 c = is_18 _ c.in-18.is

pub returns-in_default : goal.returns-in_default
returns-in_default c = is_neither _ (λ e. omega arith) (λ e. omega arith)
