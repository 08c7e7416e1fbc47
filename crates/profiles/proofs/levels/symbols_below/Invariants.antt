-- `profiles::levels::symbols_below` meets its contract. The invariant: `highest` is the highest of the symbols passed.
-- Assumes nothing.
use Rattle.profiles.proofs.Highest.{Highest}
use Rattle.profiles.proofs.levels.symbols_below.Given as goal

abbrev pub invariant-loop-x : goal.invariant-loop-x
invariant-loop-x l = Highest l.word l.highest l.x-index
