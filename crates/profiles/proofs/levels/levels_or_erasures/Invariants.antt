-- `profiles::levels::levels_or_erasures` meets its contract. The invariant: the symbols passed are levels or erasures where the highest of
-- the numbers after them is at most q.
-- Assumes nothing.
use Rattle.profiles.proofs.Received.{HighestAfter}
use Rattle.profiles.proofs.levels.levels_or_erasures.Given as goal

abbrev pub invariant-loop-x : goal.invariant-loop-x
invariant-loop-x l = HighestAfter l.word l.highest l.x-index
