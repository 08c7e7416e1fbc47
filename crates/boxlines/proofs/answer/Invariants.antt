-- `boxlines::answer`: each turn but the last puts out a whole buffer, what is still to come gets shorter, and the last leaves nothing pending
-- and nothing to take.
-- Assumes nothing.
use Rattle.std.proofs.Common.{length, drop}
use Rattle.lines_theory.proofs.Feed.{still}
use Rattle.lines.specs.States.{model_of}
use Rattle.boxlines.proofs.Answering.{Sofar}
use Rattle.boxlines.proofs.answer.Given as goal

abbrev pub invariant-loop-state : goal.invariant-loop-state
invariant-loop-state l = Sofar (model_of l.initial.state) l.input l.at (model_of l.state) l.lines

abbrev pub decreases-loop-state : goal.decreases-loop-state
decreases-loop-state l = length (still (model_of l.state) (drop l.at l.input))
