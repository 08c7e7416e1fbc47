-- `boxlines::finish`: a call that is not done puts out a whole buffer, and the calls together answer the last line once.
-- Assumes nothing.
use Rattle.std.proofs.Common.{[], length}
use Rattle.lines_theory.proofs.Feed.{still}
use Rattle.lines.specs.States.{model_of}
use Rattle.boxlines.proofs.Answering.{Remains}
use Rattle.boxlines.proofs.finish.Given as goal

abbrev pub invariant-loop-state : goal.invariant-loop-state
invariant-loop-state l = Remains (model_of l.initial.state) (model_of l.state) l.lines

abbrev pub decreases-loop-state : goal.decreases-loop-state
decreases-loop-state l = length (still (model_of l.state) [])
