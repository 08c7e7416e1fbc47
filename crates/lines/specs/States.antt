-- What a state stands for, and what a call of step or finish comes to.
-- Assumes nothing.
use Rattle.std.specs.Prelude.{List, ℕ, length}
use Rattle.lines_theory.specs.Feed.{Model, Fed, feed, finishing}
use Rattle.lines.specs.declared.State.{State}

-- what a state stands for, whatever its fields hold
unfoldable pub model_of : State → Model
model_of s = record { line = s.line; pending = s.pending }

-- what a call of step comes to, with a piece of the input and an output, and a call of finish
abbrev pub step_fed : State → List ℕ → List ℕ → Fed
step_fed s input output = feed (model_of s) input (length output)

abbrev pub finish_fed : State → List ℕ → Fed
finish_fed s output = finishing (model_of s) (length output)
