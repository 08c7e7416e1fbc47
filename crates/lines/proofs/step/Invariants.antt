-- `lines::step` meets its contract: the invariant says what is left to do, and each way out leaves nothing.
-- Assumes nothing.
use Rattle.std.proofs.Common.{◌≡◌, ◌-◌, length, take}
use Rattle.lines_theory.specs.Feed.{feed_from, line_ends}
use Rattle.lines.proofs.Stepping.{Turn}
use Rattle.lines.proofs.step.Given as goal

abbrev pub invariant-loop-rest : goal.invariant-loop-rest
invariant-loop-rest l =
    let i = l.initial in
    record {
      turn : Turn (feed_from i.line i.pending l.input (length i.output)) l.input i.output l.line l.pending l.consumed l.produced l.output;
      counted : l.answered ≡ line_ends (take l.consumed l.input);
    }

abbrev pub decreases-loop-rest : goal.decreases-loop-rest
decreases-loop-rest l = length l.input - l.consumed
