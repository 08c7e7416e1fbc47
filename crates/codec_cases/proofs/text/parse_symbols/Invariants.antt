-- `codec_cases::text::parse_symbols` is safe. The invariant: the count is that of the symbols so far.
-- Assumes nothing.
use Rattle.std.proofs.Common.{◌≤◌, length}
use Rattle.codec_cases.proofs.text.parse_symbols.Given as goal

abbrev pub invariant-loop-y : goal.invariant-loop-y
invariant-loop-y l = (goal.iterator-loop-y).can_next l.y-iterator × (l.n ≤ length l.yielded)
