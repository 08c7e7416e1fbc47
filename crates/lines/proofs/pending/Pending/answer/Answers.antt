-- `lines::pending::Pending::answer` meets its contract: the answer stands at the front of its array.
-- Assumes nothing.
use Rattle.lines.proofs.PendingBytes.{answered}
use Rattle.lines.proofs.pending.Pending.answer.Goals as goal

pub returns : goal.returns
returns c = let w = c.answer-self-inside.ensures in answered _ _ w.length w.bytes
