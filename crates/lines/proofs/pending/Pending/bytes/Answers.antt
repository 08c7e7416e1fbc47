-- `lines::pending::Pending::bytes` meets its contract: an index past the array, or out of order, means what the nearest one means.
-- Assumes nothing.
use Rattle.std.proofs.Common.{◌∙◌}
use Rattle.std.proofs.lemmas.Slice.{between_is}
use Rattle.lines.proofs.PendingBytes.{clamped}
use Rattle.lines.proofs.pending.Pending.bytes.Goals as goal

pub returns : goal.returns
returns c =
    let p = c.self.inside in
    between_is p.answer _ _ ∙ clamped p.answer p.from p.to c.self.told c.min-to.ensures c.min.ensures ∙ c.self.view_is
