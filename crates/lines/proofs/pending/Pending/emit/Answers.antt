-- `lines::pending::Pending::emit` meets its contract: as many bytes are copied as are pending and have room.
-- Assumes nothing.
use Rattle.std.proofs.Common.{◌≡◌, length, take, refl, arith, length-take-le}
use Rattle.lines_theory.specs.Feed.{overwritten}
use Rattle.lines.proofs.pending.Pending.emit.Goals as goal

pub returns-clause-output : goal.returns-clause-output
unfolding overwritten
returns-clause-output c =
    let n = c.min-n.result in
    let count = rw c.bytes-bytes.ensures at c.min-n.ensures in
    let w : length (take n c.args.self.now) ≡ n = length-take-le n c.args.self.now (omega (arith, count)) in
    rw (c.copy_from_slice.ensures.after, c.bytes-bytes.ensures, w) refl
