-- `encoder::balance::Integral::seed` meets its contract: the sums are the definition's, mod q.
-- Assumes nothing.
use native.Mathlib.Omega.{arith}
use Rattle.encoder.proofs.LeastPeak.{seeded}
use Rattle.encoder.proofs.Searching.{row_size}
use Rattle.encoder.proofs.balance.Integral.seed.Goals as goal

pub returns : goal.returns
returns c =
    let row = c.args.self.now.row in
    let valid = c.args.self.now.valid in
    seeded row valid c.args.self.now.symbols (row_size row valid c.args.self.now.symbols c.args.self.now.levels.size)
    (omega (arith, valid.balanced, valid.length)) c.weigh-weight.ensures c.check_offset.ensures.0 (rw c.from.ensures at c.remainder-first.ensures)
    c.remainder-step.ensures
