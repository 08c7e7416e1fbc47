-- `encoder::balance::integrated` meets its contract: the sums, each mod q, are the integral.
-- Assumes nothing.
use Rattle.encoder.proofs.Integrating.{integral_is, integral_symbols}
use Rattle.encoder.proofs.balance.integrated.Goals as goal

pub returns : goal.returns
returns c =
    let s = c.requires in
    let w = c.summed-sums.ensures in
    let r = c.remainders.ensures in
    (integral_is s w r, integral_symbols s w r)
