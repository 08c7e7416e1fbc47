-- `decoder::multiples::multiples` meets its contract. The invariant: the entries passed are multiples.
-- Assumes nothing.
use Rattle.decoder.proofs.Multiplying.{multiplied_more, multiplied_all}
use Rattle.decoder.proofs.multiples.multiples.Goals as goal

pub loop-i-preserved : goal.loop-i-preserved
loop-i-preserved c =
    let inside = rw c.from-i-end.ensures at c.loop-i-test.true in
    multiplied_more c.loop-i.invariant inside c.requires.2 c.requires.0 c.add.ensures

pub returns : goal.returns
returns c =
    multiplied_all c.loop-i.invariant (rw c.from-i-end.ensures at c.loop-i-test.false) c.requires.0 c.requires.1
