-- `fogzurt::fogzurt_syndrome_decode` meets its contract: the syndrome decoder's, with the report packed.
-- Assumes nothing.
use mathlib.Core.Path.{ap, ◌∙◌}
use lib.ListN.{length}
use Rattle.fogzurt.specs.Packed.{packed}
use Rattle.fogzurt.proofs.Packing.{within_uncounted}
use Rattle.fogzurt.proofs.fogzurt_syndrome_decode.Goals as goal

pub returns : goal.returns
returns c =
    let told = c.syndrome_decode-answer.ensures in
    record { answer = c.pack.ensures ∙ ap packed told.answer; first_out = told.first_out; second_out = told.second_out }

pub pack-requires : goal.pack-requires
pack-requires c =
    let a = c.args in
    rw c.syndrome_decode-answer.ensures.answer
    (within_uncounted a.edition a.profile a.word.now (length a.first.now) (length a.second.now))
