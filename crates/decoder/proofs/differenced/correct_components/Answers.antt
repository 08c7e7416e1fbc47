-- `decoder::differenced::correct_components` meets its contract: only the differences of the symbol change.
-- Assumes nothing.
use Rattle.decoder.proofs.Differencing.{components_corrected}
use Rattle.decoder.proofs.differenced.correct_components.Goals as goal

pub returns : goal.returns
returns c =
    let (word, held, level) = c.requires in
    components_corrected _ _ word level held c.is_backward.ensures c.correct_differences.ensures
