-- `decoder::differenced::take_components` meets its contract: the differences in the direction of the edition are the components.
-- Assumes nothing.
use Rattle.decoder.proofs.Differencing.{components_differenced}
use Rattle.decoder.proofs.differenced.take_components.Goals as goal

pub returns : goal.returns
returns c =
    let (word, array) = c.requires in
    components_differenced word array c.is_backward.ensures c.difference_body.ensures
