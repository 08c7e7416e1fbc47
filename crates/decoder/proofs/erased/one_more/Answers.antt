-- `decoder::erased::one_more` meets its contract: zeros are moved by the column that the symbol meets in each component.
-- Assumes nothing.
use Rattle.decoder.proofs.Erasing.{added_one}
use Rattle.decoder.proofs.erased.one_more.Goals as goal

pub returns : goal.returns
returns c =
    added_one _ c.requires.0 c.args.i _ c.of-parity.ensures c.second_column.ensures c.effect_of-effect.ensures c.moved.ensures c.moved-2.ensures
