-- `decoder::effect::syndromes_after` meets its contract: each syndrome is moved by its multiples.
-- Assumes nothing.
use mathlib.Core.Path.{◌∙◌}
use Rattle.decoder.proofs.Fitting.{first_moved, second_moved}
use Rattle.decoder.proofs.effect.syndromes_after.Goals as goal

pub returns : goal.returns
returns c =
    let tries = c.requires.0 in
    let first = c.moved.ensures in
    let second = c.moved-2.ensures in
    record {
      first_rows = first.levels;
      second_rows = second.levels;
      first_is = first.are ∙ first_moved tries _ _;
      second_is = second.are ∙ second_moved tries _ _ c.second_column.ensures;
    }
