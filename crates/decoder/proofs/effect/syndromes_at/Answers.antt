-- `decoder::effect::syndromes_at` meets its contract: each syndrome is moved by its factor.
-- Assumes nothing.
use mathlib.Core.Path.{◌∙◌}
use Rattle.decoder.proofs.Fitting.{first_after, second_after}
use Rattle.decoder.proofs.effect.syndromes_at.Goals as goal

pub factors_of-factors-requires : goal.factors_of-factors-requires
factors_of-factors-requires c = let x = c.args.search in (x.valid, x.totalled.lack_below)

pub plus_column-requires : goal.plus_column-requires
plus_column-requires c = let x = c.args.search in (x.valid, c.requires.0, x.totalled.first_rows)

pub plus_column-requires-2 : goal.plus_column-requires-2
plus_column-requires-2 c = let x = c.args.search in (x.valid, c.requires.0, x.totalled.second_rows)

pub returns : goal.returns
returns c =
    let x = c.args.search in
    let first = c.plus_column.ensures in
    let second = c.plus_column-2.ensures in
    record {
      first_rows = first.levels;
      second_rows = second.levels;
      first_is = first.are ∙ first_after x c.factors_of-factors.ensures _ _;
      second_is = second.are ∙ second_after x c.factors_of-factors.ensures _ _ c.second_column.ensures;
    }
