-- `decoder::search::Search::near_after` meets its contract: one of two near syndromes is zero.
-- Assumes nothing.
use mathlib.Core.Path.{sym, ◌∙◌}
use Rattle.syndromes.proofs.Pairs.{near_neither}
use Rattle.syndromes.proofs.FourRows.{near_same}
use Rattle.decoder.proofs.Fitting.{first_moved, second_moved, near_after_lem}
use Rattle.decoder.proofs.search.Search.near_after.Goals as goal

pub returns-then-not-moves_to_zero-2 : goal.returns-then-not-moves_to_zero-2
returns-then-not-moves_to_zero-2 c =
    let tries = c.requires.0 in
    let first = sym c.moves_to_zero.ensures ∙ c.if-not-moves_to_zero.true in
    let second = sym c.moves_to_zero-then-not-moves_to_zero.ensures ∙ c.if-not-moves_to_zero-2.true in
    near_after_lem _ _ _ _ (near_neither _ _ _ first second) (first_moved tries _ _) (second_moved tries _ _ c.second_column-b.ensures)

pub returns : goal.returns
returns c =
    let tries = c.requires.0 in
    let first = c.moved-first.ensures in
    let second = c.moved-second.ensures in
    let same = near_same _ c.args.self.valid _ _ first.levels second.levels in
    near_after_lem _ _ _ _ (c.near.ensures ∙ same) (first.are ∙ first_moved tries _ _)
    (second.are ∙ second_moved tries _ _ c.second_column-b.ensures)
