-- `decoder::erased::find_two` meets its contract: four rows fill the symbols as the definition's rows do.
-- Assumes nothing.
use Rattle.decoder.proofs.Totalling.{row_columns}
use Rattle.decoder.proofs.Filling.{found_two}
use Rattle.decoder.proofs.erased.find_two.Goals as goal
use Rattle.decoder.proofs.erased.find_two.Goals.{After-columns-matrix, Start}

-- the start, where the columns were built
abbrev start : After-columns-matrix → Start
start c = (goal.at.After-columns-matrix c).Start

pub sums_of-s-requires : goal.sums_of-s-requires
sums_of-s-requires c =
    let (word, array, _, _) = (start (goal.at.sums_of-s-requires c).After-columns-matrix).requires in
    (word, row_columns word.valid c.columns-matrix.ensures, array)

pub erased_at-erased-requires : goal.erased_at-erased-requires
erased_at-erased-requires c =
    let (word, _, within, _) = (start (goal.at.erased_at-erased-requires c).After-columns-matrix).requires in
    (word.valid, row_columns word.valid c.columns-matrix.ensures, within)

pub erased_at-other-requires : goal.erased_at-other-requires
erased_at-other-requires c =
    let (word, _, _, other) = (start (goal.at.erased_at-other-requires c).After-columns-matrix).requires in
    (word.valid, row_columns word.valid c.columns-matrix.ensures, other)

pub sums_in-requires : goal.sums_in-requires
sums_in-requires c = c.sums_of-s.ensures.totalled

pub returns : goal.returns
returns c =
    let begun = start (goal.at.returns c).After-columns-matrix in
    let valid = begun.requires.0.valid in
    let u = begun.args.word.now in
    record {
      held = c.sums_of-s.ensures.held;
      filling =
          found_two _ valid u c.sums_in.ensures c.sums_of-s.ensures.are _ _
          c.erased_at-erased.ensures c.erased_at-other.ensures c.fill_two.ensures;
    }
