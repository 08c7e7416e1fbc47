-- `decoder::word::admit` meets its contract: the edition is looked up, the row, and then the word is screened.
-- Assumes nothing.
use mathlib.Core.Path.{◌≡◌, subst}
use mathlib.Core.Bool.{true}
use Rattle.std.proofs.lemmas.Result.{err_from_is_err_and}
use Rattle.code_theory.specs.Parameters.{Edition, is_edition, edition_of}
use Rattle.profiles.specs.Row.{RowOf}
use Rattle.profiles.proofs.Editions.{edition_known, edition_is_lem, edition_none}
use Rattle.profiles.proofs.Table.{row_found, none_found}
use Rattle.decoder.proofs.Admitting.{refused_by, admits_no_edition, admits_unprofiled, admits_refused, admits_word}
use Rattle.decoder.proofs.word.admit.Goals as goal
use Rattle.decoder.proofs.word.admit.Goals.{In_ok-edition, In_ok-row, Start}

-- once the edition is known
module _ (c : In_ok-edition) where
  abbrev start : Start
  start = (goal.at.In_ok-edition c).Start

  known : is_edition start.args.edition ≡ true
  known = edition_known _ c.edition_of.ensures c.in_ok-edition.ensures.ok_part

-- and the row
module _ (c : In_ok-row) where
  abbrev edited : In_ok-edition
  edited = (goal.at.In_ok-row c).In_ok-edition

  of : RowOf (edition_of (start edited).args.edition) (start edited).args.profile c.in_ok-row.row
  of =
      subst (λ (o : Edition). RowOf o (start edited).args.profile c.in_ok-row.row)
      (edition_is_lem _ edited.edition_of.ensures edited.in_ok-edition.ensures.ok_part)
      (row_found _ _ c.row_in.ensures c.in_ok-row.ensures.ok_part)

pub returns-in_err-edition : goal.returns-in_err-edition
returns-in_err-edition c =
    let (y, is, same) = err_from_is_err_and c.from_residual.result c.from_residual.ensures.1 in
    let none = c.in_err-edition.ensures.ok_part in
    rw (is, same, refused_by none c.in_err-edition.ensures.value) (admits_no_edition _ _ _ _ _ (edition_none _ c.edition_of.ensures none))

pub returns-in_err-row : goal.returns-in_err-row
returns-in_err-row c =
    let (y, is, same) = err_from_is_err_and c.from_residual-in_err-row.result c.from_residual-in_err-row.ensures.1 in
    let none = c.in_err-row.ensures.ok_part in
    rw (is, same, refused_by none c.in_err-row.ensures.value)
    (admits_unprofiled _ _ _ _ _ (known (goal.at.returns-in_err-row c).In_ok-edition)
    (none_found _ _ c.row_in.ensures none))

pub returns-in_err-erasures : goal.returns-in_err-erasures
returns-in_err-erasures c =
    let (y, is, same) = err_from_is_err_and c.from_residual-in_err-erasures.result c.from_residual-in_err-erasures.ensures.1 in
    let row = (goal.at.returns-in_err-erasures c).In_ok-row in
    rw (is, same) (admits_refused _ _ _ _ _ (known (edited row)) (of row) c.screen.ensures c.in_err-erasures.was)

pub returns : goal.returns
returns c =
    let row = (goal.at.returns c).In_ok-row in
    admits_word _ _ _ _ _ (known (edited row)) (of row) c.screen.ensures c.in_ok-erasures.was
