-- `decoder::word::judge` meets its contract: the judgement, as an answer.
-- Assumes nothing.
use mathlib.Core.Path.{◌≡◌, refl, sym, ap, ◌∙◌}
use Rattle.std.specs.Prelude.{Option, Some, None, Result, Ok}
use Rattle.std.proofs.lemmas.Result.{err_from_is_err_and}
use Rattle.profiles.specs.Row.{parameters}
use Rattle.refusals.specs.declared.Refusal.{Refusal}
use Rattle.syndromes.specs.declared.correction.Correction.{Correction}
use Rattle.syndromes.specs.Judgement.{judgement_report}
use Rattle.syndromes.proofs.FourRows.{near_same}
use Rattle.decoder.specs.Totals.{sums_of}
use Rattle.decoder.specs.Steps.{Judged}
use Rattle.decoder.proofs.Answering.{decoded_of, judged_as}
use Rattle.decoder.proofs.word.judge.Goals as goal
use Rattle.decoder.proofs.word.judge.Goals.{After-judge_balanced, Start}

-- once the word is judged
module _ (c : After-judge_balanced) where
  abbrev start : Start
  start = (goal.at.After-judge_balanced c).Start

  told : (j : Result (Option Correction) Refusal) → c.judge_balanced.result ≡ j
      → Judged (parameters start.args.row) (sums_of start.args.row start.args.s) (decoded_of j)
  told j e =
      let (valid, totalled) = start.requires in
      let near = near_same start.args.row valid _ _ totalled.first_rows totalled.second_rows in
      judged_as _ _ _ _ refl refl valid.balanced near j (sym (ap judgement_report e) ∙ c.judge_balanced.ensures)

pub returns-in_err-judged : goal.returns-in_err-judged
returns-in_err-judged c =
    let (y, is, same) = err_from_is_err_and c.from_residual.result c.from_residual.ensures.1 in
    rw (is, same) (told (goal.at.returns-in_err-judged c).After-judge_balanced _ c.in_err-judged.was)

pub returns-in-None : goal.returns-in-None
returns-in-None c =
    told (goal.at.returns-in-None c).After-judge_balanced (Ok None)
    (c.in_ok-judged.was ∙ ap (λ (o : Option Correction). Ok o) c.in-None.is)

pub returns-in-Some : goal.returns-in-Some
returns-in-Some c =
    told (goal.at.returns-in-Some c).After-judge_balanced (Ok (Some c.in-Some.c))
    (c.in_ok-judged.was ∙ ap (λ (o : Option Correction). Ok o) c.in-Some.is)
