-- `decoder::method::Trying::changed_symbol` meets its contract: the positions up to the first that fits are those tried, and all where none
-- fits.
-- Assumes nothing.
use mathlib.Core.Path.{subst, ◌∙◌}
use native.Mathlib.Numerals.{add-one}
use Rattle.std.specs.Prelude.{Some, None}
use Rattle.decoding_theory.proofs.TriedPositions.{tried_to_lem, tried_all}
use Rattle.decoder.specs.Locate.{FirstFit}
use Rattle.decoder.proofs.method.TryingMethod.changed_symbol.Goals as goal

pub returns-in-Some : goal.returns-in-Some
returns-in-Some c =
    let fit : FirstFit c.args.search c.args.word.now (Some c.in-Some.k) =
    subst (FirstFit c.args.search c.args.word.now) c.in-Some.is c.locate.ensures in
    record { found = (fit, c.syndromes_after-after.ensures); tried = add-one _ ∙ tried_to_lem _ _ _ _ fit.0 fit.1 }

pub returns-in-None : goal.returns-in-None
returns-in-None c =
    let none : FirstFit c.args.search c.args.word.now None = subst (FirstFit c.args.search c.args.word.now) c.in-None.is c.locate.ensures in
    record { found = none; tried = c.position_count.ensures ∙ tried_all _ _ _ _ none }
