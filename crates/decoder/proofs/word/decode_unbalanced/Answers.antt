-- `decoder::word::decode_unbalanced` meets its contract: the tests of the definition, in its order, and the first index that fits.
-- Assumes nothing.
use mathlib.Core.Path.{refl, sym, ap, subst}
use Rattle.decoder.specs.Method.{answer_by}
use Rattle.decoder.specs.Changed.{FoundSymbol}
use Rattle.decoder.proofs.Answering.{answers_as, answers_read, read_unreadable, unbalanced_none, unbalanced_one, body_none}
use Rattle.decoder.proofs.word.decode_unbalanced.Goals as goal

pub returns-in_default : goal.returns-in_default
returns-in_default g c =
    let none = unbalanced_none _ _ _ c.wrong_parity.ensures c.in_default.is in
    answers_as (ap (answer_by g.M.Method.count) none) (answers_read (read_unreadable _ _ refl) (sym g.met.M.Method.none))

pub returns-in-Some-found : goal.returns-in-Some-found
returns-in-Some-found g c =
    let one = unbalanced_one _ _ _ c.wrong_parity.ensures c.in-Some.is in
    answers_as (ap (answer_by g.M.Method.count) one) (answers_read c.correct.ensures c.changed_symbol-changed.ensures.tried)

pub returns-in-None : goal.returns-in-None
returns-in-None g c =
    let one = unbalanced_one _ _ _ c.wrong_parity.ensures c.in-Some.is in
    let none = subst (FoundSymbol _ c.args.word.now) c.in-None.is c.changed_symbol-changed.ensures.found in
    answers_as (ap (answer_by g.M.Method.count) one)
    (answers_read (read_unreadable _ _ (body_none _ _ _ _ none)) c.changed_symbol-changed.ensures.tried)
