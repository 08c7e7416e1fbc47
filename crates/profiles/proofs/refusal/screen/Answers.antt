-- `profiles::refusal::screen` meets its contract: its tests are those of the definition, in the same order, and a word of levels passes
-- those of the symbols and of the erasures.
-- Assumes nothing.
use Rattle.std.proofs.Common.{sym, ◌∙◌, arith}
use Rattle.profiles.proofs.Screening.{screens_length, screens_symbol, screens_received, screens_levels}
use Rattle.profiles.proofs.refusal.screen.Goals as goal

pub returns-then-not-word-row : goal.returns-then-not-word-row
returns-then-not-word-row c = screens_length _ _ _ _ (c.if-not-word-row.true)

pub returns-then-symbols_below : goal.returns-then-symbols_below
returns-then-symbols_below c =
    let long = c.before.before in
    screens_levels _ _ _ _ (long.if-not-word-row.false) (omega arith) (sym c.symbols_below.ensures ∙ c.if-symbols_below.true)

pub returns-then-not-levels_or_erasures : goal.returns-then-not-levels_or_erasures
returns-then-not-levels_or_erasures c =
    let long = c.before.before.before.before in
    screens_symbol _ _ _ _ (long.if-not-word-row.false) (sym c.levels_or_erasures.ensures ∙ c.if-not-levels_or_erasures.true)

pub returns : goal.returns
returns c =
    let good = c.before in
    let long = good.before.before.before.before in
    c.screen_erasures.ensures
    ∙ screens_received _ _ _ _ (long.if-not-word-row.false)
    (sym good.levels_or_erasures.ensures ∙ good.if-not-levels_or_erasures.false)
