-- `profiles::refusal::encode_refusal` meets its contract: its tests are those of the definition, in the same order.
-- Assumes nothing.
use Rattle.std.proofs.Common.{sym, ◌∙◌}
use Rattle.profiles.proofs.Refusing.{refuses_length, refuses_symbol, tests_others, rule_refused, encode_tests_lem}
use Rattle.profiles.proofs.refusal.encode_refusal.Goals as goal

pub returns-then-not-rule : goal.returns-then-not-rule
returns-then-not-rule c = rule_refused _ _ _ _ _ (c.if-not-rule.true)

pub returns-then-not-first-row : goal.returns-then-not-first-row
returns-then-not-first-row c = refuses_length (encode_tests_lem _ _ _ _ _ (c.if-not-rule.false)) (c.if-not-first-row.true)

pub returns-then-not-symbols_below : goal.returns-then-not-symbols_below
returns-then-not-symbols_below c =
    refuses_symbol (encode_tests_lem _ _ _ _ _ (c.if-not-rule.false)) (c.if-not-first-row.false)
    (rw (sym c.symbols_below.ensures ∙ c.if-not-symbols_below.true))

pub returns-then-not-symbols_below-2 : goal.returns-then-not-symbols_below-2
returns-then-not-symbols_below-2 c =
    refuses_symbol (encode_tests_lem _ _ _ _ _ (c.if-not-rule.false)) (c.if-not-first-row.false)
    (rw (sym c.symbols_below.ensures ∙ c.if-not-symbols_below.false) (sym c.symbols_below-2.ensures ∙ c.if-not-symbols_below-2.true))

pub returns : goal.returns
returns c =
    tests_others (encode_tests_lem _ _ _ _ _ (c.if-not-rule.false)) (c.if-not-first-row.false)
    (rw (sym c.symbols_below.ensures ∙ c.if-not-symbols_below.false) (sym c.symbols_below-2.ensures ∙ c.if-not-symbols_below-2.false))
