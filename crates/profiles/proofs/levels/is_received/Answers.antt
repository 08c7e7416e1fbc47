-- `profiles::levels::is_received` meets its contract: levels are received symbols.
-- Assumes nothing.
use Rattle.std.proofs.Common.{sym, ◌∙◌}
use Rattle.modular_theory.proofs.Search.{holds, passes}
use Rattle.code_theory.proofs.Whole.{levels_received}
use Rattle.profiles.proofs.levels.is_received.Goals as goal

pub returns-then-symbols_below : goal.returns-then-symbols_below
returns-then-symbols_below c =
    let a = c.args in
    let below = holds _ (sym c.symbols_below.ensures ∙ c.if-symbols_below.true) in
    c.if-symbols_below.true ∙ sym (passes (levels_received a.q a.word.now below))
