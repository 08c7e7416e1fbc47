-- `answers::form::symbol_values` meets its contract: after i turns the first i bytes are read.
-- Assumes nothing.
use Rattle.std.proofs.Common.{refl, zero-le}
use Rattle.answers.proofs.Forms.{taken_more, taken_all}
use Rattle.answers.proofs.form.symbol_values.Goals as goal

pub loop-i-init : goal.loop-i-init
loop-i-init c = record { within = zero-le; same = refl; low = λ t. zero-le; symbols = λ h. tt; text = λ h. refl }

pub loop-i-preserved : goal.loop-i-preserved
loop-i-preserved c =
    taken_more _ _ _ c.loop-i.invariant c.loop-i-test.true c.requires c.symbol_of-symbol.ensures c.max-highest.ensures

pub returns : goal.returns
returns c = taken_all c.loop-i.invariant c.loop-i-test.false
