-- `answers::form::symbol_values` meets its contract: after i turns the first i bytes are read.
-- Assumes nothing.
use Rattle.answers.proofs.Forms.{Taken}
use Rattle.answers.proofs.form.symbol_values.Given as goal

abbrev pub invariant-loop-i : goal.invariant-loop-i
invariant-loop-i l = Taken l.bytes l.initial.word l.word l.highest l.i
