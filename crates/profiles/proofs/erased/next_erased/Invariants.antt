-- `profiles::erased::next_erased` meets its contract. The invariant: the symbols passed are not erased.
-- Assumes nothing.
use Rattle.std.proofs.Common.{◌≡◌}
use Rattle.profiles.specs.Refusal.{erased_from}
use Rattle.profiles.proofs.erased.next_erased.Given as goal

abbrev pub invariant-loop-i : goal.invariant-loop-i
invariant-loop-i l = erased_from l.fn.from l.word ≡ erased_from l.i l.word
