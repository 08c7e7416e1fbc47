-- `symbols::sums::syndromes_of` meets its contract. The invariant: both hold the sums of the symbols passed.
-- Assumes nothing.
use mathlib.Core.Bool.{true, false}
use Rattle.symbols.specs.Syndromes.{part}
use Rattle.symbols.proofs.Rows.{Summing}
use Rattle.symbols.proofs.sums.syndromes_of.Given as goal

abbrev pub invariant-loop-i : goal.invariant-loop-i
invariant-loop-i l = Summing l.columns (part true l.i-end l.x) l.i l.first × Summing l.columns (part false l.i-end l.x) l.i l.second
