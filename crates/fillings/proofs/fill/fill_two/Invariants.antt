-- `fillings::fill::fill_two` meets its contract. The invariant: at no level passed can the second be filled.
-- Assumes nothing.
use mathlib.Core.Path.{◌≡◌}
use mathlib.Core.Bool.{false}
use Prim.Native.Nat.{ℕ, ◌<◌}
use Rattle.decoding_theory.specs.Filled.{sums_with, fillable}
use Rattle.symbols.specs.Syndromes.{four_rows}
use Rattle.fillings.specs.Filling.{erased_of, four_row_sums}
use Rattle.fillings.proofs.fill.fill_two.Given as goal

abbrev pub invariant-loop-y : goal.invariant-loop-y
invariant-loop-y l = (j : ℕ) → j < l.y
    → fillable (four_rows l.q l.n) (erased_of l.second) (sums_with (four_rows l.q l.n) (erased_of l.first) j (four_row_sums l.sums)) ≡ false
