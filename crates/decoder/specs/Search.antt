-- What the search for a changed symbol goes by, and what correcting one does to the syndromes.
-- Assumes nothing.
use Rattle.std.specs.Prelude.{◌≡◌, Bool, true, false, List, ℕ, ◌%◌, get_or}
use Rattle.code_theory.specs.Parameters.{Parameters}
use Rattle.decoding_theory.specs.Syndromes.{times, moved_of}
use Rattle.decoding_theory.specs.Decoded.{Sums, gain_by, gain}
use Rattle.profiles.specs.declared.row.Row.{Row}
use Rattle.profiles.specs.Row.{parameters}
use Rattle.symbols.specs.declared.sums.Syndromes.{Syndromes}
use Rattle.symbols.specs.Columns.{Columns}
use Rattle.symbols.specs.Syndromes.{rows}
use Rattle.decoder.specs.declared.search.Search.{Search}
use Rattle.decoder.specs.Multiples.{Multiples}
use Rattle.syndromes.specs.Rows.{FourRows, rows_of}
use Rattle.decoder.specs.Parity.{is_odd}
use Rattle.decoder.specs.Totals.{sums_of}

-- the parameters, the sums and the parity, as the definitions of crate decoding_theory have them
abbrev pub parameters_of : Search → Parameters
parameters_of x = parameters x.row

abbrev pub sums_in : Search → Sums
sums_in x = sums_of x.row x.s

abbrev pub parity_of : Search → Bool
parity_of x = is_odd x.parity

-- how often the column comes in, in the first component and in the second, where a symbol of the parity b gains e
pub record FactorsOf (t : Row) (b : Bool) (e f g : ℕ) : Type 0 where
  pub first_is : f ≡ times (parameters t) true b (gain_by (parameters t) e) % t.q
  pub second_is : g ≡ times (parameters t) false b (gain_by (parameters t) e) % t.q

-- the multiples, of each level, by which the first component's syndrome and the second's move where a symbol of the parity b gains e
pub record Moves (t : Row) (b : Bool) (e : ℕ) (byFirst bySecond : List ℕ) : Type 0 where
  pub first_table : Multiples t.q byFirst
  pub second_table : Multiples t.q bySecond
  pub first_by : get_or byFirst 1 0 ≡ times (parameters t) true b (gain_by (parameters t) e) % t.q
  pub second_by : get_or bySecond 1 0 ≡ times (parameters t) false b (gain_by (parameters t) e) % t.q

-- what a position is tried with: all of that, and the row's columns
pub record Tries (x : Search) (columns : List (List ℕ)) (byFirst bySecond : List ℕ) : Type 0 where
  pub table : Columns x.row.q x.row.n columns
  pub moves : Moves x.row (parity_of x) x.s.lack byFirst bySecond

-- the r rows of component c's syndrome, S, once the symbol at index k of the parity is corrected
abbrev pub after : Search → ℕ → Bool → List ℕ → List ℕ
after x k c S = moved_of (parameters_of x) c (parity_of x) k (gain (parameters_of x) (sums_in x)) S

-- y are the syndromes once the symbol at index k of the parity is corrected
pub record After (x : Search) (k : ℕ) (y : Syndromes) : Type 0 where
  pub first_rows : FourRows x.row (rows y.first)
  pub second_rows : FourRows x.row (rows y.second)
  pub first_is : rows_of x.row (rows y.first) ≡ after x k true (sums_in x).first
  pub second_is : rows_of x.row (rows y.second) ≡ after x k false (sums_in x).second
