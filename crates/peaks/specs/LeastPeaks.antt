-- The least peaks of eight shifts, and where they are (02, T-06: line rule 2).
-- Assumes nothing.
use Rattle.std.specs.Prelude.{Bool, true, false, ◌&&◌, List, ℕ, leb, ltb, replicate, take}
use Rattle.code_theory.specs.Component.{symbols_below}
use Rattle.peaks_theory.specs.Costs.{balanced_at, cost_at}
use Rattle.peaks_theory.specs.Lowest.{no_cost, lowest_cost, lowest_index}
use Rattle.peaks.specs.declared.search.LeastPeaks.{LeastPeaks}
use Rattle.peaks.specs.Lanes.{lanes_of}

-- what is searched: eight levels and 97 symbols at most, and all of them levels
unfoldable pub searchable : ℕ → ℕ → ℕ → ℕ → List ℕ → Bool
searchable q m first step d = leb q 8 && leb m 97 && ltb first q && ltb step q && symbols_below q d

-- for each shift t below 8 the least peak of w, and the first index that has it: m where no index balances w
abbrev pub found : ℕ → ℕ → ℕ → List ℕ → ℕ → LeastPeaks
found q first step w m =
    record {
      costs = lanes_of (λ t. lowest_cost (balanced_at q w t) (cost_at q first step w t) m);
      indices = lanes_of (λ t. lowest_index (balanced_at q w t) (cost_at q first step w t) m);
    }

-- of the first m symbols of d; no costs, and zeros for indices, of what is not searched
unfoldable pub least_peaks : ℕ → ℕ → ℕ → ℕ → List ℕ → LeastPeaks
least_peaks q m first step d =
    elim (searchable q m first step d)
    [ true ↦ found q first step (take m d) m | false ↦ record { costs = replicate 8 no_cost; indices = replicate 8 0 } ]
