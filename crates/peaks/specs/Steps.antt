-- What a step does in each lane.
-- Assumes nothing.
use Rattle.std.specs.Prelude.{◌≡◌, Bool, ◌&&◌, List, ℕ, ◌+◌, ◌-◌, ◌≤◌, ◌<◌, max, eqb, ltb, length, get_or}
use Rattle.peaks_theory.specs.Costs.{gap}
use Rattle.peaks_theory.specs.Lowest.{pick}
use Rattle.peaks.specs.declared.prefix.Lane.{Lane}
use Rattle.peaks.specs.declared.prefix.LaneArrays.{LaneArrays}
use Rattle.peaks.specs.Lanes.{LanesAre}
use Rattle.peaks.specs.Sums.{zero_sum}

-- From the end: a sum with one symbol more, of which `up` is twice, and the peak with it.
abbrev pub next_sum : ℕ → List ℕ → List ℕ → ℕ → ℕ
next_sum h up sums t = get_or sums t 0 + get_or up t 0 - h

abbrev pub next_peak : ℕ → List ℕ → List ℕ → List ℕ → ℕ → ℕ
next_peak h up sums peaks t = max (get_or peaks t 0) (gap (next_sum h up sums t) zero_sum)

-- the sums are neither too low nor too high for that
pub record SumRoom (h : ℕ) (up sums : List ℕ) : Type 0 where
  pub low : (t : ℕ) → t < 8 → h ≤ get_or sums t 0 + get_or up t 0
  pub high : (t : ℕ) → t < 8 → get_or sums t 0 + get_or up t 0 < 65536

-- From the front: the largest of the peaks on both sides of an index, and of the check symbol's size, of which `check` is twice.
abbrev pub cost_of : ℕ → ℕ → ℕ → ℕ → ℕ
cost_of h head tail check = max (max head tail) (gap check h)

-- the word is balanced, and its cost is lower than that found before
abbrev pub is_better : ℕ → ℕ → ℕ → Bool
is_better total cost least = eqb total zero_sum && ltb cost least

abbrev pub better_than : Lane → ℕ → Bool
better_than s cost = is_better s.total cost s.cost

-- the lane where the cost of index `here` was looked at, and the index is one more: the symbol there, of which `up` is twice, stands before
-- it, and is raised by 1 less than `next`
abbrev pub step_lane : ℕ → Lane → ℕ → ℕ → ℕ → ℕ → ℕ → Lane
step_lane here s h up next tail check =
    record {
      sum = s.sum + up - h;
      head = max s.head (gap (s.sum + up - h) zero_sum);
      total = s.total + up - next;
      cost = pick (better_than s (cost_of h s.head tail check)) (cost_of h s.head tail check) s.cost;
      index = pick (better_than s (cost_of h s.head tail check)) here s.index;
    }

pub record LaneRoom (s : Lane) (h up next : ℕ) : Type 0 where
  pub sum_low : h ≤ s.sum + up
  pub sum_high : s.sum + up < 65536
  pub total_low : next ≤ s.total + up
  pub total_high : s.total + up < 65536

-- lane t of the arrays
abbrev pub lane_at : LaneArrays → ℕ → Lane
lane_at a t =
    record {
      sum = get_or a.sums t 0;
      head = get_or a.heads t 0;
      total = get_or a.totals t 0;
      cost = get_or a.costs t 0;
      index = get_or a.indices t 0;
    }

-- there are eight
pub record EightLanes (a : LaneArrays) : Type 0 where
  pub sums_size : length a.sums ≡ 8
  pub heads_size : length a.heads ≡ 8
  pub totals_size : length a.totals ≡ 8
  pub costs_size : length a.costs ≡ 8
  pub indices_size : length a.indices ≡ 8

-- they hold the lanes that f gives
pub record LanesHold (f : ℕ → Lane) (a : LaneArrays) : Type 0 where
  pub sums_are : LanesAre (λ t. (f t).sum) a.sums
  pub heads_are : LanesAre (λ t. (f t).head) a.heads
  pub totals_are : LanesAre (λ t. (f t).total) a.totals
  pub costs_are : LanesAre (λ t. (f t).cost) a.costs
  pub indices_are : LanesAre (λ t. (f t).index) a.indices
