-- The pass from the front.
-- Assumes nothing.
use mathlib.Core.Path.{◌≡◌, refl, sym, ap, ap₂, subst⁻¹, ◌∙◌}
use mathlib.Core.Bool.{Bool, ◌&&◌}
use mathlib.Core.List.{List}
use Prim.Native.Nat.{ℕ, suc, ◌+◌, ◌-◌, ◌*◌, ◌%◌, ◌≤◌, ◌<◌}
use native.Mathlib.Nat.{mod-lt}
use native.Mathlib.Numerals.{add-one}
use native.Mathlib.Omega.{arith}
use lib.Dec.{ltb}
use lib.ListN.{length, get_or, take}
use Rattle.code_theory.specs.Balance.{shifted, shifted_from}
use Rattle.peaks_theory.specs.Costs.{prefix_peak, balanced_at, cost_at}
use Rattle.peaks_theory.specs.Lowest.{lowest_cost, lowest_index, pick}
use Rattle.peaks_theory.proofs.Lowest.{Searched, searched_more, searched_all}
use Rattle.peaks.specs.declared.prefix.Lane.{Lane}
use Rattle.peaks.specs.declared.prefix.LaneArrays.{LaneArrays}
use Rattle.peaks.specs.Lanes.{LanesAre, raised_lane, taken_off}
use Rattle.peaks.specs.Sums.{Summed, tail_lane}
use Rattle.peaks.specs.Steps.{cost_of, better_than, step_lane, lane_at, EightLanes, LaneRoom, LanesHold}
use Rattle.peaks.specs.LeastPeaks.{found}
use Rattle.peaks.proofs.SideBySide.{lanes_list}
use Rattle.peaks.proofs.Stepping.{lane_held}
use Rattle.peaks_theory.proofs.Shift.{length_shifted}
use Rattle.peaks.proofs.Summing.{shifted_at, light_take, light_from, summed_room, summed_more}
use Rattle.peaks.proofs.Summing.{summed_passed, head_more}
use Rattle.peaks.proofs.Tables.{shifted_lane}
use Rattle.peaks.proofs.Costing.{cost_small, cost_lane, balanced_lane}

-- s carries what it should for shift t, up to index i
pub record LaneIs (q first step : ℕ) (w : List ℕ) (i t : ℕ) (s : Lane) : Type 0 where
  pub sum_is : Summed (q - 1) (take i (shifted q t w)) s.sum
  pub head_is : s.head ≡ prefix_peak (q - 1) (shifted q t w) i
  pub total_is : Summed (q - 1) (shifted_from q t i w) s.total
  pub lowest : Searched (balanced_at q w t) (cost_at q first step w t) (length w) i s.cost s.index

-- and so does every lane
pub record Forward (q first step : ℕ) (w : List ℕ) (a : LaneArrays) (i : ℕ) : Type 0 where
  pub sizes : EightLanes a
  pub lanes : (t : ℕ) → t < 8 → LaneIs q first step w i t (lane_at a t)

module _ (q first step : ℕ) (w : List ℕ) where
  -- at the end
  pub forward_all : {m i : ℕ} {a : LaneArrays} → length w ≡ m → i ≡ m → Forward q first step w a i
      → record { costs = a.costs; indices = a.indices } ≡ found q first step w m
  forward_all {m} {i} {a} size e f =
      ap₂ {A = List ℕ} {B = List ℕ} (λ c k. record { costs = c; indices = k })
      (lanes_list (record { size = f.sizes.costs_size; at = λ t h. (all t h).0 }))
      (lanes_list (record { size = f.sizes.indices_size; at = λ t h. (all t h).1 }))
    where
      all : (t : ℕ) → t < 8
          → (get_or a.costs t 0 ≡ lowest_cost (balanced_at q w t) (cost_at q first step w t) m)
          × (get_or a.indices t 0 ≡ lowest_index (balanced_at q w t) (cost_at q first step w t) m)
      all t h = searched_all (balanced_at q w t) (cost_at q first step w t) m (rw (size, e) at (f.lanes t h).lowest)

  -- One symbol more, with what the table has for it.
  module _ (some : 1 ≤ q) (few : q ≤ 8) (short : length w ≤ 97) {i : ℕ} (inside : i < length w) where
    abbrev symbol : ℕ
    symbol = get_or w i 0

    level : (n : ℕ) → 2 * (n % q) ≤ 14
    level n = omega (arith, mod-lt n some)

    module _ {t up next : ℕ} {s : Lane} (a : LaneIs q first step w i t s) (up_is : up ≡ 2 * ((symbol + t) % q))
        (next-is : next ≡ 2 * ((symbol + suc t) % q)) where
      sum_between : (1369 ≤ s.sum) × (s.sum ≤ 2727)
      sum_between = summed_room a.sum_is (omega arith) (light_take some w short t i)

      total_between : (1369 ≤ s.total) × (s.total ≤ 2727)
      total_between = summed_room a.total_is (omega arith) (light_from some w short t i)

      lane_room : LaneRoom s (q - 1) up next
      lane_room =
          record {
            sum_low = omega (arith, sum_between.0);
            sum_high = omega (arith, sum_between.1, level (symbol + t));
            total_low = omega (arith, total_between.0, level (symbol + suc t));
            total_high = omega (arith, total_between.1, level (symbol + t));
          }

      module _ {tail check : ℕ} (tail-is : tail ≡ tail_lane q w i t) (check_is : check ≡ raised_lane q first step (taken_off q i) t) where
        cost : cost_of (q - 1) s.head tail check ≡ cost_at q first step w t i
        cost = cost_lane q first step w t i a.head_is tail-is check_is

        better : better_than s (cost_of (q - 1) s.head tail check) ≡ balanced_at q w t i && ltb (cost_at q first step w t i) s.cost
        better =
            ap₂ (λ (b c : Bool). b && c) (balanced_lane q t i w a.total_is) (ap (λ (c : ℕ). ltb c s.cost) cost)

        sum : Summed (q - 1) (take (suc i) (shifted q t w)) (s.sum + up - (q - 1))
        sum =
            let here : get_or (shifted q t w) i 0 ≡ (symbol + t) % q = shifted_at q t i w inside in
            let e : s.sum + up - (q - 1) ≡ s.sum + 2 * get_or (shifted q t w) i 0 - (q - 1) =
            ap (λ (x : ℕ). s.sum + x - (q - 1)) (up_is ∙ ap (λ (n : ℕ). 2 * n) (sym here)) in
            summed_more (shifted q t w) i (rw (length_shifted q t w) inside) a.sum_is (omega (arith, sum_between.0)) e

        lane_more : LaneIs q first step w (suc i) t (step_lane i s (q - 1) up next tail check)
        lane_more =
            record {
              sum_is = sum;
              head_is = head_more (shifted q t w) i a.head_is sum refl;
              total_is =
                  summed_passed q t i w inside a.total_is (omega (arith, total_between.0, level (symbol + suc t)))
                  (ap₂ (λ (x y : ℕ). s.total + x - y) up_is next-is);
              lowest =
                  searched_more (balanced_at q w t) (cost_at q first step w t) (length w) a.lowest
                  (λ z. cost_small some few first step w short t i) (ap₂ (λ (b : Bool) (c : ℕ). pick b c s.cost) better cost)
                  (ap (λ (b : Bool). pick b i s.index) better);
            }

    module _ {up next : List ℕ} (row : LanesAre (raised_lane q 0 1 symbol) up) (row_next : LanesAre (raised_lane q 0 1 (symbol + 1)) next)
        {s : LaneArrays} (f : Forward q first step w s i) where
      next_at : (t : ℕ) → t < 8 → get_or next t 0 ≡ 2 * ((symbol + suc t) % q)
      next_at t h =
          let e : symbol + 1 + t ≡ symbol + suc t = omega arith in
          shifted_lane q (symbol + 1) row_next t h ∙ ap (λ (n : ℕ). 2 * (n % q)) e

      pub forward_room : (t : ℕ) → t < 8 → LaneRoom (lane_at s t) (q - 1) (get_or up t 0) (get_or next t 0)
      forward_room t h = lane_room (f.lanes t h) (shifted_lane q symbol row t h) (next_at t h)

      pub forward_more : {tails checks : List ℕ} → LanesAre (tail_lane q w i) tails → LanesAre (raised_lane q first step (taken_off q i)) checks
          → {r : LaneArrays}
          → LanesHold
          (λ t. step_lane i (lane_at s t) (q - 1) (get_or up t 0) (get_or next t 0) (get_or tails t 0) (get_or checks t 0)) r
          → Forward q first step w r (i + 1)
      forward_more tail check a =
          rw (add-one i)
          (record {
            sizes =
                record {
                  sums_size = a.sums_are.size;
                  heads_size = a.heads_are.size;
                  totals_size = a.totals_are.size;
                  costs_size = a.costs_are.size;
                  indices_size = a.indices_are.size;
                };
            lanes = λ t h.
                subst⁻¹ (LaneIs q first step w (suc i) t) (lane_held a t h)
                (lane_more (f.lanes t h) (shifted_lane q symbol row t h) (next_at t h) (tail.at t h) (check.at t h));
          })
