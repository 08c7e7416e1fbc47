-- The pass from the end.
-- Assumes nothing.
use mathlib.Core.Path.{◌≡◌, refl, sym, ap, subst, ◌∙◌}
use mathlib.Core.List.{List, [], ◌∷◌}
use Prim.Native.Nat.{ℕ, suc, ◌+◌, ◌-◌, ◌*◌, ◌%◌, ◌≤◌, ◌<◌, max}
use native.Mathlib.Nat.{le_refl, mod-lt}
use native.Mathlib.Omega.{arith}
use native.Mathlib.Decide.{ℕ_discrete}
use lib.ListN.{length, get_or, drop, set, replicate, length-set, get_or-replicate, drop_of_length-le}
use lib.Seq.{drop-cons, get_or-set_same, get_or-set_other}
use Rattle.code_theory.specs.Balance.{shifted}
use Rattle.peaks_theory.specs.Costs.{gap}
use Rattle.peaks.specs.Lanes.{LanesAre, raised_lane}
use Rattle.peaks.specs.Sums.{zero_sum, Summed, SumsAre, tail_lane}
use Rattle.peaks.specs.Steps.{next_sum, next_peak, SumRoom}
use Rattle.peaks.proofs.Tables.{shifted_lane}
use Rattle.peaks_theory.proofs.Shift.{length_shifted}
use Rattle.peaks.proofs.Summing.{shifted_at, light_drop, summed_none, summed_room, summed_cons, tail_more}

-- the sums and the peaks from index i on are in their lanes, and the peaks from there on in the rows
pub record Backward (q : ℕ) (w : List ℕ) (tails : List (List ℕ)) (totals peaks : List ℕ) (i : ℕ) : Type 0 where
  pub sums : SumsAre (q - 1) (λ t. drop i (shifted q (suc t) w)) totals
  pub here : LanesAre (tail_lane q w i) peaks
  pub rows : (k : ℕ) → i ≤ k → k < length w → LanesAre (tail_lane q w k) (get_or tails k [])
  pub size : length tails ≡ 97
  pub upto : i ≤ length w

module _ (q : ℕ) (w : List ℕ) where
  nothing_left : (s : ℕ) → drop (length w) (shifted q s w) ≡ []
  nothing_left s = drop_of_length-le (shifted q s w) {i = length w} (omega (arith, length_shifted q s w))

  pub backward_none : {tails : List (List ℕ)} {i : ℕ} → length tails ≡ 97 → length w ≡ i
      → Backward q w tails (replicate 8 zero_sum) (replicate 8 0) i
  backward_none {tails} size e =
      subst (Backward q w tails (replicate 8 zero_sum) (replicate 8 0)) e
      (record {
        sums =
            record {
              size = refl;
              at = λ t h. rw (nothing_left (suc t), get_or-replicate {A = ℕ} 8 t zero_sum 0 h) (summed_none (q - 1));
            };
        here = record { size = refl; at = λ t h. rw (nothing_left (suc t)) (get_or-replicate {A = ℕ} 8 t 0 0 h) };
        rows = λ k l h. absurd (omega arith);
        size = size;
        upto = le_refl (length w);
      })

  -- a symbol of the word raised by t + 1, as the next row has it
  abbrev raised : ℕ → ℕ → ℕ
  raised k t = (get_or w k 0 + suc t) % q

  module _ {up : List ℕ} {k : ℕ} (inside : k < length w) (row : LanesAre (raised_lane q 0 1 (get_or w k 0 + 1)) up) where
    up_at : (t : ℕ) → t < 8 → get_or up t 0 ≡ 2 * raised k t
    up_at t h =
        let e : get_or w k 0 + 1 + t ≡ get_or w k 0 + suc t = omega arith in
        shifted_lane q (get_or w k 0 + 1) row t h ∙ ap (λ (n : ℕ). 2 * (n % q)) e

    from_here : (t : ℕ) → drop k (shifted q (suc t) w) ≡ raised k t ∷ drop (suc k) (shifted q (suc t) w)
    from_here t =
        drop-cons (shifted q (suc t) w) k 0 (rw (length_shifted q (suc t) w) inside)
        ∙ ap (λ (y : ℕ). y ∷ drop (suc k) (shifted q (suc t) w)) (shifted_at q (suc t) k w inside)

    module _ (some : 1 ≤ q) (few : q ≤ 8) (short : length w ≤ 97) {tails : List (List ℕ)} {totals peaks : List ℕ}
        (b : Backward q w tails totals peaks (suc k)) where
      between : (t : ℕ) → t < 8 → (1369 ≤ get_or totals t 0) × (get_or totals t 0 ≤ 2727)
      between t h = summed_room (b.sums.at t h) (omega arith) (light_drop some w short (suc t) (suc k))

      pub backward_room : SumRoom (q - 1) up totals
      backward_room =
          record {
            low = λ t h. omega (arith, (between t h).0);
            high = λ t h. omega (arith, (between t h).1, up_at t h, mod-lt (get_or w k 0 + suc t) some);
          }

      pub backward_more : {sums highs : List ℕ} → LanesAre (next_sum (q - 1) up totals) sums
          → LanesAre (next_peak (q - 1) up totals peaks) highs → Backward q w (set tails k highs) sums highs k
      backward_more {sums} {highs} s p =
          record {
            sums = record { size = s.size; at = λ t h. rw (from_here t) (sum t h) };
            here = now;
            rows = λ j l h. either j l h (ℕ_discrete j k);
            size = length-set tails k highs ∙ b.size;
            upto = omega arith;
          }
        where
          sum : (t : ℕ) → t < 8 → Summed (q - 1) (raised k t ∷ drop (suc k) (shifted q (suc t) w)) (get_or sums t 0)
          sum t h =
              let e : get_or sums t 0 ≡ get_or totals t 0 + 2 * raised k t - (q - 1) =
              s.at t h ∙ ap (λ (x : ℕ). get_or totals t 0 + x - (q - 1)) (up_at t h) in
              summed_cons (b.sums.at t h) (omega (arith, (between t h).0)) e

          now : LanesAre (tail_lane q w k) highs
          now =
              record {
                size = p.size;
                at = λ t h.
                    let e = p.at t h ∙ ap (λ (x : ℕ). max (get_or peaks t 0) (gap x zero_sum)) (sym (s.at t h)) in
                    rw (from_here t) (tail_more (b.here.at t h) (sum t h) e);
              }

          either : (j : ℕ) → k ≤ j → j < length w → Dec (j ≡ k) → LanesAre (tail_lane q w j) (get_or (set tails k highs) j [])
          either j l h (yes e) = rw (e, get_or-set_same tails k highs [] (omega (arith, b.size))) now
          either j l h (no d) = rw (get_or-set_other tails k j highs [] d) (b.rows j (omega (arith, d)) h)
