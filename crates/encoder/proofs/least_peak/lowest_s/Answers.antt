-- `encoder::least_peak::lowest_s` meets its contract. The invariant: of the s passed, `lowest` is the first with the least cost.
-- Assumes nothing.
use mathlib.Core.Path.{◌≡◌, ap, subst, ◌∙◌}
use Prim.Native.Nat.{ℕ, ◌<◌}
use native.Mathlib.Omega.{arith}
use lib.Dec.{ltb}
use lib.ListN.{get_or}
use Rattle.code_theory.proofs.Walk.{shift_below}
use Rattle.profiles.specs.Row.{parameters}
use Rattle.peaks_theory.specs.Lowest.{no_cost}
use Rattle.peaks_theory.proofs.Lowest.{Searched, searched_all}
use Rattle.encoder.specs.Symbols.{shift_cost, lowest_s}
use Rattle.encoder.proofs.LeastPeak.{q_some, lowest_taken, lowest_kept}
use Rattle.encoder.proofs.least_peak.lowest_s.Goals as goal
use Rattle.encoder.proofs.least_peak.lowest_s.Goals.{After-shift_of, then-cost-least, else-cost-least}

-- the shift of s is one of the lanes
lane : (c : After-shift_of) → c.shift_of.result < 8
lane c =
    let row = c.args.row in
    omega (arith, c.shift_of.ensures, shift_below (parameters row) (q_some row c.requires.0) _ c.loop-s-test.true, c.requires.1)

pub bounds-costs-from : goal.bounds-costs-from
bounds-costs-from c = rw c.from.ensures (lane (goal.at.bounds-costs-from c).After-shift_of)

pub loop-s-preserved : goal.loop-s-preserved
loop-s-preserved c =
    let cost = ap (λ (t : ℕ). get_or c.args.costs.now t 0) (c.from.ensures ∙ c.shift_of.ensures) in
    let inv = c.loop-s.invariant in (
      elim c.if-cost-least.branch [
        | then-cost-least w ↦ rw (w.least-is, w.lowest-is) (lowest_taken inv.0 cost w.if-cost-least.true inv.1)
        | else-cost-least w ↦ rw (w.least-is, w.lowest-is) (lowest_kept inv.0 (rw (← cost) w.if-cost-least.false))
      ],
      elim c.if-cost-least.branch [ then-cost-least w ↦ omega arith | else-cost-least w ↦ omega arith ],
    )

pub returns : goal.returns
unfolding lowest_s
returns c =
    let row = c.args.row in
    let cost : ℕ → ℕ = shift_cost (parameters row) c.args.costs.now in
    let all : c.loop-s.s ≡ row.q = omega (arith, c.loop-s.auto.s-end, c.loop-s-test.false) in
    (searched_all (λ u. ltb (cost u) no_cost) cost row.q
    (subst (λ (s : ℕ). Searched (λ u. ltb (cost u) no_cost) cost row.q s c.loop-s.least c.loop-s.lowest) all c.loop-s.invariant.0)).1
