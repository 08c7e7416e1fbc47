-- A step in a lane.
-- Assumes nothing.
use mathlib.Core.Path.{◌≡◌, refl, ap}
use Prim.Native.Nat.{ℕ, ◌+◌, ◌<◌}
use native.Mathlib.Omega.{arith}
use lib.ListN.{set}
use Rattle.peaks.specs.declared.prefix.Lane.{Lane}
use Rattle.peaks.specs.declared.prefix.LaneArrays.{LaneArrays}
use Rattle.peaks.proofs.SideBySide.{MadeTo, made_next, made_none, made_more, made_all}
use Rattle.peaks.specs.Steps.{lane_at, EightLanes, LanesHold}

-- lanes are the same where what they carry is
pub lane_same : {a b : Lane} → a.sum ≡ b.sum → a.head ≡ b.head → a.total ≡ b.total → a.cost ≡ b.cost → a.index ≡ b.index
    → a ≡ b
lane_same {a} {b} p q r s t =
    let e : ◌≡◌ {A = Lane} (record { sum = a.sum; head = a.head; total = a.total; cost = a.cost; index = a.index })
    (record { sum = b.sum; head = b.head; total = b.total; cost = b.cost; index = b.index }) = rw (p, q, r, s, t) refl in
    e

-- the first j lanes of b are those that f gives, and the others are as they were in a
pub record SteppedTo (f : ℕ → Lane) (a b : LaneArrays) (j : ℕ) : Type 0 where
  pub sums : MadeTo (λ t. (f t).sum) a.sums b.sums j
  pub heads : MadeTo (λ t. (f t).head) a.heads b.heads j
  pub totals : MadeTo (λ t. (f t).total) a.totals b.totals j
  pub costs : MadeTo (λ t. (f t).cost) a.costs b.costs j
  pub indices : MadeTo (λ t. (f t).index) a.indices b.indices j

pub stepped_none : (f : ℕ → Lane) (a : LaneArrays) → EightLanes a → SteppedTo f a a 0
stepped_none f a e =
    record {
      sums = made_none (λ t. (f t).sum) a.sums e.sums_size;
      heads = made_none (λ t. (f t).head) a.heads e.heads_size;
      totals = made_none (λ t. (f t).total) a.totals e.totals_size;
      costs = made_none (λ t. (f t).cost) a.costs e.costs_size;
      indices = made_none (λ t. (f t).index) a.indices e.indices_size;
    }

module _ {f : ℕ → Lane} {a b : LaneArrays} {j : ℕ} (m : SteppedTo f a b j) where
  -- the lane that is next
  pub lane_next : lane_at b j ≡ lane_at a j
  lane_next = lane_same (made_next m.sums) (made_next m.heads) (made_next m.totals) (made_next m.costs) (made_next m.indices)

  pub stepped_more : j < 8 → {s : Lane} → s ≡ f j
      → SteppedTo f a
      (record {
        sums = set b.sums j s.sum;
        heads = set b.heads j s.head;
        totals = set b.totals j s.total;
        costs = set b.costs j s.cost;
        indices = set b.indices j s.index;
      })
      (j + 1)
  stepped_more h e =
      record {
        sums = made_more m.sums h (ap (λ (s : Lane). s.sum) e);
        heads = made_more m.heads h (ap (λ (s : Lane). s.head) e);
        totals = made_more m.totals h (ap (λ (s : Lane). s.total) e);
        costs = made_more m.costs h (ap (λ (s : Lane). s.cost) e);
        indices = made_more m.indices h (ap (λ (s : Lane). s.index) e);
      }

pub stepped_all : {f : ℕ → Lane} {a b : LaneArrays} → SteppedTo f a b 8 → LanesHold f b
stepped_all m =
    record {
      sums_are = made_all m.sums (omega arith);
      heads_are = made_all m.heads (omega arith);
      totals_are = made_all m.totals (omega arith);
      costs_are = made_all m.costs (omega arith);
      indices_are = made_all m.indices (omega arith);
    }

-- what the arrays hold
pub lane_held : {f : ℕ → Lane} {a : LaneArrays} → LanesHold f a → (t : ℕ) → t < 8 → lane_at a t ≡ f t
lane_held a t h =
    lane_same (a.sums_are.at t h) (a.heads_are.at t h) (a.totals_are.at t h) (a.costs_are.at t h) (a.indices_are.at t h)
