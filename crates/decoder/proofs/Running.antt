-- A run of symbols copied into an output, a symbol at a time.
-- Assumes nothing.
use mathlib.Core.Path.{◌≡◌, refl, ap, ◌∙◌}
use mathlib.Core.List.{List}
use Prim.Native.Nat.{ℕ, ◌+◌, ◌*◌, ◌≤◌, ◌<◌, zero-le}
use native.Mathlib.Omega.{arith}
use native.Mathlib.Numerals.{add-one}
use lib.ListN.{length, get_or, set, length-set}
use Rattle.decoder.specs.Outputs.{copied_run}

run_more : (x : List ℕ) (side i k next : ℕ) (out : List ℕ) {out' : List ℕ} → out' ≡ copied_run x side i k next out
    → set out' (next + k) (get_or x (2 * (i + k) + side) 0) ≡ copied_run x side i (k + 1) next out
run_more x side i k next out e =
    rw add-one (ap (λ (y : List ℕ). set y (next + k) (get_or x (2 * (i + k) + side) 0)) e)

-- k symbols of both components stand in the outputs
pub record Running (x : List ℕ) (i next count : ℕ) (first₀ second₀ first second : List ℕ) (k : ℕ) : Type 0 where
  pub within : k ≤ count
  pub first_is : first ≡ copied_run x 1 i k next first₀
  pub second_is : second ≡ copied_run x 2 i k next second₀
  pub first_long : length first ≡ length first₀
  pub second_long : length second ≡ length second₀

pub running_none : (x : List ℕ) (i next count : ℕ) (first second : List ℕ) → Running x i next count first second first second 0
running_none x i next count first second =
    record { within = zero-le; first_is = refl; second_is = refl; first_long = refl; second_long = refl }

pub running_more : {x : List ℕ} {i next count : ℕ} {first₀ second₀ first second : List ℕ} {k : ℕ}
    → Running x i next count first₀ second₀ first second k → k < count
    → {y z : ℕ} → y ≡ get_or x (2 * (i + k) + 1) 0 → z ≡ get_or x (2 * (i + k) + 2) 0
    → Running x i next count first₀ second₀ (set first (next + k) y) (set second (next + k) z) (k + 1)
running_more {x} {i} {next} {count} {first₀} {second₀} {first} {second} {k} r l {y} {z} e f =
    record {
      within = omega arith;
      first_is = rw e (run_more x 1 i k next first₀ r.first_is);
      second_is = rw f (run_more x 2 i k next second₀ r.second_is);
      first_long = length-set first (next + k) y ∙ r.first_long;
      second_long = length-set second (next + k) z ∙ r.second_long;
    }

pub running_all : {x : List ℕ} {i next count : ℕ} {first₀ second₀ first second : List ℕ} {k : ℕ}
    → Running x i next count first₀ second₀ first second k → count ≤ k
    → (first ≡ copied_run x 1 i count next first₀) × (second ≡ copied_run x 2 i count next second₀)
running_all {count = count} {k = k} r h = let e : k ≡ count = omega (arith, r.within) in (rw (← e) r.first_is, rw (← e) r.second_is)
