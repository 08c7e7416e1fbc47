-- The rows of the tables.
-- Assumes nothing.
use mathlib.Core.Path.{◌≡◌, ap, ◌∙◌}
use mathlib.Core.List.{List, []}
use Prim.Native.Nat.{ℕ, ◌+◌, ◌*◌, ◌%◌, ◌≤◌, ◌<◌}
use native.Mathlib.Nat.{add-mod-mod}
use native.Mathlib.Omega.{arith}
use native.Mathlib.Decide.{ℕ_discrete}
use lib.ListN.{length, get_or, set}
use lib.Seq.{get_or-set_same, get_or-set_other}
use Rattle.peaks.specs.Lanes.{LanesAre, RowsAre, raised_lane}

-- Multiples of a step.

pub steps_more : {r y : ℕ} (q first step t : ℕ) → y ≡ (first + t * step) % q → r ≡ (step + y) % q → r ≡ (first + (t + 1) * step) % q
steps_more q first step t e g =
    let whole : step + (first + t * step) ≡ first + (t + 1) * step = omega arith in
    g ∙ ap (λ (n : ℕ). (step + n) % q) e ∙ add-mod-mod step (first + t * step) q ∙ ap (λ (n : ℕ). n % q) whole

-- The rows of a table.

module _ {l : List ℕ} (q first step : ℕ) (a : LanesAre (λ t. (first + t * step) % q) l) where
  pub raised_lanes : (y : ℕ) {r : List ℕ} → LanesAre (λ t. 2 * ((y + get_or l t 0) % q)) r → LanesAre (raised_lane q first step y) r
  raised_lanes y b =
      record {
        size = b.size;
        at = λ t h.
            let turned : y + (first + t * step) ≡ first + t * step + y = omega arith in
            b.at t h
            ∙ ap (λ (n : ℕ). 2 * n)
            (ap (λ (n : ℕ). (y + n) % q) (a.at t h) ∙ add-mod-mod y (first + t * step) q ∙ ap (λ (n : ℕ). n % q) turned);
      }

-- twice the symbol y raised by the shift
pub shifted_lane : {l : List ℕ} (q y : ℕ) → LanesAre (raised_lane q 0 1 y) l → (t : ℕ) → t < 8 → get_or l t 0 ≡ 2 * ((y + t) % q)
shifted_lane q y a t h = let e : 0 + t * 1 + y ≡ y + t = omega arith in a.at t h ∙ ap (λ (n : ℕ). 2 * (n % q)) e

pub rows_more : {f : ℕ → ℕ → ℕ} {n : ℕ} {rows : List (List ℕ)} → RowsAre f n rows → n < length rows
    → {r : List ℕ} → LanesAre (f n) r → RowsAre f (n + 1) (set rows n r)
rows_more {f} {n} {rows} a room {r} b = record { at = λ y h. either y (omega arith) (ℕ_discrete y n) }
  where
    either : (y : ℕ) → y ≤ n → Dec (y ≡ n) → LanesAre (f y) (get_or (set rows n r) y [])
    either y h (yes e) = rw (e, get_or-set_same rows n r [] room) b
    either y h (no d) = rw (get_or-set_other rows n y r [] d) (a.at y (omega (arith, d)))
