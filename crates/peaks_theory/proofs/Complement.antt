-- The complement's sum at a position is minus the word's, since each symbol and its complement make q - 1: so the two have one peak.
-- Assumes nothing.
use mathlib.Core.Path.{◌≡◌, refl, sym, ap₂, ◌∙◌}
use mathlib.Core.List.{List, [], ◌∷◌}
use Prim.Native.Nat.{ℕ, ◌+◌, ◌-◌, ◌*◌, ◌<◌, max}
use native.Mathlib.Omega.{arith}
use lib.Dec.{T, ltb, ltb→lt}
use lib.ListN.{length, length-map}
use Rattle.modular_theory.proofs.Search.{and_left, and_right}
use Rattle.code_theory.specs.Parameters.{Edition, edition13, edition18, Parameters, in_edition}
use Rattle.code_theory.specs.Component.{symbols_below}
use Rattle.code_theory.specs.RunningSum.{peak}
use Rattle.code_theory.specs.Walk.{complement, unwalked}
use Rattle.peaks_theory.proofs.Split.{mirrored, peak_from, prefix_from, peak_prefix}

-- where the sums before, a - c and b - d, make 0
from_complement : (q a b c d : ℕ) (w : List ℕ) → T (symbols_below q w) → a + b ≡ c + d
    → peak_from (q - 1) a c (complement q w) ≡ peak_from (q - 1) b d w
from_complement q a b c d [] l e = refl
from_complement q a b c d (y ∷ w) l e =
    let h : ℕ = q - 1 in
    let k : y < q = ltb→lt y q (and_left (ltb y q) (symbols_below q w) l) in
    let f : a + 2 * (h - y) + (b + 2 * y) ≡ c + h + (d + h) = omega arith in
    ap₂ max (mirrored (a + 2 * (h - y)) (b + 2 * y) (c + h) (d + h) f)
    (from_complement q (a + 2 * (h - y)) (b + 2 * y) (c + h) (d + h) w (and_right (ltb y q) (symbols_below q w) l) f)

pub peak_complement : (q : ℕ) (w : List ℕ) → T (symbols_below q w) → peak q (complement q w) ≡ peak q w
peak_complement q w l =
    peak_prefix q (complement q w)
    ∙ prefix_from (q - 1) (complement q w)
    ∙ from_complement q 0 0 0 0 w l refl
    ∙ sym (peak_prefix q w ∙ prefix_from (q - 1) w)

-- so the body of a choice has the peak of its shift in both editions
module _ (p : Parameters) (w : List ℕ) where
  pub peak_unwalked : T (symbols_below p.q w) → peak p.q (unwalked p w) ≡ peak p.q w
  peak_unwalked l = go p.edition
    where
      go : (e : Edition) → peak p.q (unwalked (in_edition e p) w) ≡ peak p.q w
      go edition13 = refl
      go edition18 = peak_complement p.q w l

  pub length_unwalked : length (unwalked p w) ≡ length w
  length_unwalked = go p.edition
    where
      go : (e : Edition) → length (unwalked (in_edition e p) w) ≡ length w
      go edition13 = refl
      go edition18 = length-map w (λ y. p.q - 1 - y)
