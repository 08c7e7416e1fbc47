-- What is searched, and what is answered otherwise.
-- Assumes nothing.
use mathlib.Core.Path.{◌≡◌, sym, ap, ◌∙◌}
use mathlib.Core.Bool.{Bool, true, false, ◌&&◌}
use mathlib.Core.List.{List}
use Prim.Native.Nat.{ℕ, ◌≤◌, ◌<◌}
use native.Mathlib.Omega.{arith}
use lib.Dec.{T, leb, ltb, leb→le, ltb→lt}
use lib.ListN.{take, replicate}
use Rattle.modular_theory.proofs.Search.{holds, and_left, and_right, and_parts}
use Rattle.code_theory.specs.Component.{symbols_below, Below}
use Rattle.code_theory.proofs.Symbols.{symbol_below}
use Rattle.peaks_theory.specs.Lowest.{no_cost}
use Rattle.peaks.specs.declared.search.LeastPeaks.{LeastPeaks}
use Rattle.peaks.specs.LeastPeaks.{searchable, found, least_peaks}

module _ (q m first step : ℕ) (d : List ℕ) {b : Bool} (is : b ≡ searchable q m first step d) where
  -- the tests one by one
  pub tests_passed : b ≡ true → (q ≤ 8) × (m ≤ 97) × (first < q) × (step < q) × Below q d
  unfolding searchable
  tests_passed passed =
      let numbers : Bool = leb q 8 && leb m 97 && ltb first q && ltb step q in
      let all : T (numbers && symbols_below q d) = holds (searchable q m first step d) (sym is ∙ passed) in
      let parts = and_parts (leb q 8) (leb m 97) (ltb first q) (ltb step q) (and_left numbers (symbols_below q d) all) in
      let low : first < q = ltb→lt first q parts.2 in (
        leb→le q 8 parts.0,
        leb→le m 97 parts.1,
        low,
        ltb→lt step q parts.3,
        symbol_below q (omega arith) d (and_right numbers (symbols_below q d) all),
      )

  abbrev answered : Bool → LeastPeaks
  answered c = elim c [ true ↦ found q first step (take m d) m | false ↦ record { costs = replicate 8 no_cost; indices = replicate 8 0 } ]

  pub answered_found : b ≡ true → {p f s : ℕ} → p ≡ q → f ≡ first → s ≡ step → {r : LeastPeaks} → r ≡ found p f s (take m d) m
      → r ≡ least_peaks q m first step d
  unfolding least_peaks
  answered_found passed e g h k = k ∙ rw (e, g, h) (ap answered (sym passed ∙ is))

  pub answered_none : b ≡ false → record { costs = replicate 8 no_cost; indices = replicate 8 0 } ≡ least_peaks q m first step d
  unfolding least_peaks
  answered_none failed = ap answered (sym failed ∙ is)
