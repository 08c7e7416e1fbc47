-- A word raised by t, and by 1 more from an index on, is the front of one shift and the rest of the next: so its peak, where it is
-- balanced, is that front's and that rest's.
-- Assumes nothing.
use mathlib.Core.Path.{◌≡◌, refl, sym, ap, ◌∙◌}
use mathlib.Core.List.{List, [], ◌∷◌, ◌++◌}
use Prim.Native.Nat.{ℕ, zero, suc, ◌+◌, ◌-◌, ◌*◌, ◌%◌, ◌≤◌, max}
use native.Mathlib.Nat.{mod-lt}
use lib.Dec.{T, ltb, lt→ltb}
use lib.ListN.{length, take, drop}
use lib.Seq.{length-take-le, take-take}
use Rattle.modular_theory.specs.Sum.{weight}
use Rattle.modular_theory.proofs.Search.{and_intro}
use Rattle.code_theory.specs.Component.{symbols_below}
use Rattle.code_theory.specs.Balance.{shifted, shifted_from}
use Rattle.code_theory.specs.RunningSum.{peak}
use Rattle.peaks_theory.specs.Costs.{size_of, prefix_peak, suffix_peak}
use Rattle.peaks_theory.proofs.Split.{largest_same, split}

pub length_shifted : (q t : ℕ) (d : List ℕ) → length (shifted q t d) ≡ length d
length_shifted q t [] = refl
length_shifted q t (a ∷ d) = ap suc (length_shifted q t d)

pub length_shifted_from : (q t i : ℕ) (d : List ℕ) → length (shifted_from q t i d) ≡ length d
length_shifted_from q t zero d = length_shifted q (suc t) d
length_shifted_from q t (suc i) [] = refl
length_shifted_from q t (suc i) (a ∷ d) = ap suc (length_shifted_from q t i d)

raised_below : (q a t : ℕ) (w : List ℕ) → 1 ≤ q → T (symbols_below q w) → T (symbols_below q ((a + t) % q ∷ w))
raised_below q a t w h l = and_intro (ltb ((a + t) % q) q) (symbols_below q w) (lt→ltb ((a + t) % q) q (mod-lt (a + t) h)) l

pub shifted_below : (q t : ℕ) (d : List ℕ) → 1 ≤ q → T (symbols_below q (shifted q t d))
shifted_below q t [] h = tt
shifted_below q t (a ∷ d) h = raised_below q a t (shifted q t d) h (shifted_below q t d h)

pub shifted_from_below : (q t i : ℕ) (d : List ℕ) → 1 ≤ q → T (symbols_below q (shifted_from q t i d))
shifted_from_below q t zero d h = shifted_below q (suc t) d h
shifted_from_below q t (suc i) [] h = tt
shifted_from_below q t (suc i) (a ∷ d) h = raised_below q a t (shifted_from q t i d) h (shifted_from_below q t i d h)

pub shift_parts : (q t i : ℕ) (d : List ℕ) → shifted_from q t i d ≡ take i (shifted q t d) ++ drop i (shifted q (suc t) d)
shift_parts q t zero d = refl
shift_parts q t (suc i) [] = refl
shift_parts q t (suc i) (a ∷ d) = ap (λ (w : List ℕ). (a + t) % q ∷ w) (shift_parts q t i d)

-- the symbols past i do not count
pub prefix_take : (h i : ℕ) (u : List ℕ) → prefix_peak h (take i u) i ≡ prefix_peak h u i
prefix_take h i u =
    largest_same (λ j. size_of h (take j (take i u))) (λ j. size_of h (take j u)) i (λ j l. ap (size_of h) (take-take (suc j) i u l))

pub shift_peak : (q t i : ℕ) (d : List ℕ) → i ≤ length d → 2 * weight (shifted_from q t i d) ≡ length d * (q - 1)
    → peak q (shifted_from q t i d) ≡ max (prefix_peak (q - 1) (shifted q t d) i) (suffix_peak (q - 1) (drop i (shifted q (suc t) d)))
shift_peak q t i d l e =
    let h : ℕ = q - 1 in
    let u : List ℕ = take i (shifted q t d) in
    let v : List ℕ = drop i (shifted q (suc t) d) in
    let w : shifted_from q t i d ≡ u ++ v = shift_parts q t i d in
    let n : length u ≡ i = length-take-le i (shifted q t d) (rw length_shifted l) in
    let b : 2 * weight (u ++ v) ≡ length (u ++ v) * h = rw (← w) (e ∙ ap (λ (m : ℕ). m * h) (sym (length_shifted_from q t i d))) in
    ap (peak q) w
    ∙ split q u v b
    ∙ ap (λ (m : ℕ). max m (suffix_peak h v)) (ap (prefix_peak h u) n ∙ prefix_take h i (shifted q t d))
