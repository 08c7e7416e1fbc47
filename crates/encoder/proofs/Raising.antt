-- A number added mod q to the symbols of a part of an array.
-- Assumes nothing.
use mathlib.Core.Path.{◌≡◌, refl, sym, ap, ◌∙◌}
use mathlib.Core.Logic.{⊎_elim}
use mathlib.Core.Bool.{Bool, true, false}
use mathlib.Core.List.{List, [], ◌∷◌}
use Prim.Native.Nat.{ℕ, zero, suc, ◌+◌, ◌%◌, ◌≤◌, ◌<◌}
use native.Mathlib.Nat.{not-suc-le-zero, le_of_suc-le-suc}
use native.Mathlib.Omega.{arith}
use lib.ListN.{length, get_or, take}
use lib.Seq.{get_or-take, ext_get_or, length-take-le}
use borrow.Author.Tests.{lt-ltb, le-ltb}
use Rattle.modular_theory.proofs.Search.{le_or_lt}
use Rattle.code_theory.specs.Balance.{shifted, shifted_from}
use Rattle.encoder.specs.Symbols.{SymbolArray, Raised, rise_at}

rise_low : (from s i : ℕ) → i < from → rise_at from s i ≡ s
rise_low from s i h = ap (λ (b : Bool). elim b as (λ _. ℕ) [ true ↦ s | false ↦ suc s ]) (lt-ltb i from h)

rise_high : (from s i : ℕ) → from ≤ i → rise_at from s i ≡ suc s
rise_high from s i h = ap (λ (b : Bool). elim b as (λ _. ℕ) [ true ↦ s | false ↦ suc s ]) (le-ltb i from h)

pub rise_upto : (from s i q : ℕ) → s < q → rise_at from s i ≤ q
rise_upto from s i q h =
    ⊎_elim (λ (k : from ≤ i). rw (rise_high from s i k) h) (λ (k : i < from). rw (rise_low from s i k) (omega arith)) (le_or_lt from i)

-- w of a choice: s is added before index i, and s + 1 from there on.

length_shifted : (q s : ℕ) (d : List ℕ) → length (shifted q s d) ≡ length d
length_shifted q s [] = refl
length_shifted q s (a ∷ d) = ap suc (length_shifted q s d)

length_shifted_from : (q s i : ℕ) (d : List ℕ) → length (shifted_from q s i d) ≡ length d
length_shifted_from q s zero d = length_shifted q (suc s) d
length_shifted_from q s (suc i) [] = refl
length_shifted_from q s (suc i) (a ∷ d) = ap suc (length_shifted_from q s i d)

shifted_at : (q s : ℕ) (d : List ℕ) (k : ℕ) → k < length d → get_or (shifted q s d) k 0 ≡ (get_or d k 0 + s) % q
shifted_at q s [] k l = absurd (not-suc-le-zero l)
shifted_at q s (a ∷ d) zero l = refl
shifted_at q s (a ∷ d) (suc k) l = shifted_at q s d k (le_of_suc-le-suc l)

shifted_before : (q s i : ℕ) (d : List ℕ) (k : ℕ) → k < length d → k < i → get_or (shifted_from q s i d) k 0 ≡ (get_or d k 0 + s) % q
shifted_before q s zero d k l h = absurd (not-suc-le-zero h)
shifted_before q s (suc i) [] k l h = absurd (not-suc-le-zero l)
shifted_before q s (suc i) (a ∷ d) zero l h = refl
shifted_before q s (suc i) (a ∷ d) (suc k) l h = shifted_before q s i d k (le_of_suc-le-suc l) (le_of_suc-le-suc h)

shifted_after : (q s i : ℕ) (d : List ℕ) (k : ℕ) → k < length d → i ≤ k → get_or (shifted_from q s i d) k 0 ≡ (get_or d k 0 + suc s) % q
shifted_after q s zero d k l h = shifted_at q (suc s) d k l
shifted_after q s (suc i) [] k l h = absurd (not-suc-le-zero l)
shifted_after q s (suc i) (a ∷ d) zero l h = absurd (not-suc-le-zero h)
shifted_after q s (suc i) (a ∷ d) (suc k) l h = shifted_after q s i d k (le_of_suc-le-suc l) (le_of_suc-le-suc h)

pub raised_is : {q s from : ℕ} {d w : List ℕ} (m : ℕ) → SymbolArray q 97 d → m ≤ 97 → Raised q d s from w → length w ≡ 97
    → take m w ≡ shifted_from q s from (take m d)
raised_is {q} {s} {from} {d} {w} m symbols room r lw =
    let n : length (take m d) ≡ m = length-take-le m d (omega (arith, symbols.size)) in
    let o : length (take m w) ≡ m = length-take-le m w (omega arith) in
    ext_get_or 0 (take m w) (shifted_from q s from (take m d)) (o ∙ sym (length_shifted_from q s from (take m d) ∙ n))
    (λ k h.
    let g : k < m = omega arith in
    let j : k < length (take m d) = omega arith in
    get_or-take m w k 0 g
    ∙ r.at k (omega arith)
    ∙ ⊎_elim
    (λ (u : from ≤ k). rw (rise_high from s k u, ← get_or-take m d k 0 g) (sym (shifted_after q s from (take m d) k j u)))
    (λ (u : k < from). rw (rise_low from s k u, ← get_or-take m d k 0 g) (sym (shifted_before q s from (take m d) k j u)))
    (le_or_lt from k))
