-- The word with its check symbols.
-- Assumes nothing.
use mathlib.Core.Path.{◌≡◌, sym, ap, ap₂, ◌∙◌}
use mathlib.Core.List.{List, [], ◌∷◌, ◌++◌}
use Prim.Native.Nat.{ℕ, suc, min, ◌+◌, ◌≤◌, ◌<◌}
use native.Mathlib.Numerals.{add-one}
use native.Mathlib.Omega.{arith}
use lib.ListN.{length, take, drop, set, length-set, length-drop, length-append}
use lib.Seq.{take-append_seam, take-length, take-suc-set, append_snoc, length-take-le}
use Rattle.code_theory.specs.Codeword.{alpha, beta, with_checks}
use Rattle.code_theory.proofs.Columns.{q_positive}
use Rattle.profiles.specs.declared.row.Row.{Row}
use Rattle.profiles.specs.Row.{parameters, Valid}
use Rattle.symbols.specs.declared.checks.Checks.{Checks}
use Rattle.symbols.specs.Weight.{weights_of, checks_of}
use Rattle.symbols.proofs.CheckSymbols.{checks_are}

-- with w before them, the check symbols that its weights ask for end the word
pub checks_put : (t : Row) → Valid t → (w out : List ℕ) → length w ≡ 97 → length out ≡ t.codeword
    → {c : Checks} → c ≡ checks_of t.q t.delta (weights_of t.target (take (min t.balanced 97) w))
    → set (set (take t.balanced w ++ drop t.balanced out) t.balanced c.alpha) (t.balanced + 1) c.beta
    ≡ with_checks t.q (take t.balanced w)
unfolding with_checks
checks_put t valid w out long size {c} asked =
    let m : ℕ = t.balanced in
    let room : m ≤ 97 = omega (arith, valid.balanced, valid.length) in
    let half : length (take m w) ≡ m = length-take-le m w (omega arith) in
    let is : c ≡ record { alpha = alpha t.q (take m w); beta = beta t.q (take m w) } =
    asked ∙ checks_are t.target w (q_positive (parameters t) valid.sized) room half valid.delta in
    let symbols : List ℕ = take m w ++ drop m out in
    let all : length symbols ≡ suc (m + 1) =
    omega (arith, length-append (take m w) (drop m out), half, length-drop m out, size, valid.codeword, valid.balanced) in
    let h : m < length symbols = omega arith in
    let l : m + 1 < length (set symbols m c.alpha) = omega (arith, length-set symbols m c.alpha) in
    let whole : length (set (set symbols m c.alpha) (m + 1) c.beta) ≡ suc (m + 1) =
    length-set (set symbols m c.alpha) (m + 1) c.beta ∙ length-set symbols m c.alpha ∙ all in
    let copied : take m symbols ≡ take m w =
    ap (λ (j : ℕ). take j symbols) (sym half) ∙ take-append_seam (take m w) (drop m out) in
    sym (ap (λ (j : ℕ). take j (set (set symbols m c.alpha) (m + 1) c.beta)) (sym whole) ∙ take-length (set (set symbols m c.alpha) (m + 1) c.beta))
    ∙ take-suc-set (set symbols m c.alpha) (m + 1) c.beta l
    ∙ ap (λ (j : ℕ). take j (set symbols m c.alpha) ++ (c.beta ∷ [])) (add-one m)
    ∙ ap (λ (t : List ℕ). t ++ (c.beta ∷ [])) (take-suc-set symbols m c.alpha h)
    ∙ append_snoc (take m symbols) c.alpha (c.beta ∷ [])
    ∙ ap₂ (λ (t : List ℕ) (c : Checks). t ++ (c.alpha ∷ c.beta ∷ [])) copied is
