-- The symbols of an array mod q.
-- Assumes nothing.
use mathlib.Core.Path.{◌≡◌, refl, sym, ap₂, ◌∙◌}
use mathlib.Core.Bool.{Bool, true}
use mathlib.Core.List.{List, [], ◌∷◌}
use Prim.Native.Nat.{ℕ, ◌<◌}
use native.Mathlib.Nat.{mod-eq_of_lt}
use lib.Dec.{T, ltb, ltb→lt}
use Rattle.modular_theory.proofs.Search.{holds, and_left, and_right}
use Rattle.code_theory.specs.Component.{symbols_below}
use Rattle.components.specs.Residues.{residues}

-- levels are their own residues
kept : (q : ℕ) (l : List ℕ) → T (symbols_below q l) → l ≡ residues q l
kept q [] h = refl
kept q (x ∷ l) h =
    let level : x < q = ltb→lt x q (and_left (ltb x q) (symbols_below q l) h) in
    ap₂ (λ (y : ℕ) (k : List ℕ). y ∷ k) (sym (mod-eq_of_lt level)) (kept q l (and_right (ltb x q) (symbols_below q l) h))

pub levels_kept : (q : ℕ) (l : List ℕ) {b : Bool} → b ≡ symbols_below q l → b ≡ true → l ≡ residues q l
levels_kept q l e t = kept q l (holds (symbols_below q l) (sym e ∙ t))
