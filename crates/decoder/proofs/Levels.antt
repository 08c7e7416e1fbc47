-- Words of symbols below q: a part of one, and its weight.
-- Assumes nothing.
use mathlib.Core.List.{List, [], ◌∷◌}
use Prim.Native.Nat.{ℕ, zero, suc, ◌*◌, ◌≤◌, zero-le}
use native.Mathlib.Omega.{arith}
use lib.Dec.{T, ltb, ltb→lt}
use lib.ListN.{length, take}
use Rattle.modular_theory.specs.Sum.{weight}
use Rattle.modular_theory.proofs.Search.{and_intro, and_left, and_right}
use Rattle.code_theory.specs.Component.{symbols_below}

pub symbols_take : (q m : ℕ) (c : List ℕ) → T (symbols_below q c) → T (symbols_below q (take m c))
symbols_take q zero c t = tt
symbols_take q (suc m) [] t = tt
symbols_take q (suc m) (x ∷ xs) t =
    let rest = symbols_take q m xs (and_right (ltb x q) (symbols_below q xs) t) in
    and_intro (ltb x q) (symbols_below q (take m xs)) (and_left (ltb x q) (symbols_below q xs) t) rest

-- symbols below q, of at most 15 levels, weigh at most 14 each
pub weight_small : (q : ℕ) → q ≤ 15 → (c : List ℕ) → T (symbols_below q c) → weight c ≤ 14 * length c
weight_small q h [] t = zero-le
weight_small q h (x ∷ xs) t =
    omega (arith, ltb→lt x q (and_left (ltb x q) (symbols_below q xs) t), weight_small q h xs (and_right (ltb x q) (symbols_below q xs) t))
