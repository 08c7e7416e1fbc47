-- What the test of a word's symbols says of each of them, and back.
-- Assumes nothing.
use mathlib.Core.List.{List, [], ◌∷◌, ◌++◌}
use Prim.Native.Nat.{ℕ, zero, suc, ◌+◌, ◌%◌, ◌≤◌, ◌<◌, zero-le, suc-le-suc}
use native.Mathlib.Nat.{mod-lt}
use lib.Dec.{T, ltb, ltb→lt, lt→ltb}
use lib.ListN.{length, get_or, set}
use Rattle.modular_theory.proofs.Search.{and_left, and_right, and_intro}
use Rattle.code_theory.specs.Component.{symbols_below}
use Rattle.code_theory.specs.Balance.{add_at}

-- past the end it is 0
pub symbol_below : (q : ℕ) → 1 ≤ q → (c : List ℕ) → T (symbols_below q c) → (i : ℕ) → get_or c i 0 < q
symbol_below q h [] b i = h
symbol_below q h (x ∷ xs) b zero = ltb→lt x q (and_left (ltb x q) (symbols_below q xs) b)
symbol_below q h (x ∷ xs) b (suc i) = symbol_below q h xs (and_right (ltb x q) (symbols_below q xs) b) i

pub symbols_below_lem : (q : ℕ) (c : List ℕ) → ((i : ℕ) → i < length c → get_or c i 0 < q) → T (symbols_below q c)
symbols_below_lem q [] f = tt
symbols_below_lem q (x ∷ xs) f =
    and_intro (ltb x q) (symbols_below q xs) (lt→ltb x q (f 0 (suc-le-suc zero-le))) (symbols_below_lem q xs (λ i h. f (suc i) (suc-le-suc h)))

pub symbols_set : (q : ℕ) (c : List ℕ) (i y : ℕ) → y < q → T (symbols_below q c) → T (symbols_below q (set c i y))
symbols_set q [] i y h b = tt
symbols_set q (x ∷ xs) zero y h b = and_intro (ltb y q) (symbols_below q xs) (lt→ltb y q h) (and_right (ltb x q) (symbols_below q xs) b)
symbols_set q (x ∷ xs) (suc i) y h b =
    and_intro (ltb x q) (symbols_below q (set xs i y)) (and_left (ltb x q) (symbols_below q xs) b)
    (symbols_set q xs i y h (and_right (ltb x q) (symbols_below q xs) b))

pub symbols_append : (q : ℕ) (c d : List ℕ) → T (symbols_below q c) → T (symbols_below q d) → T (symbols_below q (c ++ d))
symbols_append q [] d a b = b
symbols_append q (x ∷ xs) d a b =
    and_intro (ltb x q) (symbols_below q (xs ++ d)) (and_left (ltb x q) (symbols_below q xs) a)
    (symbols_append q xs d (and_right (ltb x q) (symbols_below q xs) a) b)

-- e added mod q to one of them
pub symbols_raised : (q : ℕ) → 1 ≤ q → (c : List ℕ) (i e : ℕ) → T (symbols_below q c) → T (symbols_below q (add_at q c i e))
symbols_raised q h c i e b = symbols_set q c i ((get_or c i 0 + e) % q) (mod-lt (get_or c i 0 + e) h) b
