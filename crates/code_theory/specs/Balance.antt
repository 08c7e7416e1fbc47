-- Balancing (01: How a word is made, 3 to 5; in the edition of 2018 by 02, T-03).
-- Assumes nothing.
use Rattle.std.specs.Prelude.{Bool, List, [], ◌∷◌, ◌++◌, ℕ, zero, suc, ◌+◌, ◌-◌, ◌%◌, eqb, length, get_or, set}
use Rattle.modular_theory.specs.Search.{least, any_below}
use Rattle.modular_theory.specs.Sum.{weight}
use Rattle.modular_theory.specs.Residue.{minus}
use Rattle.code_theory.specs.Parameters.{edition13, edition18, Parameters, balancing_value}

-- two words symbol by symbol: x1, y1, x2, y2, ..
abbrev pub interleave : List ℕ → List ℕ → List ℕ
interleave [] ys = []
interleave (x ∷ xs) [] = []
interleave (x ∷ xs) (y ∷ ys) = x ∷ y ∷ interleave xs ys

-- e added mod q to the symbol at index i
abbrev pub add_at : ℕ → List ℕ → ℕ → ℕ → List ℕ
add_at q x i e = set x i ((get_or x i 0 + e) % q)

-- 01: integrate; a is the sum so far
abbrev pub integrate : ℕ → ℕ → List ℕ → List ℕ
integrate q a [] = []
integrate q a (x ∷ xs) = (a + x) % q ∷ integrate q ((a + x) % q) xs

-- x added mod q to the sum of all that follows, which is the first symbol of w
abbrev pub add_before : ℕ → ℕ → List ℕ → List ℕ
add_before q x [] = x % q ∷ []
add_before q x (a ∷ w) = (a + x) % q ∷ a ∷ w

-- 02: "integration runs from the end: wm = xm and wi = w(i+1) + xi mod q"
abbrev pub integrate_from_end : ℕ → List ℕ → List ℕ
integrate_from_end q [] = []
integrate_from_end q (x ∷ xs) = add_before q x (integrate_from_end q xs)

-- s added mod q to every symbol, as a choice's s is to the integrated word's
abbrev pub shifted : ℕ → ℕ → List ℕ → List ℕ
shifted q s [] = []
shifted q s (a ∷ d) = (a + s) % q ∷ shifted q s d

-- s added mod q to every symbol, and 1 more from index i on, as a choice's v adds it
abbrev pub shifted_from : ℕ → ℕ → ℕ → List ℕ → List ℕ
shifted_from q s zero d = shifted q (suc s) d
shifted_from q s (suc i) [] = []
shifted_from q s (suc i) (a ∷ d) = (a + s) % q ∷ shifted_from q s i d

-- 01: x of the interleaved halves: the zero that is added to them stands first; 02: in edition 18 last
abbrev pub with_zero : Parameters → List ℕ → List ℕ
with_zero p x = elim p.edition [ edition13 ↦ 0 ∷ x | edition18 ↦ x ++ (0 ∷ []) ]

-- the index in x of that zero, where a choice's s is added
abbrev pub zero_index : Parameters → List ℕ → ℕ
zero_index p x = elim p.edition [ edition13 ↦ 0 | edition18 ↦ length x - 1 ]

-- 1 added mod q to xv; v is a position, so 0 names no symbol
abbrev pub add_one : Parameters → List ℕ → ℕ → List ℕ
add_one p x zero = x
add_one p x (suc i) = add_at p.q x i 1

-- 01: w of x
abbrev pub integrated : Parameters → List ℕ → List ℕ
integrated p x = elim p.edition [ edition13 ↦ integrate p.q 0 x | edition18 ↦ integrate_from_end p.q x ]

-- what differencing gives for two neighbours x and y of w: the later less the earlier; in edition 18 the earlier less the later
abbrev pub neighbour_difference : Parameters → ℕ → ℕ → ℕ
neighbour_difference p x y = elim p.edition [ edition13 ↦ minus p.q y x | edition18 ↦ minus p.q x y ]

-- 01: differencing w mod q (dropping the first; 02: in edition 18 the last, where the zero was added): a symbol for each two neighbours
abbrev pub differences : Parameters → List ℕ → List ℕ
differences p [] = []
differences p (x ∷ []) = []
differences p (x ∷ y ∷ w) = neighbour_difference p x y ∷ differences p (y ∷ w)

-- the v that is tried after i others: they rise from 1; 02: in edition 18 from 0
abbrev pub choice : Parameters → ℕ → ℕ
choice p i = elim p.edition [ edition13 ↦ suc i | edition18 ↦ i ]

-- 01: w of the choice s, v: s added to x1 (02: in edition 18 to xm) and 1 to xv, and integrated
unfoldable pub chosen : Parameters → List ℕ → ℕ → ℕ → List ℕ
chosen p x s v = integrated p (add_one p (add_at p.q x (zero_index p x) s) v)

-- the choice balances x
unfoldable pub balances : Parameters → List ℕ → ℕ → ℕ → Bool
balances p x s v = eqb (weight (chosen p x s v)) (balancing_value p.q (length x))

-- the first choice that passes a test: s from 0 upward and, for each s, v upward, for m symbols
abbrev pub first_s : Parameters → ℕ → (ℕ → ℕ → Bool) → ℕ
first_s p m t = least (λ s. any_below (λ i. t s (choice p i)) m) p.q

abbrev pub first_v : Parameters → ℕ → (ℕ → ℕ → Bool) → ℕ
first_v p m t = choice p (least (λ i. t (first_s p m t) (choice p i)) m)

-- 01: the choice used, the first that balances
unfoldable pub earliest_s : Parameters → List ℕ → ℕ
earliest_s p x = first_s p (length x) (balances p x)

unfoldable pub earliest_v : Parameters → List ℕ → ℕ
earliest_v p x = first_v p (length x) (balances p x)

unfoldable pub balanced : Parameters → List ℕ → List ℕ
balanced p x = chosen p x (earliest_s p x) (earliest_v p x)
