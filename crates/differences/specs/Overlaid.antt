-- The differences of a word put into an array, as the code has them for any bytes.
-- Assumes nothing.
use Rattle.std.specs.Prelude.{Bool, true, false, ◌&&◌, ◌||◌, List, [], ◌∷◌, ℕ, suc, ◌-◌, eqb, ltb, length, get_or}
use Rattle.modular.specs.Byte.{byte_difference}

-- x with what f gives at the indices that are asked for
abbrev pub overlaid : (ℕ → Bool) → (ℕ → ℕ) → List ℕ → List ℕ
overlaid asked f [] = []
overlaid asked f (a ∷ x) = elim (asked 0) [ true ↦ f 0 | false ↦ a ] ∷ overlaid (λ i. asked (suc i)) (λ i. f (suc i)) x

-- of two neighbours a and b, the later less the earlier; backward (02: in edition 18) the earlier less the later
unfoldable pub difference_of : Bool → ℕ → ℕ → ℕ → ℕ
difference_of backward q a b = elim backward [ true ↦ byte_difference q a b | false ↦ byte_difference q b a ]

-- that of a symbol of w and the one before it
abbrev pub difference_at : Bool → ℕ → List ℕ → ℕ → ℕ
difference_at backward q w j = difference_of backward q (get_or w (j - 1) 0) (get_or w j 0)

-- the index names a symbol of w that has one before it
abbrev pub has_difference : List ℕ → ℕ → Bool
has_difference w j = ltb 0 j && ltb j (length w)

-- x with the differences of w at those of its indices that are asked for
unfoldable pub differences_at : (ℕ → Bool) → Bool → ℕ → List ℕ → List ℕ → List ℕ
differences_at asked backward q w x = overlaid (λ j. asked j && has_difference w j) (difference_at backward q w) x

-- of m symbols, those whose differences the symbol at index i is in
abbrev pub changed_by : ℕ → ℕ → ℕ → Bool
changed_by i m j = (eqb j i || eqb j (suc i)) && ltb j m
