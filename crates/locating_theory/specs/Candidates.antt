-- The position of an error without trying positions: where a codeword is near, one of its two syndromes is zero, so the received one is a
-- multiple of the column that the changed symbol meets, and names it once it is divided. That is a candidate for each syndrome.
-- Assumes nothing.
use Rattle.std.specs.Prelude.{Bool, true, false, not, ◌&&◌, List, ℕ, zero, suc, ◌+◌, ◌-◌, ◌*◌, ◌%◌, eqb, ltb, get_or, ℤ}
use Rattle.modular_theory.specs.Search.{least}
use Rattle.code_theory.specs.Parameters.{Parameters}
use Rattle.decoding_theory.specs.Syndromes.{tabulate, column_position, index}
use Rattle.decoding_theory.specs.Decoded.{position_count}
use Rattle.locating_theory.specs.ErrorPosition.{gain_without, near_with, Location, at, nowhere}

-- the inverse of g mod q; q where there is none
unfoldable pub inverse_of : ℕ → ℕ → ℕ
inverse_of q g = least (λ i. eqb (g * i % q) 1) q

-- the position that h times the syndrome names; 0 for a zero syndrome
unfoldable pub named_by : Parameters → ℕ → List ℕ → ℕ
named_by p h S = column_position p (tabulate (λ j. h * get_or S j 0 % p.q) p.r)

-- the index that meets column a as the one after it; the last index meets none
abbrev pub before : Parameters → ℕ → ℕ
before p zero = p.n
before p (suc a) = a

-- the index of the parity b that makes the syndrome S of the first component (true) or of the second zero, if one does; i is the inverse
-- of what the components gain
abbrev pub candidate : Parameters → Bool → Bool → ℕ → List ℕ → ℕ
candidate p true true i S = before p (named_by p i S)
candidate p true false i S = before p (named_by p (p.q - i) S)
candidate p false true i S = named_by p (p.q - i) S
candidate p false false i S = before p (named_by p i S)

-- index k is one of the parity b, and the syndromes are near once the components gain g there
unfoldable pub holds_with : Parameters → Bool → ℕ → List ℕ → List ℕ → ℕ → Bool
holds_with p b g S S' k = ltb k (position_count p b) && near_with p b g S S' k

-- of two candidates the first that passes a test; `none` where neither does
unfoldable pub choose : (ℕ → Bool) → ℕ → ℕ → ℕ → ℕ
choose t k k' none = elim (t k) [ true ↦ k | false ↦ elim (t k') [ true ↦ k' | false ↦ none ] ]

-- the syndrome of the first component (true) or of the second
abbrev pub syndrome_of : Bool → List ℕ → List ℕ → List ℕ
syndrome_of true S S' = S
syndrome_of false S S' = S'

-- the index of the error, by the two candidates, the first component's before the second's (true) or after it; the number of indices where
-- neither passes
unfoldable pub located : Bool → Parameters → Bool → ℤ → List ℕ → List ℕ → ℕ
located o p b e S S' =
    let g : ℕ = gain_without p e in
    let i : ℕ = inverse_of p.q g in
    choose (holds_with p b g S S') (candidate p o b i (syndrome_of o S S')) (candidate p (not o) b i (syndrome_of (not o) S S'))
    (position_count p b)

-- the position of index k of the parity b; none where it is no index of it
abbrev pub position_of : Parameters → Bool → ℕ → Location
position_of p b k = elim (ltb k (position_count p b)) [ true ↦ at (index b k + 1) | false ↦ nowhere ]
