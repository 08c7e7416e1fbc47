-- The four profiles (01: The four profiles) and their table.
-- Assumes nothing.
use Rattle.std.specs.Prelude.{Bool, ◌&&◌, List, [], ◌∷◌, ℕ, leb, length, get_or}
use Rattle.code_theory.specs.Parameters.{edition13, edition_of, Parameters, in_edition, message_length, balanced_length, codeword_length}
use Rattle.code_theory.specs.Parameters.{balancing_value, delta}

-- q, r, n of a row; 01 has one edition
abbrev pub row : ℕ → ℕ → ℕ → Parameters
row q r n = record { q = q; r = r; n = n; edition = edition13 }

abbrev pub profiles : List Parameters
profiles = row 3 3 8 ∷ row 3 4 26 ∷ row 5 3 24 ∷ row 7 3 48 ∷ []

-- the number is a profile's
abbrev pub is_profile : ℕ → Bool
is_profile i = leb 1 i && leb i (length profiles)

-- the parameters of profile i, in edition 13; zeros where the number is no profile's, as 0 is
unfoldable pub profile : ℕ → Parameters
profile i = in_edition edition13 (get_or (row 0 0 0 ∷ profiles) i (row 0 0 0))

-- the same in the edition of number k
abbrev pub profile_in : ℕ → ℕ → Parameters
profile_in k i = in_edition (edition_of k) (profile i)

-- 01's table, whole: profile, q, r, n, k, m, N, middle, δ
abbrev pub table : List (List ℕ)
table =
    (1 ∷ 3 ∷ 3 ∷ 8 ∷ 5 ∷ 17 ∷ 19 ∷ 17 ∷ 0 ∷ [])
    ∷ (2 ∷ 3 ∷ 4 ∷ 26 ∷ 22 ∷ 53 ∷ 55 ∷ 53 ∷ 0 ∷ [])
    ∷ (3 ∷ 5 ∷ 3 ∷ 24 ∷ 21 ∷ 49 ∷ 51 ∷ 98 ∷ 1 ∷ [])
    ∷ (4 ∷ 7 ∷ 3 ∷ 48 ∷ 45 ∷ 97 ∷ 99 ∷ 291 ∷ 2 ∷ [])
    ∷ []

-- profile i's row, from its parameters
unfoldable pub derived_row : ℕ → List ℕ
derived_row i =
    let p = profile i in
    i
    ∷ p.q
    ∷ p.r
    ∷ p.n
    ∷ message_length p
    ∷ balanced_length p
    ∷ codeword_length p
    ∷ balancing_value p.q (balanced_length p)
    ∷ delta p.q (balanced_length p)
    ∷ []
