-- Tests and counts over lists of numbers.
-- Assumes nothing.
use Rattle.std.specs.Prelude.{Bool, true, false, ◌&&◌, List, [], ◌∷◌, ℕ, zero, suc, ◌+◌, eqb, replicate}

-- every number of the list passes the test
abbrev pub all : (ℕ → Bool) → List ℕ → Bool
all t [] = true
all t (x ∷ l) = t x && all t l

abbrev pub all_zero : List ℕ → Bool
all_zero l = all (λ x. eqb x 0) l

abbrev pub zeros : ℕ → List ℕ
zeros n = replicate n 0

abbrev pub bit : Bool → ℕ
bit true = 1
bit false = 0

-- how often x stands in the list
abbrev pub count : ℕ → List ℕ → ℕ
count x [] = 0
count x (y ∷ l) = bit (eqb x y) + count x l

-- the last number of the list; a where it is empty
abbrev pub last_of : ℕ → List ℕ → ℕ
last_of a [] = a
last_of a (b ∷ l) = last_of b l

-- n numbers from i up: i, i + 1, ..
abbrev pub up_from : ℕ → ℕ → List ℕ
up_from i zero = []
up_from i (suc n) = i ∷ up_from (suc i) n
