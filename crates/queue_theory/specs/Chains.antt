-- The used and the free list (01: chain): the cells met from a first one by going to the next cell, until that is 0.
-- Assumes nothing.
use Rattle.std.specs.Prelude.{◌≡◌, ◌≢◌, Bool, true, List, [], ◌∷◌, map, ℕ, zero, suc, eqb}
use Rattle.queue_theory.specs.Lists.{last_of}
use Rattle.queue_theory.specs.Layout.{capacity, next_cell, first_free, cell_body}

-- from cell i the cells of the list are met, and then 0: they end
abbrev pub From : List ℕ → ℕ → List ℕ → Type 0
From s i [] = i ≡ 0
From s i (b ∷ l) = (i ≡ b) × (b ≢ 0) × From s (next_cell s b) l

-- the cells met from cell i in at most n steps
abbrev pub chain : List ℕ → ℕ → ℕ → List ℕ
chain s zero i = []
chain s (suc n) zero = []
chain s (suc n) (suc i) = suc i ∷ chain s n (next_cell s (suc i))

-- they end within n steps
abbrev pub ends : List ℕ → ℕ → ℕ → Bool
ends s zero i = eqb i 0
ends s (suc n) zero = true
ends s (suc n) (suc i) = ends s n (next_cell s (suc i))

unfoldable pub used : List ℕ → List ℕ
used s = chain s (capacity s) (next_cell s 0)

unfoldable pub free : List ℕ → List ℕ
free s = chain s (capacity s) (first_free s)

-- 01: the list of records, each a used cell without byte 0, the first entered first
unfoldable pub records : List ℕ → List (List ℕ)
records s = map (cell_body s) (used s)

-- the last used cell; cell 0, which holds the first one, where there is none
unfoldable pub last_used : List ℕ → ℕ
last_used s = last_of 0 (used s)
