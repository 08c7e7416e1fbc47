-- Which queues are sound (01: The sheet), and which records a cell may hold.
-- Assumes nothing.
use Rattle.std.specs.Prelude.{Bool, true, false, ◌&&◌, List, ◌∷◌, ◌++◌, ℕ, suc, ◌-◌, T, eqb, leb, length, get_or, take, drop}
use Rattle.modular_theory.specs.Search.{all_below}
use Rattle.code_theory.specs.Parameters.{codeword_length}
use Rattle.code_theory.specs.Component.{is_received}
use Rattle.code_theory.specs.Profiles.{is_profile, profile}
use Rattle.queue_theory.specs.Lists.{all, all_zero, zeros, count}
use Rattle.queue_theory.specs.Layout.{padded_size, is_queue_length, capacity, next_cell, first_free, cell_body, header}
use Rattle.queue_theory.specs.Chains.{chain, ends, used, free}

-- 01: the box number is 1 to 40
abbrev pub is_box : ℕ → Bool
is_box b = leb 1 b && leb b 40

-- the body of a used cell: box, profile, the word's symbols, then zeros
unfoldable pub record_of : ℕ → ℕ → List ℕ → List ℕ
record_of b p w = b ∷ p ∷ (w ++ zeros (padded_size - length w))

-- the test of its bytes after box and profile p: a word as received, and then zeros
unfoldable pub is_padded : ℕ → List ℕ → Bool
is_padded p l =
    let n = codeword_length (profile p) in
    is_profile p && (is_received (profile p) (take n l) && all_zero (drop n l))

-- and of all of them: any box number with any profile
unfoldable pub is_record : List ℕ → Bool
is_record r = is_box (get_or r 0 0) && is_padded (get_or r 1 0) (drop 2 r)

-- the test of cell 0 besides the first cells of both lists (01: the rest zero)
unfoldable pub is_header : List ℕ → Bool
is_header h = all_zero h

-- by kind, true for used: the body of a used cell is a record, and that of a free one is zero
abbrev pub is_body : Bool → List ℕ → Bool
is_body true r = is_record r
is_body false r = all_zero r

-- the number is a cell's, and the cell is as a used or a free one has to be
unfoldable pub is_cell : List ℕ → Bool → ℕ → Bool
is_cell s kind i = leb i (capacity s) && is_body kind (cell_body s i)

-- the list of used or free cells from cell i ends, and has only such cells
unfoldable pub is_list : List ℕ → Bool → ℕ → ℕ → Bool
is_list s kind n i = ends s n i && all (is_cell s kind) (chain s n i)

-- each cell 1 to R is on exactly one list once
unfoldable pub each_once : ℕ → List ℕ → Bool
each_once n l = all_below (λ i. eqb (count (suc i) l) 1) n

-- 01: sound, in cell 0 and in the lists
unfoldable pub sound : List ℕ → Bool
sound s =
    is_header (header s)
    && (is_list s true (capacity s) (next_cell s 0)
    && (is_list s false (capacity s) (first_free s) && each_once (capacity s) (used s ++ free s)))

-- the bytes are a sound queue
pub record Queue (s : List ℕ) : Type 0 where
  pub size : T (is_queue_length (length s))
  pub is_sound : T (sound s)
