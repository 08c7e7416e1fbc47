-- How a queue (01: sheet) lies in bytes: R + 1 cells of 104 bytes. Cell 0 has the first cells of both lists; byte 0 of each other
-- cell is the next cell, and the 103 bytes after it are the cell's body.
-- Assumes nothing.
use Rattle.std.specs.Prelude.{◌≡◌, Bool, ◌&&◌, List, ◌++◌, ℕ, ◌+◌, ◌-◌, ◌*◌, ◌/◌, ◌%◌, ◌≤◌, eqb, leb, length, get_or, take, drop, set}

abbrev pub cell_size : ℕ
cell_size = 104

abbrev pub body_size : ℕ
body_size = cell_size - 1

-- a used cell's body without box and profile: the word and the zeros after it
abbrev pub padded_size : ℕ
padded_size = body_size - 2

-- what cell 0 holds besides the first cells of both lists
abbrev pub header_size : ℕ
header_size = cell_size - 2

-- 01, number 5: the length is 104 times a number from 2 to 256
unfoldable pub is_queue_length : ℕ → Bool
is_queue_length n = eqb (n % cell_size) 0 && (leb 2 (n / cell_size) && leb (n / cell_size) 256)

-- 01: R, the number of cells besides cell 0
unfoldable pub capacity : List ℕ → ℕ
capacity s = length s / cell_size - 1

-- the bytes are R + 1 cells, R from 1 to 255
pub record Size (s : List ℕ) (R : ℕ) : Type 0 where
  pub long : length s ≡ (R + 1) * cell_size
  pub some : 1 ≤ R
  pub few : R ≤ 255

-- byte 0 of cell i; of cell 0 it is the first used cell
abbrev pub next_cell : List ℕ → ℕ → ℕ
next_cell s i = get_or s (i * cell_size) 0

-- byte 1 of cell 0
abbrev pub first_free : List ℕ → ℕ
first_free s = get_or s 1 0

-- cell i without byte 0
abbrev pub cell_body : List ℕ → ℕ → List ℕ
cell_body s i = take body_size (drop (i * cell_size + 1) s)

-- cell 0 after the first cells of both lists: bytes 2 to 103
abbrev pub header : List ℕ → List ℕ
header s = take header_size (drop 2 s)

-- the queue with another number in each of those places
abbrev pub set_next : List ℕ → ℕ → ℕ → List ℕ
set_next s i x = set s (i * cell_size) x

abbrev pub set_first_free : List ℕ → ℕ → List ℕ
set_first_free s x = set s 1 x

abbrev pub set_body : List ℕ → ℕ → List ℕ → List ℕ
set_body s i b = take (i * cell_size + 1) s ++ (b ++ drop body_size (drop (i * cell_size + 1) s))
