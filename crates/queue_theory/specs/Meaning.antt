-- What a record and a sound queue are, in 01's words. The tests of Sound.antt decide just these (Claims.antt: RecordLaw, SoundLaw).
-- Assumes nothing.
use Rattle.std.specs.Prelude.{◌≡◌, ◌⊎◌, List, ℕ, ◌+◌, ◌≤◌, ◌<◌, T, length, get_or}
use Rattle.code_theory.specs.Parameters.{codeword_length}
use Rattle.code_theory.specs.Profiles.{is_profile, profile}
use Rattle.queue_theory.specs.Lists.{zeros, count}
use Rattle.queue_theory.specs.Layout.{body_size, header_size, capacity, next_cell, first_free, cell_body, header}
use Rattle.queue_theory.specs.Chains.{From}
use Rattle.queue_theory.specs.Sound.{record_of}

-- the bytes are the record of a box number, a profile's number and a received word, which has the profile's length and its levels or
-- erasures
pub record Record (r : List ℕ) : Type 0 where
  pub box : ℕ
  pub number : ℕ
  pub word : List ℕ
  pub box_least : 1 ≤ box
  pub box_most : box ≤ 40
  pub profiled : T (is_profile number)
  pub long : length word ≡ codeword_length (profile number)
  pub symbols : (i : ℕ) → i < length word → (get_or word i 0 < (profile number).q) ⊎ (get_or word i 0 ≡ 255)
  pub bytes : r ≡ record_of box number word

-- cell 0 besides the first cells of both lists: the rest zero
pub record Header (h : List ℕ) : Type 0 where
  pub rest : h ≡ zeros header_size

-- 01: sound; `on_used` and `on_free` are the cells of the two chains
pub record SoundQueue (s : List ℕ) : Type 0 where
  -- cell 0 from byte 2 to byte 103
  pub in_header : Header (header s)
  -- both chains end
  pub on_used : List ℕ
  pub on_free : List ℕ
  pub used_ends : From s (next_cell s 0) on_used
  pub free_ends : From s (first_free s) on_free
  -- and meet only cells up to R
  pub used_below : (i : ℕ) → 1 ≤ count i on_used → i ≤ capacity s
  pub free_below : (i : ℕ) → 1 ≤ count i on_free → i ≤ capacity s
  -- a used cell has a record, and a free cell is zero after byte 0
  pub used_records : (i : ℕ) → 1 ≤ count i on_used → Record (cell_body s i)
  pub free_zero : (i : ℕ) → 1 ≤ count i on_free → cell_body s i ≡ zeros body_size
  -- each cell 1 to R is on exactly one chain once
  pub once : (i : ℕ) → 1 ≤ i → i ≤ capacity s → count i on_used + count i on_free ≡ 1
