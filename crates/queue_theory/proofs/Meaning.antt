-- The tests of a record and of a sound queue decide what 01 calls so.
-- Assumes nothing.
use mathlib.Core.Path.{◌≡◌, refl, sym, ap, ap₂, ◌∙◌}
use mathlib.Core.Bool.{◌&&◌}
use mathlib.Core.List.{List, [], ◌∷◌, ◌++◌}
use Prim.Native.Nat.{ℕ, ◌-◌, ◌≤◌}
use native.Mathlib.Omega.{arith}
use lib.Dec.{T, leb, leb→le, le→leb, eqb, eqb→eq}
use lib.ListN.{length, take, drop, length-drop, take-append-drop}
use lib.Seq.{length-take-le}
use Rattle.modular_theory.proofs.Search.{and_left, and_right, and_intro}
use Rattle.code_theory.specs.Parameters.{codeword_length}
use Rattle.code_theory.specs.Component.{is_received}
use Rattle.code_theory.specs.Profiles.{is_profile, profile}
use Rattle.code_theory.proofs.Whole.{received_symbols}
use Rattle.queue_theory.specs.Lists.{all_zero, zeros}
use Rattle.queue_theory.specs.Layout.{padded_size, Size, body_size, header_size, capacity, cell_body, header}
use Rattle.queue_theory.specs.Chains.{used, free}
use Rattle.queue_theory.specs.Sound.{is_box, record_of, is_padded, is_record, is_header}
use Rattle.queue_theory.specs.Meaning.{Record, Header, SoundQueue}
use Rattle.queue_theory.specs.Claims.{RecordLaw, SoundLaw}
use Rattle.queue_theory.proofs.Counts.{count_append}
use Rattle.queue_theory.proofs.Writes.{length_cell_body, length_header}
use Rattle.queue_theory.proofs.Record.{word_fits, length_record, record_good, zeros_zero}
use Rattle.queue_theory.proofs.Lists.{Lists, lists_of, size_of, queue_is}

pub zeros_are : (l : List ℕ) → T (all_zero l) → l ≡ zeros (length l)
zeros_are [] h = refl
zeros_are (x ∷ l) h =
    ap₂ ◌∷◌ (eqb→eq x 0 (and_left (eqb x 0) (all_zero l) h)) (zeros_are l (and_right (eqb x 0) (all_zero l) h))

-- A record's box b and profile p, and l, the bytes of its word with the zeros after it.
module _ (b p : ℕ) (l : List ℕ) (long : length l ≡ padded_size) (h : T (is_record (b ∷ p ∷ l))) where
  -- the word's symbols, and the bytes after them
  abbrev n : ℕ
  n = codeword_length (profile p)

  abbrev word : List ℕ
  word = take n l

  abbrev rest : List ℕ
  rest = drop n l

  box_good : T (is_box b)
  unfolding is_record
  box_good = and_left (is_box b) _ h

  padded : T (is_profile p && (is_received (profile p) word && all_zero rest))
  unfolding is_record is_padded
  padded = and_right (is_box b) _ h

  profile_good : T (is_profile p)
  profile_good = and_left (is_profile p) _ padded

  past_profile : T (is_received (profile p) word && all_zero rest)
  past_profile = and_right (is_profile p) _ padded

  word_long : length word ≡ n
  word_long = length-take-le n l (omega (arith, word_fits p profile_good))

  rest_long : length rest ≡ padded_size - length word
  rest_long = omega (arith, word_long, length-drop n l)

  cut : l ≡ word ++ zeros (padded_size - length word)
  cut =
      let z = zeros_are rest (and_right (is_received (profile p) word) (all_zero rest) past_profile) in
      sym (take-append-drop n l) ∙ ap (λ (m : List ℕ). word ++ m) (z ∙ ap zeros rest_long)

  record_of_lem : Record (b ∷ p ∷ l)
  unfolding record_of
  record_of_lem =
      record {
        box = b;
        number = p;
        word = word;
        box_least = leb→le 1 b (and_left (leb 1 b) _ box_good);
        box_most = let h = leb→le b _ (and_right (leb 1 b) _ box_good) in omega arith;
        profiled = profile_good;
        long = word_long;
        symbols = (received_symbols (profile p) word).0 (and_left (is_received (profile p) word) (all_zero rest) past_profile);
        bytes = ap (λ (m : List ℕ). b ∷ p ∷ m) cut;
      }

pub to_record : (r : List ℕ) → length r ≡ body_size → T (is_record r) → Record r
to_record [] e h = let z : ⊥ = omega arith in absurd z
to_record (b ∷ []) e h = let z : ⊥ = omega arith in absurd z
to_record (b ∷ p ∷ l) e h = record_of_lem b p l (omega arith) h

module _ (r : List ℕ) (w : Record r) where
  box_is : T (is_box w.box)
  box_is = and_intro (leb 1 w.box) (leb w.box 40) (le→leb 1 w.box w.box_least) (le→leb w.box 40 w.box_most)

  pub from_record : (length r ≡ body_size) × T (is_record r)
  from_record =
      rw w.bytes (
        length_record w.box w.number w.word (omega (arith, w.long, word_fits w.number w.profiled)),
        record_good w.box w.number w.word box_is w.profiled w.long
            ((received_symbols (profile w.number) w.word).1 w.symbols),
      )

pub record_law : RecordLaw
record_law r = (λ h. to_record r h.0 h.1, from_record r)

-- cell 0 besides the first cells of both lists
to_header : (h : List ℕ) → length h ≡ header_size → T (is_header h) → Header h
unfolding is_header
to_header h e t = record { rest = zeros_are h t ∙ ap zeros e }

from_header : (h : List ℕ) → Header h → T (is_header h)
unfolding is_header
from_header h w = rw w.rest (zeros_zero header_size)

module _ (s : List ℕ) (z : Size s (capacity s)) where
  length_of_cell : (i : ℕ) → i ≤ capacity s → length (cell_body s i) ≡ body_size
  length_of_cell i h = length_cell_body s i (omega (arith, z.long))

  to_sound : Lists s (capacity s) (used s) (free s) → SoundQueue s
  to_sound ls =
      record {
        in_header = to_header (header s) (length_header s (omega (arith, z.long))) ls.in_header;
        on_used = used s;
        on_free = free s;
        used_ends = ls.used_from;
        free_ends = ls.free_from;
        used_below = λ i h. (ls.used_cells i h).below;
        free_below = λ i h. (ls.free_cells i h).below;
        used_records = λ i h. let c = ls.used_cells i h in to_record (cell_body s i) (length_of_cell i c.below) c.good;
        free_zero =
            λ i h. let c = ls.free_cells i h in zeros_are (cell_body s i) c.good ∙ ap zeros (length_of_cell i c.below);
        once = λ i h k. sym (count_append i (used s) (free s)) ∙ ls.once i h k;
      }

  to_lists : (q : SoundQueue s) → Lists s (capacity s) q.on_used q.on_free
  to_lists q =
      record {
        size = z;
        in_header = from_header (header s) q.in_header;
        used_from = q.used_ends;
        free_from = q.free_ends;
        used_cells = λ i h. record { below = q.used_below i h; good = (from_record (cell_body s i) (q.used_records i h)).1 };
        free_cells = λ i h. record { below = q.free_below i h; good = rw (q.free_zero i h) (zeros_zero body_size) };
        once = λ i h k. count_append i q.on_used q.on_free ∙ q.once i h k;
      }

pub sound_law : SoundLaw
sound_law s h =
    let z = size_of s h in
    (λ t. to_sound s z (lists_of s (record { size = h; is_sound = t })), λ q. (queue_is (to_lists s z q)).is_sound)
