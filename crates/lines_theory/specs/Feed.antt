-- The same over an input that comes in pieces, into outputs of any size: what one call takes, gives and leaves for the next.
-- Assumes nothing.
use Rattle.std.specs.Prelude.{Bool, true, false, List, [], ◌∷◌, ◌++◌, ℕ, suc, ◌-◌, leb, ltb, eqb, length, take, drop}
use Rattle.lines_theory.specs.Line.{refusal_line, line_answer}

-- the line so far: its bytes, or that it has run over
pub data Partial : Type 0 where
  held : List ℕ → Partial
  too_long : Partial

-- what is kept between calls: the line so far, and answer bytes that had no room yet
pub record Model : Type 0 where
  pub line : Partial
  pub pending : List ℕ

abbrev pub begin : Model
begin = record { line = held []; pending = [] }

-- one more byte, not byte 10
abbrev pub extended : Partial → ℕ → Partial
extended (held l) b = elim (ltb (length l) 101) [ true ↦ held (l ++ b ∷ []) | false ↦ too_long ]
extended too_long b = too_long

-- the answer where byte 10 ends the line
abbrev pub answer_to : Partial → List ℕ
answer_to (held l) = line_answer l
answer_to too_long = refusal_line 9

-- and where the input ends
abbrev pub answer_at_end : Partial → List ℕ
answer_at_end (held []) = []
answer_at_end (held (b ∷ l)) = line_answer (b ∷ l)
answer_at_end too_long = refusal_line 9

-- the line so far, and the new pending bytes, after the byte b
abbrev pub line_after : Partial → ℕ → Partial
line_after p b = elim (eqb b 10) [ true ↦ held [] | false ↦ extended p b ]

abbrev pub answer_after : Partial → ℕ → List ℕ
answer_after p b = elim (eqb b 10) [ true ↦ answer_to p | false ↦ [] ]

-- what a call leaves for the next, how many bytes of the input it took, and the bytes that it put out
pub record Fed : Type 0 where
  pub model : Model
  pub consumed : ℕ
  pub produced : List ℕ

-- as much of the pending bytes as there is room for; nothing is taken
abbrev pub stopped : Partial → List ℕ → ℕ → Fed
stopped p o room = record { model = record { line = p; pending = drop room o }; consumed = 0; produced = take room o }

-- o is put out and one byte is taken before f
abbrev pub onward : List ℕ → Fed → Fed
onward o f = record { model = f.model; consumed = suc f.consumed; produced = o ++ f.produced }

-- pending bytes o go out first, and a byte is taken only when none is left: the line so far, o, the piece, the room
abbrev pub feed_from : Partial → List ℕ → List ℕ → ℕ → Fed
feed_from p o [] room = stopped p o room
feed_from p o (b ∷ s) room =
    elim (leb (length o) room) [
      | true ↦ onward o (feed_from (line_after p b) (answer_after p b) s (room - length o))
      | false ↦ stopped p o room
    ]

-- a call with a piece s of the input and an output of room bytes
unfoldable pub feed : Model → List ℕ → ℕ → Fed
feed m s room = feed_from m.line m.pending s room

-- a call at the end of the input: the pending bytes, then the answer to a line that no byte 10 ended
unfoldable pub finishing : Model → ℕ → Fed
finishing m room =
    elim (leb (length m.pending) room) [
      | true ↦ record {
        model = record { line = held []; pending = drop (room - length m.pending) (answer_at_end m.line) };
        consumed = 0;
        produced = m.pending ++ take (room - length m.pending) (answer_at_end m.line);
      }
      | false ↦ stopped m.line m.pending room
    ]

abbrev pub is_empty : List ℕ → Bool
is_empty [] = true
is_empty (b ∷ l) = false

-- nothing is left to put out after such a call
unfoldable pub is_done : Fed → Bool
is_done f = is_empty f.model.pending

-- the line so far after the bytes s
abbrev pub line_after_all : Partial → List ℕ → Partial
line_after_all p [] = p
line_after_all p (b ∷ s) = line_after_all (line_after p b) s

-- what is kept once they are taken and all their answers are put out
abbrev pub settled : Model → List ℕ → Model
settled m s = record { line = line_after_all m.line s; pending = [] }

-- Lines answered: each byte 10 ends one, and the end of the input ends one where the line so far is not empty.

abbrev pub line_ends : List ℕ → ℕ
line_ends [] = 0
line_ends (b ∷ s) = elim (eqb b 10) [ true ↦ suc (line_ends s) | false ↦ line_ends s ]

abbrev pub last_lines : Partial → ℕ
last_lines (held []) = 0
last_lines (held (b ∷ l)) = 1
last_lines too_long = 1

-- those that a call at the end of the input answers: none while earlier answers have no room
unfoldable pub lines_finished : Model → ℕ → ℕ
lines_finished m room = elim (leb (length m.pending) room) [ true ↦ last_lines m.line | false ↦ 0 ]

-- a lent output after a call: the bytes put out, then what it held
unfoldable pub overwritten : List ℕ → List ℕ → List ℕ
overwritten o out = o ++ drop (length o) out
