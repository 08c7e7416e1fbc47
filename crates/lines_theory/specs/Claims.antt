-- What is claimed of the line program, each claim a named type, all of them fields of one record. proofs/Claims.antt has a term of it.
-- Assumes nothing.
use Rattle.std.specs.Prelude.{◌≡◌, ◌⊎◌, ◌≢◌, List, [], ◌++◌, ℕ, ◌+◌, ◌≤◌, T, length, take}
use Rattle.lines_theory.specs.Line.{refusal_line, line_answer}
use Rattle.lines_theory.specs.Stream.{stream_output}
use Rattle.lines_theory.specs.Examples.{AllPrint, examples}
use Rattle.lines_theory.specs.Feed.{held, Model, begin, feed, finishing, is_done, line_after_all, line_ends, last_lines}

-- Calls over an input cut anywhere, into outputs of any size.

-- calls from m to m' that took the bytes i and put out the bytes o; each is offered some piece s, of which it may take a part
pub data Calls : Model → List ℕ → List ℕ → Model → Type 0 where
  none : {m : Model} → Calls m [] [] m
  call : {m m' : Model} {i o : List ℕ} (s : List ℕ) (room : ℕ) → Calls (feed m s room).model i o m'
      → Calls m (take (feed m s room).consumed s ++ i) ((feed m s room).produced ++ o) m'

-- calls at the end of the input, until one is done, that put out o
pub data Ending : Model → List ℕ → Type 0 where
  done : {m : Model} (room : ℕ) → T (is_done (finishing m room)) → Ending m (finishing m room).produced
  more : {m : Model} {o : List ℕ} (room : ℕ) → Ending (finishing m room).model o → Ending m ((finishing m room).produced ++ o)

-- such calls begin at any model, can go on with any piece and any room, and can be ended
pub record CallsGoOn : Type 0 where
  pub begins : (m : Model) → Calls m [] [] m
  pub goes_on : {m m' : Model} {i o : List ℕ} → Calls m i o m' → (s : List ℕ) (room : ℕ)
      → Calls m (i ++ take (feed m' s room).consumed s) (o ++ (feed m' s room).produced) (feed m' s room).model
  pub ends : (m : Model) → (o : List ℕ) × Ending m o

-- what is put out does not depend on how the input is cut or how long the outputs are
abbrev pub AnyCutting : Type 0
AnyCutting = (i o o' : List ℕ) (m : Model) → Calls begin i o m → Ending m o' → o ++ o' ≡ stream_output i

-- a call takes its whole piece and leaves nothing pending, or it fills its output and leaves bytes pending: no room is no refusal
abbrev pub FeedStops : Type 0
FeedStops =
    (m : Model) (s : List ℕ) (room : ℕ)
    → (((feed m s room).consumed ≡ length s) × ((feed m s room).model.pending ≡ []))
    ⊎ ((length (feed m s room).produced ≡ room) × ((feed m s room).model.pending ≢ []))

-- it takes no more than the piece, puts out no more than there is room for
abbrev pub FeedFits : Type 0
FeedFits =
    (m : Model) (s : List ℕ) (room : ℕ) → ((feed m s room).consumed ≤ length s) × (length (feed m s room).produced ≤ room)

abbrev pub FinishFits : Type 0
FinishFits = (m : Model) (room : ℕ) → length (finishing m room).produced ≤ room

-- a call at the end is done, or it fills its output
abbrev pub FinishStops : Type 0
FinishStops = (m : Model) (room : ℕ) → T (is_done (finishing m room)) ⊎ (length (finishing m room).produced ≡ room)

-- 01: "A longer line gives a single 9"
abbrev pub LongLine : Type 0
LongLine = (l : List ℕ) → 102 ≤ length l → line_answer l ≡ refusal_line 9

-- each line gets one answer: the output has as many ended lines as the input has lines
abbrev pub OneAnswerEach : Type 0
OneAnswerEach = (i : List ℕ) → line_ends (stream_output i) ≡ line_ends i + last_lines (line_after_all (held []) i)

-- 01's example, whole, and short inputs
abbrev pub ExamplesPrint : Type 0
ExamplesPrint = AllPrint examples

pub record Claims : Type 0 where
  pub calls_go_on : CallsGoOn
  pub any_cutting : AnyCutting
  pub feed_stops : FeedStops
  pub feed_fits : FeedFits
  pub finish_fits : FinishFits
  pub finish_stops : FinishStops
  pub long_line : LongLine
  pub one_answer_each : OneAnswerEach
  pub examples_print : ExamplesPrint
