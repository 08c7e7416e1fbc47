-- What comes of one read: the state after it, how many lines were answered, and whether the program goes on.
-- Assumes nothing.
use Rattle.std.specs.Prelude.{◌≡◌, ℕ, zero, suc, Option, Some, None, Result, Ok, Err, List, take}
use Rattle.lines_theory.specs.Feed.{Model, settled, line_ends, last_lines}
use Rattle.lines.specs.States.{model_of}
use Rattle.boxlines.specs.declared.Failure.{Failure}
use Rattle.boxlines.specs.declared.Failure.TheVariants.{Read, Write}
use Rattle.boxlines.specs.declared.Answered.{Answered}
use Rattle.boxlines.specs.declared.Next.{Next}
use Rattle.boxlines.specs.declared.Next.TheVariants.{More, Ended}

-- From the model m with the bytes s to that of a state with nothing pending, and how many lines they end; or a write failed, and none of
-- these lines counts. What was written is not said: no contract can.
unfoldable pub AnswersPiece : Model → List ℕ → Result Answered Failure → Type 0
AnswersPiece m s (Ok a) = (model_of a.state ≡ settled m s) × (a.lines ≡ line_ends s)
AnswersPiece m s (Err f) = f ≡ Write

-- from the model m at the end of the input: the line so far is answered, if it is not empty
unfoldable pub AnswersEnd : Model → Result ℕ Failure → Type 0
AnswersEnd m (Ok lines) = lines ≡ last_lines m.line
AnswersEnd m (Err f) = f ≡ Write

-- what read returned: that it failed, the end of the input, or how many bytes it put at the start of the buffer s
unfoldable pub AnswersRead : Model → Option ℕ → List ℕ → Result Next Failure → Type 0
AnswersRead m None s r = r ≡ Err Read
AnswersRead m (Some zero) s (Ok (More a)) = ⊥
AnswersRead m (Some zero) s (Ok (Ended lines)) = AnswersEnd m (Ok lines)
AnswersRead m (Some zero) s (Err f) = AnswersEnd m (Err f)
AnswersRead m (Some (suc k)) s (Ok (More a)) = AnswersPiece m (take (suc k) s) (Ok a)
AnswersRead m (Some (suc k)) s (Ok (Ended lines)) = ⊥
AnswersRead m (Some (suc k)) s (Err f) = AnswersPiece m (take (suc k) s) (Err f)
