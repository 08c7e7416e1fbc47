-- The loops of `answer` and `finish`, against the definitions of specs/Turns.antt.
-- Assumes nothing.
use Rattle.std.proofs.Common.{◌≡◌, ℕ, ◌+◌, ◌<◌, ◌≤◌, true, T, List, [], length, take, drop, sym, ap, ◌∙◌, arith, take_all}
use Rattle.lines_theory.specs.Feed.{Partial, Model, feed, finishing, is_done, line_after_all, settled, line_ends, last_lines}
use Rattle.lines_theory.proofs.Progress.{piece, piece_is, StepCall, step_reaches, step_whole, step_empties, FinishCall}
use Rattle.lines_theory.proofs.Counting.{line_further, ends_further, feed_line, finish_counts, done_counts, last_one}

-- the first `at` bytes of the piece are taken: the line so far, and the lines answered
pub record Sofar (m₀ : Model) (input : List ℕ) (at : ℕ) (m : Model) (lines : ℕ) : Type 0 where
  pub within : at ≤ length input
  pub line : m.line ≡ line_after_all m₀.line (take at input)
  pub counted : lines ≡ line_ends (take at input)

module _ {m₀ : Model} {input : List ℕ} {at room : ℕ} {m m' : Model} {consumed produced answered lines : ℕ}
    (c : StepCall input at room m m' consumed produced answered) (s : Sofar m₀ input at m lines) where
  -- a call of step
  pub further : Sofar m₀ input (at + consumed) m' (lines + answered)
  further =
      let here : take (feed m (piece input at) room).consumed (piece input at) ≡ take consumed (drop at input) =
      ap (λ (n : ℕ). take n (piece input at)) (sym c.taken) ∙ ap (take consumed) (piece_is input at)
      in
      record {
        within = step_reaches c s.within;
        line =
            ap (λ (x : Model). x.line) c.model
            ∙ feed_line m (piece input at) room
            ∙ ap (line_after_all m.line) here
            ∙ ap (λ (p : Partial). line_after_all p (take consumed (drop at input))) s.line
            ∙ sym (line_further m₀.line input at consumed);
        counted = rw (s.counted, c.counted, piece_is input at) (sym (ends_further input at consumed));
      }

  -- the last of them, which did not fill its output
  pub settles : produced < room → (m' ≡ settled m₀ input) × (lines + answered ≡ line_ends input)
  settles h =
      let all : at + consumed ≡ length input = step_whole c s.within h in
      let e : take (at + consumed) input ≡ input = take_all (at + consumed) input (omega arith) in
      let line : m'.line ≡ line_after_all m₀.line input = further.line ∙ ap (line_after_all m₀.line) e in
      let none : m'.pending ≡ [] = step_empties c h in
      ((λ i. record { line = line i; pending = none i }), further.counted ∙ ap line_ends e)

-- the last line is answered, or still to be
pub record Remains (m₀ m : Model) (lines : ℕ) : Type 0 where
  pub sum : lines + last_lines m.line ≡ last_lines m₀.line

module _ {m₀ : Model} {room : ℕ} {m m' : Model} {produced answered lines : ℕ} (c : FinishCall room m m' produced answered)
    (s : Remains m₀ m lines) where
  -- a call of finish
  pub last_further : Remains m₀ m' (lines + answered)
  last_further = record { sum = rw (c.model, c.counted) (omega (arith, finish_counts m room, s.sum)) }

  pub last_few : lines + answered ≤ 1
  last_few = omega (arith, last_further.sum, last_one m₀.line)

  pub last_done : true ≡ is_done (finishing m room) → lines + answered ≡ last_lines m₀.line
  last_done d =
      let t : T (is_done (finishing m room)) = rw (sym d) tt in
      let z : last_lines m'.line ≡ 0 = rw c.model (done_counts m room t) in
      omega (arith, last_further.sum)
