-- The line so far and the lines answered, over a piece that is cut.
-- Assumes nothing.
use mathlib.Core.Path.{◌≡◌, refl, ap, ◌∙◌}
use mathlib.Core.Logic.{⊎_elim}
use mathlib.Core.Bool.{true, false}
use mathlib.Core.List.{List, [], ◌∷◌, ◌++◌}
use Prim.Native.Nat.{ℕ, zero, suc, ◌+◌, ◌-◌, ◌≤◌, ◌<◌, zero-le, suc-le-suc}
use native.Mathlib.Nat.{le_step}
use native.Mathlib.Omega.{arith}
use lib.Dec.{T, eqb}
use lib.ListN.{length, get_or, take, drop}
use lib.Seq.{take-add}
use borrow.Author.Tests.{le-leb, lt-leb, eq-eqb, ne_eqb}
use Rattle.modular_theory.proofs.Search.{le_or_lt}
use Rattle.code_theory.proofs.Merge.{cases}
use Rattle.lines_theory.specs.Feed.{Partial, held, too_long, Model, line_after, answer_after}
use Rattle.lines_theory.specs.Feed.{feed_from, feed, finishing, is_done, line_after_all}
use Rattle.lines_theory.specs.Feed.{line_ends, last_lines, lines_finished}
use Rattle.lines_theory.proofs.Feed.{feed_on, feed_stop}
use Rattle.lines_theory.proofs.Cutting.{finish_on, finish_stop, done_reaches}

-- Pieces one after the other.

pub line_append : (p : Partial) (s t : List ℕ) → line_after_all p (s ++ t) ≡ line_after_all (line_after_all p s) t
line_append p [] t = refl
line_append p (b ∷ s) t = line_append (line_after p b) s t

pub ends_append : (s t : List ℕ) → line_ends (s ++ t) ≡ line_ends s + line_ends t
ends_append [] t = omega arith
ends_append (b ∷ s) t =
    cases (eqb b 10) (λ e. rw (e, line_ends) (omega (arith, ends_append s t))) (λ e. rw (e, line_ends) (ends_append s t))

-- a piece further into the input
pub line_further : (p : Partial) (input : List ℕ) (at n : ℕ)
    → line_after_all p (take (at + n) input) ≡ line_after_all (line_after_all p (take at input)) (take n (drop at input))
line_further p input at n = ap (line_after_all p) (take-add at n input) ∙ line_append p (take at input) (take n (drop at input))

pub ends_further : (input : List ℕ) (at n : ℕ)
    → line_ends (take (at + n) input) ≡ line_ends (take at input) + line_ends (take n (drop at input))
ends_further input at n = ap line_ends (take-add at n input) ∙ ends_append (take at input) (take n (drop at input))

-- no more lines than bytes
pub ends_few : (n : ℕ) (s : List ℕ) → line_ends (take n s) ≤ n
ends_few zero s = zero-le
ends_few (suc n) [] = zero-le
ends_few (suc n) (b ∷ s) =
    cases (eqb b 10) (λ e. rw (e, line_ends) (suc-le-suc (ends_few n s))) (λ e. rw (e, line_ends) (le_step (ends_few n s)))

-- bytes of which none is byte 10, and then byte 10
pub ends_none : (n : ℕ) (s : List ℕ) → ((j : ℕ) → j < n → get_or s j 0 ≡ 10 → ⊥) → line_ends (take n s) ≡ 0
ends_none zero s none = refl
ends_none (suc n) [] none = refl
ends_none (suc n) (b ∷ s) none =
    let e : eqb b 10 ≡ false = ne_eqb b 10 (none 0 (omega arith)) in
    rw (e, line_ends) (ends_none n s (λ j h. none (suc j) (omega arith)))

pub ends_one : (s : List ℕ) → get_or s 0 0 ≡ 10 → line_ends (take 1 s) ≡ 1
ends_one [] h = absurd (omega arith)
ends_one (b ∷ s) h = let e : eqb b 10 ≡ true = eq-eqb b 10 h in rw (e, line_ends)

-- The line so far after a call is the one after the bytes that it took.

feed_line_from : (p : Partial) (o s : List ℕ) (room : ℕ)
    → (feed_from p o s room).model.line ≡ line_after_all p (take (feed_from p o s room).consumed s)
feed_line_from p o [] room = refl
feed_line_from p o (b ∷ s) room =
    ⊎_elim
    (λ (h : length o ≤ room). rw (feed_on p o b s room h) (feed_line_from (line_after p b) (answer_after p b) s (room - length o)))
    (λ (h : room < length o). rw (feed_stop p o (b ∷ s) room h)) (le_or_lt (length o) room)

pub feed_line : (m : Model) (s : List ℕ) (room : ℕ) → (feed m s room).model.line ≡ line_after_all m.line (take (feed m s room).consumed s)
unfolding feed
feed_line m s room = feed_line_from m.line m.pending s room

-- The last line, over the calls at the end.

pub last_one : (p : Partial) → last_lines p ≤ 1
last_one (held []) = zero-le
last_one (held (b ∷ l)) = omega arith
last_one too_long = omega arith

pub counts_on : (m : Model) (room : ℕ) → length m.pending ≤ room → lines_finished m room ≡ last_lines m.line
unfolding lines_finished
counts_on m room h = rw (le-leb (length m.pending) room h, lines_finished)

pub counts_stop : (m : Model) (room : ℕ) → room < length m.pending → lines_finished m room ≡ 0
unfolding lines_finished
counts_stop m room h = rw (lt-leb (length m.pending) room h, lines_finished)

pub finish_counts : (m : Model) (room : ℕ) → lines_finished m room + last_lines (finishing m room).model.line ≡ last_lines m.line
finish_counts m room =
    ⊎_elim (λ (h : length m.pending ≤ room). rw (finish_on m room h) (omega (arith, counts_on m room h)))
    (λ (h : room < length m.pending). rw (finish_stop m room h) (omega (arith, counts_stop m room h)))
    (le_or_lt (length m.pending) room)

-- a call that is done has answered it
pub done_counts : (m : Model) (room : ℕ) → T (is_done (finishing m room)) → last_lines (finishing m room).model.line ≡ 0
done_counts m room d = rw (finish_on m room (done_reaches m room d))
