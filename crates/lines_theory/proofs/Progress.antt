-- Why the loops end: what is still to come gets shorter with every byte that is put out.
-- Assumes nothing.
use mathlib.Core.Path.{◌≡◌, sym, ap, ◌∙◌}
use mathlib.Core.Logic.{⊎_elim}
use mathlib.Core.Bool.{false}
use mathlib.Core.List.{List, [], ◌++◌}
use Prim.Native.Nat.{ℕ, ◌+◌, ◌-◌, ◌≤◌, ◌<◌, min}
use native.Mathlib.Nat.{le_of_lt, min-eq_left, min-eq_right}
use native.Mathlib.Omega.{arith}
use lib.Dec.{T}
use lib.ListN.{length, take, drop, length-append, length-drop, take-append-drop}
use lib.Seq.{take_all, take-length, drop-drop}
use Rattle.modular_theory.proofs.Search.{le_or_lt}
use Rattle.lines_theory.specs.Feed.{Model, Fed, feed, finishing, is_done, line_ends, lines_finished}
use Rattle.lines_theory.proofs.Feed.{still, conserved, feed_fits, feed_stops}
use Rattle.lines_theory.proofs.Cutting.{finish_conserves, finish_stops, finish_fits}

-- a call of step with the input from an index on
abbrev pub piece : List ℕ → ℕ → List ℕ
piece input at = take (length input - at) (drop at input)

pub piece_is : (input : List ℕ) (at : ℕ) → piece input at ≡ drop at input
piece_is input at = take_all (length input - at) (drop at input) (rw length-drop (omega arith))

-- a prefix that is asked for past the end
pub take_min : (k : ℕ) (s : List ℕ) → take (min k (length s)) s ≡ take k s
take_min k s =
    ⊎_elim (λ (h : k ≤ length s). rw (min-eq_left h))
    (λ (h : length s < k). rw (min-eq_right (le_of_lt h)) (take-length s ∙ sym (take_all k s (le_of_lt h)))) (le_or_lt k (length s))

call_less : (m : Model) (s : List ℕ) (room : ℕ) → 0 < length (feed m s room).produced
    → length (still (feed m s room).model (drop (feed m s room).consumed s)) < length (still m s)
call_less m s room h =
    let f = feed m s room in
    let law : f.produced ++ still f.model (drop f.consumed s) ≡ still m s =
    conserved m s room (drop f.consumed s) ∙ ap (still m) (take-append-drop f.consumed s)
    in
    omega (arith, ap length law, length-append f.produced (still f.model (drop f.consumed s)))

pub piece_length : (input : List ℕ) (at : ℕ) → length (piece input at) ≡ length input - at
piece_length input at = ap length (piece_is input at) ∙ length-drop at input

-- a call with any piece
pub call_fits : (m : Model) (s : List ℕ) (room consumed produced : ℕ) → consumed ≡ (feed m s room).consumed
    → produced ≡ length (feed m s room).produced → (consumed ≤ length s) × (produced ≤ room)
call_fits m s room consumed produced e f = rw (e, f) (feed_fits m s room)

-- a call with the input from an index on
abbrev pub fed_at : Model → List ℕ → ℕ → ℕ → Fed
fed_at m input at room = feed m (piece input at) room

-- What the contract of `lines::step` says of such a call: the models before and after it, the bytes that it took and put out, and the lines
-- that it answered.
pub record StepCall (input : List ℕ) (at room : ℕ) (m m' : Model) (consumed produced answered : ℕ) : Type 0 where
  pub model : m' ≡ (fed_at m input at room).model
  pub taken : consumed ≡ (fed_at m input at room).consumed
  pub put : produced ≡ length (fed_at m input at room).produced
  pub counted : answered ≡ line_ends (take consumed (piece input at))

module _ {input : List ℕ} {at room : ℕ} {m m' : Model} {consumed produced answered : ℕ}
    (c : StepCall input at room m m' consumed produced answered) where
  pub step_reaches : at ≤ length input → at + consumed ≤ length input
  step_reaches h = omega (arith, (call_fits m (piece input at) room consumed produced c.taken c.put).0, piece_length input at)

  pub step_fits : produced ≤ room
  step_fits = (call_fits m (piece input at) room consumed produced c.taken c.put).1

  -- a call that does not fill its output takes the whole piece and leaves nothing pending
  step_rests : produced < room
      → ((fed_at m input at room).consumed ≡ length (piece input at)) × ((fed_at m input at room).model.pending ≡ [])
  step_rests h =
      ⊎_elim (λ k. k) (λ k. absurd (let e : length (fed_at m input at room).produced ≡ room = k.0 in omega (arith, c.put)))
      (feed_stops m (piece input at) room)

  pub step_empties : produced < room → m'.pending ≡ []
  step_empties h = rw c.model (step_rests h).1

  pub step_whole : at ≤ length input → produced < room → at + consumed ≡ length input
  step_whole l h = omega (arith, c.taken, (step_rests h).0, piece_length input at)

  pub step_less : 0 < produced → length (still m' (drop (at + consumed) input)) < length (still m (drop at input))
  step_less h =
      rw (c.model, ← drop-drop consumed at input, c.taken, piece_is input at)
      (call_less m (drop at input) room (rw (piece_is input at) at (rw c.put at h)))

-- What the contract of `lines::finish` says of a call, in the same way.
pub record FinishCall (room : ℕ) (m m' : Model) (produced answered : ℕ) : Type 0 where
  pub model : m' ≡ (finishing m room).model
  pub put : produced ≡ length (finishing m room).produced
  pub counted : answered ≡ lines_finished m room

finish_less : (m : Model) (room : ℕ) → 0 < length (finishing m room).produced
    → length (still (finishing m room).model []) < length (still m [])
finish_less m room h =
    omega (arith, ap length (finish_conserves m room), length-append (finishing m room).produced (still (finishing m room).model []))

module _ {room : ℕ} {m m' : Model} {produced answered : ℕ} (c : FinishCall room m m' produced answered) where
  pub finish_within : produced ≤ room
  finish_within = rw c.put (finish_fits m room)

  pub finish_goes_on : false ≡ is_done (finishing m room) → 0 < room → length (still m' []) < length (still m [])
  finish_goes_on d h =
      let some : 0 < length (finishing m room).produced =
      ⊎_elim (λ (t : T (is_done (finishing m room))). absurd (rw (sym d) at t)) (λ e. omega arith) (finish_stops m room) in
      rw c.model (finish_less m room some)
