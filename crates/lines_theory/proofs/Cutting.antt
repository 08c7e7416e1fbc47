-- The claims over any cutting: the conservation law, call by call.
-- Assumes nothing.
use mathlib.Core.Path.{◌≡◌, refl, sym, ap, ◌∙◌}
use mathlib.Core.Logic.{inl, inr, ⊎_elim}
use mathlib.Core.List.{List, [], ◌∷◌, ◌++◌, append_assoc, append-nil}
use Prim.Native.Nat.{ℕ, ◌+◌, ◌-◌, ◌≤◌, ◌<◌, min}
use native.Mathlib.Nat.{le_of_lt, min-le_left}
use native.Mathlib.Omega.{arith}
use lib.Dec.{T}
use lib.ListN.{length, take, drop, length-append, length-take, take-append-drop, drop_of_length-le}
use lib.Seq.{length-take-le}
use borrow.Author.Tests.{le-leb, lt-leb}
use Rattle.modular_theory.proofs.Search.{le_or_lt}
use Rattle.lines_theory.specs.Feed.{held, Model, Fed, answer_at_end, stopped, feed, finishing, is_empty, is_done}
use Rattle.lines_theory.specs.Claims.{Calls, none, call, Ending, done, more, CallsGoOn, AnyCutting, FinishFits, FinishStops}
use Rattle.lines_theory.proofs.Whole.{output_from, output_whole}
use Rattle.lines_theory.proofs.Feed.{still, stops_conserves, drop_nonempty, conserved}

-- The calls at the end.

-- the pending bytes have room
abbrev fed_at_end : Model → ℕ → Fed
fed_at_end m r =
    record {
      model = record { line = held []; pending = drop r (answer_at_end m.line) };
      consumed = 0;
      produced = m.pending ++ take r (answer_at_end m.line);
    }

pub finish_on : (m : Model) (room : ℕ) → length m.pending ≤ room → finishing m room ≡ fed_at_end m (room - length m.pending)
unfolding finishing
finish_on m room h = rw (le-leb (length m.pending) room h, finishing)

pub finish_stop : (m : Model) (room : ℕ) → room < length m.pending → finishing m room ≡ stopped m.line m.pending room
unfolding finishing
finish_stop m room h = rw (lt-leb (length m.pending) room h, finishing)

pub finish_conserves : (m : Model) (room : ℕ) → (finishing m room).produced ++ still (finishing m room).model [] ≡ still m []
finish_conserves m room =
    ⊎_elim
    (λ (h : length m.pending ≤ room).
    rw (finish_on m room h)
    (append_assoc m.pending (take (left) end) (drop left end ++ [])
    ∙ ap (λ (l : List ℕ). m.pending ++ (take left end ++ l)) (append-nil (drop left end))
    ∙ ap (λ (l : List ℕ). m.pending ++ l) (take-append-drop left end)))
    (λ (h : room < length m.pending). rw (finish_stop m room h) (stops_conserves m.line m.pending room []))
    (le_or_lt (length m.pending) room)
  where
    left : ℕ
    left = room - length m.pending

    end : List ℕ
    end = answer_at_end m.line

empty_is : (l : List ℕ) → T (is_empty l) → l ≡ []
empty_is [] h = refl
empty_is (b ∷ l) h = absurd h

-- a call that is done had room for the pending bytes
pub done_reaches : (m : Model) (room : ℕ) → T (is_done (finishing m room)) → length m.pending ≤ room
unfolding is_done
done_reaches m room =
    ⊎_elim (λ (h : length m.pending ≤ room). λ d. h)
    (λ (h : room < length m.pending).
    rw (finish_stop m room h) (λ d. absurd (drop_nonempty room m.pending h (empty_is (drop room m.pending) d))))
    (le_or_lt (length m.pending) room)

-- a call that is done leaves nothing to come
done_leaves : (m : Model) (room : ℕ) → T (is_done (finishing m room)) → still (finishing m room).model [] ≡ []
unfolding is_done
done_leaves m room d =
    let e = finish_on m room (done_reaches m room d) in
    rw e (append-nil (drop (room - length m.pending) (answer_at_end m.line)) ∙ empty_is _ (rw e at d))

ending_gives : {m : Model} {o : List ℕ} → Ending m o → o ≡ still m []
ending_gives {m} (done room d) =
    let none = ap (λ (l : List ℕ). (finishing m room).produced ++ l) (sym (done_leaves m room d)) in
    sym (append-nil _) ∙ none ∙ finish_conserves m room
ending_gives {m} (more room e) = ap (λ (l : List ℕ). (finishing m room).produced ++ l) (ending_gives e) ∙ finish_conserves m room

pub finish_fits : FinishFits
finish_fits m room =
    ⊎_elim
    (λ (h : length m.pending ≤ room).
    let left = room - length m.pending in
    let z : min left (length (answer_at_end m.line)) ≤ left = min-le_left _ _ in
    rw (finish_on m room h, length-append, length-take) (omega arith))
    (λ (h : room < length m.pending). rw (finish_stop m room h, length-take) (min-le_left room (length m.pending)))
    (le_or_lt (length m.pending) room)

pub finish_stops : FinishStops
unfolding is_done
finish_stops m room =
    ⊎_elim
    (λ (h : length m.pending ≤ room).
    rw (finish_on m room h)
    (⊎_elim (λ (k : length end ≤ left). inl (rw (drop_of_length-le end k) tt))
    (λ (k : left < length end).
    let z : length (take left end) ≡ left = length-take-le left end (le_of_lt k) in
    inr (length-append m.pending (take left end) ∙ omega arith)) (le_or_lt (length end) left)))
    (λ (h : room < length m.pending). rw (finish_stop m room h) (inr (length-take-le room m.pending (le_of_lt h))))
    (le_or_lt (length m.pending) room)
  where
    left : ℕ
    left = room - length m.pending

    end : List ℕ
    end = answer_at_end m.line

-- The calls before it.

calls_give : {m m' : Model} {i o : List ℕ} → Calls m i o m' → (t : List ℕ) → o ++ still m' t ≡ still m (i ++ t)
calls_give none t = refl
calls_give {m} {m'} (call {i} {o} s room cs) t =
    append_assoc (feed m s room).produced o (still m' t)
    ∙ ap (λ (l : List ℕ). (feed m s room).produced ++ l) (calls_give cs t)
    ∙ conserved m s room (i ++ t)
    ∙ ap (still m) (sym (append_assoc (take (feed m s room).consumed s) i t))

calls_as : {m m' : Model} {i i' o o' : List ℕ} → i ≡ i' → o ≡ o' → Calls m i o m' → Calls m i' o' m'
calls_as e f cs = rw (sym e, sym f) cs

-- one call more, at the end
goes_on : {m m' : Model} {i o : List ℕ} → Calls m i o m' → (s : List ℕ) (room : ℕ)
    → Calls m (i ++ take (feed m' s room).consumed s) (o ++ (feed m' s room).produced) (feed m' s room).model
goes_on {m} none s room = calls_as (append-nil (take (feed m s room).consumed s)) (append-nil (feed m s room).produced) (call s room none)
goes_on {m} {m'} (call {i = i} {o = o} s' room' cs) s room =
    calls_as (sym (append_assoc (take (feed m s' room').consumed s') i (take (feed m' s room).consumed s)))
    (sym (append_assoc (feed m s' room').produced o (feed m' s room).produced)) (call s' room' (goes_on cs s room))

-- a call with room for all that is left is done
ends : (m : Model) → (o : List ℕ) × Ending m o
unfolding is_done
ends m =
    let end = answer_at_end m.line in
    let room = length m.pending + length end in
    let e : finishing m room ≡ fed_at_end m (room - length m.pending) = finish_on m room (omega arith) in
    let reaches : length end ≤ room - length m.pending = omega arith in
    let all : drop (room - length m.pending) end ≡ [] = drop_of_length-le end reaches in
    ((finishing m room).produced, done {m = m} room (rw (e, all) tt))

pub calls_go_on : CallsGoOn
calls_go_on = record { begins = λ m. none; goes_on = goes_on; ends = ends }

pub any_cutting : AnyCutting
any_cutting i o o' m cs e =
    ap (λ (l : List ℕ). o ++ l) (ending_gives e)
    ∙ calls_give cs []
    ∙ ap (λ (l : List ℕ). output_from (held []) l) (append-nil i)
    ∙ output_whole i
