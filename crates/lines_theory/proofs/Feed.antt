-- The conservation law: what a call puts out, and what is still to come after it, are together what was still to come before it.
-- Assumes nothing.
use mathlib.Core.Path.{◌≡◌, refl, sym, ap, ◌∙◌}
use mathlib.Core.Logic.{◌⊎◌, inl, inr, ⊎_elim, ◌≢◌}
use mathlib.Core.List.{List, [], ◌∷◌, ◌++◌, append_assoc}
use Prim.Native.Nat.{ℕ, suc, ◌-◌, ◌≤◌, ◌<◌, zero-le, suc-le-suc}
use native.Mathlib.Nat.{le_of_lt, min-le_left}
use native.Mathlib.Omega.{arith}
use lib.ListN.{length, take, drop, length-append, length-drop, length-take, take-append-drop, drop_of_length-le}
use lib.Seq.{length-take-le}
use borrow.Author.Tests.{le-leb, lt-leb}
use Rattle.modular_theory.proofs.Search.{le_or_lt}
use Rattle.lines_theory.specs.Feed.{Partial, Model, Fed, line_after, answer_after, stopped, onward, feed_from, feed}
use Rattle.lines_theory.specs.Claims.{FeedStops, FeedFits}
use Rattle.lines_theory.proofs.Whole.{output_from}

-- what is still to come: the pending bytes, then the output from the line so far and the input
abbrev pub still : Model → List ℕ → List ℕ
still m s = m.pending ++ output_from m.line s

-- the law, of f as the call with the piece s at p and o
Conserves : Partial → List ℕ → List ℕ → Fed → Type 0
Conserves p o s f = (t : List ℕ) → f.produced ++ still f.model t ≡ o ++ output_from p (take f.consumed s ++ t)

pub stops_conserves : (p : Partial) (o : List ℕ) (room : ℕ) (t : List ℕ)
    → take room o ++ (drop room o ++ output_from p t) ≡ o ++ output_from p t
stops_conserves p o room t = sym (append_assoc (take room o) (drop room o) (output_from p t)) ∙ rw (take-append-drop room o)

-- the two cases of a call with at least one byte of input
pub feed_on : (p : Partial) (o : List ℕ) (b : ℕ) (s : List ℕ) (room : ℕ) → length o ≤ room
    → feed_from p o (b ∷ s) room ≡ onward o (feed_from (line_after p b) (answer_after p b) s (room - length o))
feed_on p o b s room h = rw (le-leb (length o) room h, feed_from)

pub feed_stop : (p : Partial) (o s : List ℕ) (room : ℕ) → room < length o → feed_from p o s room ≡ stopped p o room
feed_stop p o [] room h = refl
feed_stop p o (b ∷ s) room h = rw (lt-leb (length o) room h, feed_from)

feed_conserves : (p : Partial) (o s : List ℕ) (room : ℕ) → Conserves p o s (feed_from p o s room)
unfolding Conserves
feed_conserves p o [] room = λ t. stops_conserves p o room t
feed_conserves p o (b ∷ s) room =
    let f : Fed = feed_from (line_after p b) (answer_after p b) s (room - length o) in
    let next : Conserves (line_after p b) (answer_after p b) s f = feed_conserves (line_after p b) (answer_after p b) s (room - length o) in
    ⊎_elim
    (λ (h : length o ≤ room).
    rw (feed_on p o b s room h) (λ t. append_assoc o f.produced (still f.model t) ∙ ap (λ (l : List ℕ). o ++ l) (next t)))
    (λ (h : room < length o). rw (feed_stop p o (b ∷ s) room h) (λ t. stops_conserves p o room t)) (le_or_lt (length o) room)

pub conserved : (m : Model) (s : List ℕ) (room : ℕ) (t : List ℕ)
    → (feed m s room).produced ++ still (feed m s room).model t ≡ still m (take (feed m s room).consumed s ++ t)
unfolding feed Conserves
conserved m s room t = feed_conserves m.line m.pending s room t

-- Where a call stops.

-- the call with the piece s took it whole and left nothing pending, or it filled its output and left bytes pending
Stops : List ℕ → ℕ → Fed → Type 0
Stops s room f = ((f.consumed ≡ length s) × (f.model.pending ≡ [])) ⊎ ((length f.produced ≡ room) × (f.model.pending ≢ []))

pub drop_nonempty : (room : ℕ) (o : List ℕ) → room < length o → drop room o ≢ []
drop_nonempty room o h e = let k : length o - room ≡ 0 = sym (length-drop room o) ∙ ap length e in omega arith

stopped_full : (p : Partial) (o s : List ℕ) (room : ℕ) → room < length o → Stops s room (stopped p o room)
unfolding Stops
stopped_full p o s room h = inr (length-take-le room o (le_of_lt h), drop_nonempty room o h)

feed_stops_from : (p : Partial) (o s : List ℕ) (room : ℕ) → Stops s room (feed_from p o s room)
unfolding Stops
feed_stops_from p o [] room =
    ⊎_elim (λ (h : length o ≤ room). inl (refl, drop_of_length-le o h)) (λ (h : room < length o). stopped_full p o [] room h)
    (le_or_lt (length o) room)
feed_stops_from p o (b ∷ s) room =
    let f : Fed = feed_from (line_after p b) (answer_after p b) s (room - length o) in
    let next : Stops s (room - length o) f = feed_stops_from (line_after p b) (answer_after p b) s (room - length o) in
    ⊎_elim
    (λ (h : length o ≤ room).
    rw (feed_on p o b s room h)
    (⊎_elim (λ k. inl (ap suc k.0, k.1))
    (λ k. inr (length-append o f.produced ∙ (let z : length f.produced ≡ room - length o = k.0 in omega arith), k.1)) next))
    (λ (h : room < length o). rw (feed_stop p o (b ∷ s) room h) (stopped_full p o (b ∷ s) room h)) (le_or_lt (length o) room)

pub feed_stops : FeedStops
unfolding feed Stops
feed_stops m s room = feed_stops_from m.line m.pending s room

-- and stays within the piece and the output
Fits : List ℕ → ℕ → Fed → Type 0
Fits s room f = (f.consumed ≤ length s) × (length f.produced ≤ room)

stopped_fits : (p : Partial) (o s : List ℕ) (room : ℕ) → Fits s room (stopped p o room)
unfolding Fits
stopped_fits p o s room = (zero-le, rw length-take (min-le_left room (length o)))

feed_fits_from : (p : Partial) (o s : List ℕ) (room : ℕ) → Fits s room (feed_from p o s room)
unfolding Fits
feed_fits_from p o [] room = stopped_fits p o [] room
feed_fits_from p o (b ∷ s) room =
    let f : Fed = feed_from (line_after p b) (answer_after p b) s (room - length o) in
    let next : Fits s (room - length o) f = feed_fits_from (line_after p b) (answer_after p b) s (room - length o) in
    ⊎_elim
    (λ (h : length o ≤ room).
    rw (feed_on p o b s room h)
    (suc-le-suc next.0, rw (length-append o f.produced) (let z : length f.produced ≤ room - length o = next.1 in omega arith)))
    (λ (h : room < length o). rw (feed_stop p o (b ∷ s) room h) (stopped_fits p o (b ∷ s) room)) (le_or_lt (length o) room)

pub feed_fits : FeedFits
unfolding feed Fits
feed_fits m s room = feed_fits_from m.line m.pending s room
