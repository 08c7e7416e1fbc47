-- The turns of the loop of `step`, against the definition `feed_from`: what is left to do comes at every turn to the same.
-- Assumes nothing.
use mathlib.Core.Path.{◌≡◌, refl, sym, ap, ◌∙◌}
use mathlib.Core.Logic.{⊎_elim}
use mathlib.Core.Bool.{true, false}
use mathlib.Core.List.{List, [], ◌∷◌, ◌++◌, append_assoc}
use Prim.Native.Nat.{ℕ, zero, suc, ◌+◌, ◌-◌, ◌≤◌, ◌<◌, zero-le}
use native.Mathlib.Numerals.{add-one}
use native.Mathlib.Omega.{arith}
use lib.Dec.{eqb}
use lib.ListN.{length, get_or, take, drop, length-drop, take-append-drop}
use lib.Seq.{drop-drop, take-add, drop-cons}
use borrow.Author.Tests.{eq-eqb, ne_eqb}
use Rattle.modular_theory.proofs.Search.{le_or_lt}
use Rattle.lines_theory.specs.Feed.{Partial, held, Fed, extended, answer_to, line_after, answer_after, stopped, onward, feed_from}
use Rattle.lines_theory.proofs.Whole.{line_ends_lem, line_grows}
use Rattle.lines_theory.proofs.Feed.{feed_on, feed_stop}
use Rattle.lines.specs.Lines.{extended_by}

-- o was put out and k bytes were taken before f
abbrev pub ahead : ℕ → List ℕ → Fed → Fed
ahead k o f = record { model = f.model; consumed = k + f.consumed; produced = o ++ f.produced }

fed_same : {f g : Fed} → f.model ≡ g.model → f.consumed ≡ g.consumed → f.produced ≡ g.produced → f ≡ g
fed_same {f} {g} a b c = λ i. record { model = a i; consumed = b i; produced = c i }

pub ahead_ahead : (k l : ℕ) (a b : List ℕ) (f : Fed) → ahead k a (ahead l b f) ≡ ahead (k + l) (a ++ b) f
ahead_ahead k l a b f = fed_same refl (omega arith) (sym (append_assoc a b f.produced))

-- Putting out n of the pending bytes first changes nothing.

emit_stopped : (p : Partial) (o : List ℕ) (room n : ℕ) → n ≤ room → stopped p o room ≡ ahead 0 (take n o) (stopped p (drop n o) (room - n))
emit_stopped p o room n h =
    let e : n + (room - n) ≡ room = omega arith in
    fed_same (ap (λ (l : List ℕ). record { line = p; pending = l }) (sym (drop-drop (room - n) n o ∙ ap (λ (i : ℕ). drop i o) e)))
    (omega arith) (ap (λ (i : ℕ). take i o) (sym e) ∙ take-add n (room - n) o)

emit_onward : (o : List ℕ) (n : ℕ) (f : Fed) → onward o f ≡ ahead 0 (take n o) (onward (drop n o) f)
emit_onward o n f =
    let split = ap (λ (l : List ℕ). l ++ f.produced) (sym (take-append-drop n o)) in
    fed_same refl (omega arith) (split ∙ append_assoc (take n o) (drop n o) f.produced)

emit_on : (p : Partial) (o s : List ℕ) (room n : ℕ) → n ≤ length o → length o ≤ room
    → feed_from p o s room ≡ ahead 0 (take n o) (feed_from p (drop n o) s (room - n))
emit_on p o [] room n h l = emit_stopped p o room n (omega arith)
emit_on p o (b ∷ s) room n h l =
    let e : length (drop n o) ≡ length o - n = length-drop n o in
    let r : room - n - length (drop n o) ≡ room - length o = omega arith in
    feed_on p o b s room l
    ∙ emit_onward o n (feed_from (line_after p b) (answer_after p b) s (room - length o))
    ∙ ap (λ (i : ℕ). ahead 0 (take n o) (onward (drop n o) (feed_from (line_after p b) (answer_after p b) s i))) (sym r)
    ∙ ap (ahead 0 (take n o)) (sym (feed_on p (drop n o) b s (room - n) (omega arith)))

pub emit_law : (p : Partial) (o s : List ℕ) (room n : ℕ) → n ≤ length o → n ≤ room
    → feed_from p o s room ≡ ahead 0 (take n o) (feed_from p (drop n o) s (room - n))
emit_law p o s room n h k =
    ⊎_elim (emit_on p o s room n h)
    (λ (l : room < length o).
    let e : length (drop n o) ≡ length o - n = length-drop n o in
    feed_stop p o s room l
    ∙ emit_stopped p o room n k
    ∙ ap (ahead 0 (take n o)) (sym (feed_stop p (drop n o) s (room - n) (omega arith)))) (le_or_lt (length o) room)

-- Taking bytes of a line, where nothing is pending.

take_byte : (p : Partial) (at b : ℕ) (o s : List ℕ) (room : ℕ)
    → ahead at o (feed_from p [] (b ∷ s) room) ≡ ahead (suc at) o (feed_from (line_after p b) (answer_after p b) s room)
take_byte p at b o s room =
    let r : room - 0 ≡ room = omega arith in
    ap (ahead at o) (feed_on p [] b s room zero-le ∙ ap (λ (i : ℕ). onward [] (feed_from (line_after p b) (answer_after p b) s i)) r)
    ∙ fed_same refl (omega arith) refl

-- n bytes, none of them byte 10
pub piece_law : (s : List ℕ) (n at : ℕ) (p : Partial) (o : List ℕ) (room : ℕ) → n ≤ length s → ((j : ℕ) → j < n → get_or s j 0 ≡ 10 → ⊥)
    → ahead at o (feed_from p [] s room) ≡ ahead (at + n) o (feed_from (extended_by p (take n s)) [] (drop n s) room)
piece_law s zero at p o room h none = let e : at + 0 ≡ at = omega arith in rw e
piece_law [] (suc n) at p o room h none = absurd (omega arith)
piece_law (b ∷ s) (suc n) at p o room h none =
    let t : eqb b 10 ≡ false = ne_eqb b 10 (none 0 (omega arith)) in
    let e : suc at + n ≡ at + suc n = omega arith in
    take_byte p at b o s room
    ∙ rw ((line_grows p b t).0, (line_grows p b t).1)
    (piece_law s n (suc at) (extended p b) o room (omega arith) (λ j k. none (suc j) (omega arith)))
    ∙ ap (λ (i : ℕ). ahead i o (feed_from (extended_by (extended p b) (take n s)) [] (drop n s) room)) e

-- and byte 10
pub end_law : (input : List ℕ) (at : ℕ) (p : Partial) (o : List ℕ) (room : ℕ) → at < length input → get_or input at 0 ≡ 10
    → ahead at o (feed_from p [] (drop at input) room) ≡ ahead (at + 1) o (feed_from (held []) (answer_to p) (drop (at + 1) input) room)
end_law input at p o room h e =
    let b = get_or input at 0 in
    let t : eqb b 10 ≡ true = eq-eqb b 10 e in
    rw (add-one at, drop-cons input at 0 h)
    (take_byte p at b o (drop (suc at) input) room ∙ rw ((line_ends_lem p b t).0, (line_ends_lem p b t).1))
