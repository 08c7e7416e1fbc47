-- The loop of `step`: its invariant, and what each part of a turn does to it.
-- Assumes nothing.
use Rattle.std.proofs.Common.{◌≡◌, ℕ, ◌+◌, ◌-◌, ◌<◌, ◌≤◌, Some, None, List, [], ◌++◌, min, length, take, drop, refl, sym, ap, ◌∙◌, append_assoc, append-nil, zero-le, zero-add, arith, length-drop, length-take-le, take-append-drop, drop-drop, get_or-drop}
use Rattle.std.proofs.lemmas.List.{take_rest}
use lib.ListN.{drop_of_length-le}
use lib.Seq.{paste, take-paste, drop-paste, length-paste, take-length, take-nil, drop-nil}
use Rattle.lines_theory.specs.Feed.{Partial, held, Model, Fed, answer_to, feed_from, overwritten}
use Rattle.lines_theory.proofs.Feed.{feed_stop}
use Rattle.lines.specs.Lines.{extended_by}
use Rattle.lines.specs.Ends.{first_end}
use Rattle.lines.proofs.Ends.{NoneBefore, end_at, end_none}
use Rattle.lines.proofs.Turns.{ahead, ahead_ahead, emit_law, piece_law, end_law}

-- `goal` is what the whole call comes to: of it, k bytes of the input are taken and the output has its first bytes, with the line so far
-- and the bytes o pending
pub record Turn (goal : Fed) (input out₀ : List ℕ) (p : Partial) (o : List ℕ) (consumed produced : ℕ) (out : List ℕ) : Type 0 where
  pub taken : consumed ≤ length input
  pub put : produced ≤ length out₀
  pub same : length out ≡ length out₀
  pub rest : drop produced out ≡ drop produced out₀
  pub left : goal ≡ ahead consumed (take produced out) (feed_from p o (drop consumed input) (length out₀ - produced))

-- Putting out.

-- the output from an index on, as a slice, and the output after that slice holds x
abbrev pub slice_from : List ℕ → ℕ → List ℕ
slice_from out at = take (length out - at) (drop at out)

abbrev pub with_slice : List ℕ → ℕ → List ℕ → List ℕ
with_slice out at x = take at out ++ (x ++ drop (length out - at) (drop at out))

-- n of the bytes o, put there
pasted : (out o : List ℕ) (at n : ℕ) → at + n ≤ length out → n ≤ length o
    → with_slice out at (overwritten (take n o) (slice_from out at)) ≡ paste out at o n
unfolding overwritten
pasted out o at n h k =
    let w : length (take n o) ≡ n = length-take-le n o k in
    let none : drop (length out - at) (drop at out) ≡ [] = drop_of_length-le (drop at out) (rw length-drop (omega arith)) in
    rw (w, take_rest, drop-drop n at out, none, append-nil) (sym (append_assoc (take at out) (take n o) (drop (at + n) out)))

module _ {goal : Fed} {input out₀ : List ℕ} {p : Partial} {o : List ℕ} {consumed produced n : ℕ} {out : List ℕ}
    (t : Turn goal input out₀ p o consumed produced out) (count : n ≡ min (length o) (length (slice_from out produced))) where
  room : length (slice_from out produced) ≡ length out₀ - produced
  room = rw take_rest (length-drop produced out ∙ ap (λ (l : ℕ). l - produced) t.same)

  few : n ≤ length o
  few = omega (arith, count)

  fits : produced + n ≤ length out
  fits = omega (arith, count, room, t.put, t.same)

  pub emitted : Turn goal input out₀ p (drop n o) consumed (produced + n)
      (with_slice out produced (overwritten (take n o) (slice_from out produced)))
  emitted =
      let rest = drop consumed input in
      let left = length out₀ - produced in
      let c : consumed + 0 ≡ consumed = omega arith in
      let r : left - n ≡ length out₀ - (produced + n) = omega arith in
      rw (pasted out o produced n fits few)
      (record {
        taken = t.taken;
        put = omega (arith, fits, t.same);
        same = length-paste out produced o n fits few ∙ t.same;
        rest =
            drop-paste out produced o n (omega (arith, fits)) few
            ∙ sym (drop-drop n produced out)
            ∙ ap (drop n) t.rest
            ∙ drop-drop n produced out₀;
        left =
            t.left
            ∙ ap (ahead consumed (take produced out)) (emit_law p o rest left n few (omega (arith, fits, t.same)))
            ∙ ahead_ahead consumed 0 (take produced out) (take n o) (feed_from p (drop n o) rest (left - n))
            ∙ rw (c, r)
            (ap (λ (x : List ℕ). ahead consumed x (feed_from p (drop n o) rest (length out₀ - (produced + n))))
            (sym (take-paste out produced o n (omega (arith, fits)) few)));
      })

  -- they did not all have room
  pub full : 0 < length (drop n o) → produced + n ≡ length out₀
  full h = omega (arith, h, length-drop n o, count, room, t.put)

-- Taking input, where nothing is pending.

module _ {goal : Fed} {input out₀ : List ℕ} {p : Partial} {o : List ℕ} {consumed produced : ℕ} {out : List ℕ}
    (t : Turn goal input out₀ p o consumed produced out) (none : o ≡ []) where
  -- what is left to do, after n bytes of the line in this piece
  resumes : (n : ℕ) → consumed + n ≤ length input → NoneBefore (drop consumed input) n
      → goal
      ≡ ahead (consumed + n) (take produced out)
      (feed_from (extended_by p (take n (drop consumed input))) [] (drop (consumed + n) input) (length out₀ - produced))
  resumes n h e =
      t.left
      ∙ ap (λ (l : List ℕ). ahead consumed (take produced out) (feed_from p l (drop consumed input) (length out₀ - produced))) none
      ∙ piece_law (drop consumed input) n consumed p (take produced out) (length out₀ - produced) (rw length-drop (omega arith)) e
      ∙ rw (drop-drop n consumed input) refl

  -- byte 10 came: the answer to the line is pending
  pub answered : {n : ℕ} → Some n ≡ first_end (drop consumed input)
      → Turn goal input out₀ (held []) (answer_to (extended_by p (take n (drop consumed input)))) (consumed + (n + 1)) produced out
  answered {n} e =
      let f = end_at (drop consumed input) n (sym e) in
      let h : consumed + n < length input = omega (arith, f.0, length-drop consumed input) in
      let a : consumed + n + 1 ≡ consumed + (n + 1) = omega arith in
      let q = extended_by p (take n (drop consumed input)) in
      record {
        taken = omega arith;
        put = t.put;
        same = t.same;
        rest = t.rest;
        left =
            resumes n (omega arith) f.1
            ∙ end_law input (consumed + n) q (take produced out) (length out₀ - produced) h (sym (get_or-drop consumed input n 0) ∙ f.2)
            ∙ rw a refl;
      }

  -- the piece is at its end
  pub exhausted : None ≡ first_end (drop consumed input)
      → Turn goal input out₀ (extended_by p (drop consumed input)) o (length input) produced out
  exhausted e =
      let s = drop consumed input in
      let a : consumed + length s ≡ length input = omega (arith, t.taken, length-drop consumed input) in
      record {
        taken = omega arith;
        put = t.put;
        same = t.same;
        rest = t.rest;
        left = resumes (length s) (omega arith) (end_none s e) ∙ rw (take-length s, a, none) refl;
      }

-- Where the loop is left.

-- what the call leaves in the output, in the words of the contract
pub record Done (goal : Fed) (m : Model) (consumed produced : ℕ) (out₀ out : List ℕ) : Type 0 where
  pub model : m ≡ goal.model
  pub consumed_is : consumed ≡ goal.consumed
  pub produced_is : produced ≡ length goal.produced
  pub output : out ≡ overwritten goal.produced out₀

module _ {goal : Fed} {input out₀ : List ℕ} {p : Partial} {o : List ℕ} {consumed produced : ℕ} {out : List ℕ}
    (t : Turn goal input out₀ p o consumed produced out) where
  abbrev m : Model
  m = record { line = p; pending = o }

  -- a call that takes nothing and puts nothing out
  abbrev idle : Fed
  idle = record { model = m; consumed = 0; produced = [] }

  nothing_more : feed_from p o (drop consumed input) (length out₀ - produced) ≡ idle → Done goal m consumed produced out₀ out
  unfolding overwritten
  nothing_more e =
      let g : goal ≡ ahead consumed (take produced out) idle = t.left ∙ ap (ahead consumed (take produced out)) e in
      let k : length (take produced out) ≡ produced = length-take-le produced out (omega (arith, t.same, t.put)) in
      let c : consumed + 0 ≡ consumed = omega arith in
      rw (g, append-nil (take produced out), c)
      (record {
        model = refl;
        consumed_is = refl;
        produced_is = sym k;
        output = rw k (sym (ap (λ (l : List ℕ). take produced out ++ l) (sym t.rest) ∙ take-append-drop produced out));
      })

  -- there is no room for a pending byte
  pub no_room : 0 < length o → produced ≡ length out₀ → Done goal m consumed produced out₀ out
  no_room h k =
      let z : length out₀ - produced ≡ 0 = omega arith in
      nothing_more (rw z (feed_stop p o (drop consumed input) 0 h))

  -- nothing is pending, and the piece is taken whole
  pub no_input : o ≡ [] → consumed ≡ length input → Done goal m consumed produced out₀ out
  no_input h k =
      let i : drop consumed input ≡ [] = drop_of_length-le input {i = consumed} (omega arith) in
      nothing_more (rw (i, h) (rw (drop-nil {A = ℕ} (length out₀ - produced), take-nil {A = ℕ} (length out₀ - produced)) refl))

-- Where it begins.

pub begins : (p : Partial) (o input out : List ℕ) → Turn (feed_from p o input (length out)) input out p o 0 0 out
begins p o input out =
    let z : length out - 0 ≡ length out = omega arith in
    record { taken = zero-le; put = zero-le; same = refl; rest = refl; left = rw (z, zero-add) refl }
