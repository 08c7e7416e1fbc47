-- The two parts of `finish`: the pending bytes, then the answer to a line that no byte 10 ended.
-- Assumes nothing.
use Rattle.std.proofs.Common.{◌≡◌, ℕ, ◌-◌, ◌<◌, ◌≤◌, true, false, List, [], ◌∷◌, min, length, take, drop, refl, sym, ap, ◌∙◌, zero-le, arith, length-append, length-drop, length-take-le, take_at, take_all}
use Rattle.std.proofs.lemmas.Slice.{drop-append-drop}
use Rattle.lines_theory.specs.Feed.{Partial, held, too_long, Model, Fed, answer_to, answer_at_end, stopped, finishing, last_lines, overwritten}
use Rattle.lines_theory.proofs.Cutting.{finish_on, finish_stop}
use Rattle.lines.specs.Lines.{is_fresh}
use Rattle.lines.proofs.Turns.{ahead, emit_law}
use Rattle.lines.proofs.Stepping.{Turn, Done, no_room, no_input}

module _ (p : Partial) (o out : List ℕ) {n : ℕ} (count : n ≡ min (length o) (length out)) where
  abbrev m : Model
  m = record { line = p; pending = o }

  put_length : length (take n o) ≡ n
  put_length = length-take-le n o (omega (arith, count))

  put_out : take n (overwritten (take n o) out) ≡ take n o
  unfolding overwritten
  put_out = take_at (take n o) (drop (length (take n o)) out) n put_length

  -- the pending bytes that had room are put out
  first : Turn (stopped p o (length out)) [] out p (drop n o) 0 n (overwritten (take n o) out)
  unfolding overwritten
  first =
      record {
        taken = zero-le;
        put = omega (arith, count);
        same = length-append (take n o) (drop (length (take n o)) out) ∙ omega (arith, put_length, count, length-drop (length (take n o)) out);
        rest = rw put_length (drop-append-drop n out (take n o) n (omega arith) put_length);
        left =
            emit_law p o [] (length out) n (omega (arith, count)) (omega (arith, count))
            ∙ ap (λ (x : List ℕ). ahead 0 x (stopped p (drop n o) (length out - n))) (sym put_out);
      }

  -- the others had none
  pub stops : 0 < length (drop n o) → Done (finishing m (length out)) (record { line = p; pending = drop n o }) 0 n out (overwritten (take n o) out)
  stops h =
      let cut : length out < length o = omega (arith, h, length-drop n o, count) in
      rw (finish_stop m (length out) cut) (no_room first h (omega (arith, cut, count)))

  pub cut_short : 0 < length (drop n o) → length out < length o
  cut_short h = omega (arith, h, length-drop n o, count)

  module _ (none : drop n o ≡ []) where
    pub whole : n ≡ length o
    whole = omega (arith, count, length-drop n o, ap length none)

    pub room : length o ≤ length out
    room = omega (arith, whole, count)

    -- the answer at the end is pending
    ended : Turn (finishing m (length out)) [] out (held []) (answer_at_end p) 0 n (overwritten (take n o) out)
    ended =
        let all : take n o ≡ o = take_all n o (omega (arith, whole)) in
        record {
          taken = zero-le;
          put = first.put;
          same = first.same;
          rest = first.rest;
          left = finish_on m (length out) room ∙ rw (put_out, all, whole) refl;
        }

    -- that to the line, if it has bytes
    pub answers : is_fresh p ≡ false → Turn (finishing m (length out)) [] out (held []) (answer_to p) 0 n (overwritten (take n o) out)
    answers f = let e : answer_at_end p ≡ answer_to p = at_end p f in rw e at ended
      where
        at_end : (q : Partial) → is_fresh q ≡ false → answer_at_end q ≡ answer_to q
        at_end (held []) e = cc
        at_end (held (b ∷ l)) e = refl
        at_end too_long e = refl

    -- and none, if it has none
    pub ends : is_fresh p ≡ true → Done (finishing m (length out)) (record { line = p; pending = drop n o }) 0 n out (overwritten (take n o) out)
    ends f =
        let a : answer_at_end p ≡ [] = at_end p f in
        let e : held [] ≡ p = fresh p f in
        rw none (no_input (rw (e, a) at ended) refl refl)
      where
        at_end : (q : Partial) → is_fresh q ≡ true → answer_at_end q ≡ []
        at_end (held []) e = refl
        at_end (held (b ∷ l)) e = cc
        at_end too_long e = cc

        fresh : (q : Partial) → is_fresh q ≡ true → held [] ≡ q
        fresh (held []) e = refl
        fresh (held (b ∷ l)) e = cc
        fresh too_long e = cc

-- either way out after it
pub all_done : {goal : Fed} {out₀ : List ℕ} {p : Partial} {o : List ℕ} {produced : ℕ} {out : List ℕ}
    → Turn goal [] out₀ p o 0 produced out → (0 < length o → produced ≡ length out₀)
    → Done goal (record { line = p; pending = o }) 0 produced out₀ out
all_done {o = []} t f = no_input t refl refl
all_done {o = b ∷ o} t f = no_room t (omega arith) (f (omega arith))

-- the end of the input ends one line, or none where no byte of one has come

pub one_line : (p : Partial) → is_fresh p ≡ false → 1 ≡ last_lines p
one_line (held []) e = cc
one_line (held (b ∷ l)) e = refl
one_line too_long e = refl

pub no_line : (p : Partial) → is_fresh p ≡ true → 0 ≡ last_lines p
no_line (held []) e = refl
no_line (held (b ∷ l)) e = cc
no_line too_long e = cc
