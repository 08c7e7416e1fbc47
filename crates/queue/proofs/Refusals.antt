-- The order in which the queue's operations refuse: each number is that of the first test that fails, and no refusal changes a byte.
-- Assumes nothing.
use mathlib.Core.Path.{◌≡◌, sym, ◌∙◌}
use mathlib.Core.Bool.{false, not}
use mathlib.Core.List.{List, [], ◌∷◌}
use Prim.Native.Nat.{ℕ}
use native.Mathlib.Omega.{arith}
use lib.Dec.{eqb}
use lib.ListN.{length}
use borrow.Author.Tests.{eq-eqb}
use Rattle.modular_theory.proofs.Search.{eq_test}
use Rattle.code_theory.specs.Refusal.{Test, asks}
use Rattle.code_theory.specs.Parameters.{codeword_length}
use Rattle.code_theory.specs.Component.{is_received}
use Rattle.code_theory.specs.Profiles.{is_profile, profile}
use Rattle.code_theory.proofs.Refusal.{AllPass, stops, kept}
use Rattle.queue_theory.specs.Layout.{cell_size, is_queue_length, first_free}
use Rattle.queue_theory.specs.Sound.{is_box, sound, Queue}
use Rattle.queue_theory.specs.Operations.{format_answer, format_queue, enqueue_answer, enqueue_queue}
use Rattle.queue_theory.specs.Operations.{cell_of, peek_answer, peek_output, dequeue_answer}
use Rattle.queue_theory.specs.Operations.{dequeue_queue, dequeue_output}
use Rattle.queue_theory.specs.Allowed.{EnqueueAllows}
use Rattle.queue.specs.Claims.{EnqueueRefuses, ShowRefuses, Refusals}

-- the tests of the bytes, and that those of a sound queue pass
abbrev long : List ℕ → Test
long s = asks (is_queue_length (length s)) 5

abbrev soundness : List ℕ → Test
soundness s = asks (sound s) 6

abbrev passes_sound : (s : List ℕ) → Queue s → AllPass (long s ∷ soundness s ∷ [])
passes_sound s q = (q.size, (q.is_sound, tt))

none : (x : ℕ) → x ≡ 0 → not (eqb x 0) ≡ false
none x e = rw (eq-eqb x 0 e)

module _ {s : List ℕ} {b p : ℕ} {w : List ℕ} {n : ℕ} {s' : List ℕ} (h : EnqueueAllows s b p w n s') where
  abbrev box : Test
  box = asks (is_box b) 7

  abbrev profiled : Test
  profiled = asks (is_profile p) 1

  abbrev word : Test
  word = asks (eqb (length w) (codeword_length (profile p))) 2

  abbrev levels : Test
  levels = asks (is_received (profile p) w) 3

  abbrev room : Test
  room = asks (not (eqb (first_free s) 0)) 8

  enqueue_refuses : EnqueueRefuses s b p w n s'
  unfolding enqueue_answer enqueue_queue
  enqueue_refuses =
      let of = h.answer in
      let first : Test = long s in
      let second : Test = soundness s in
      record {
        by_5 = λ e. of ∙ stops [] first (second ∷ box ∷ profiled ∷ word ∷ levels ∷ room ∷ []) tt e;
        by_6 = λ l e. of ∙ stops (first ∷ []) second (box ∷ profiled ∷ word ∷ levels ∷ room ∷ []) (l, tt) e;
        by_7 = λ q e. of ∙ stops (first ∷ second ∷ []) box (profiled ∷ word ∷ levels ∷ room ∷ []) (passes_sound s q) e;
        by_1 =
            λ q x e.
            of ∙ stops (first ∷ second ∷ box ∷ []) profiled (word ∷ levels ∷ room ∷ []) (q.size, (q.is_sound, (x, tt))) e;
        by_2 =
            λ q x y e.
            of ∙ stops (first ∷ second ∷ box ∷ profiled ∷ []) word (levels ∷ room ∷ []) (q.size, (q.is_sound, (x, (y, tt)))) e;
        by_3 =
            λ q x y l e.
            of
            ∙ stops (first ∷ second ∷ box ∷ profiled ∷ word ∷ []) levels (room ∷ []) (q.size, (q.is_sound, (x, (y, (eq_test l, tt))))) e;
        by_8 =
            λ q x y l z e.
            of
            ∙ stops (first ∷ second ∷ box ∷ profiled ∷ word ∷ levels ∷ []) room [] (q.size, (q.is_sound, (x, (y, (eq_test l, (z, tt))))))
            (none (first_free s) e);
        keeps = λ d. h.queue ∙ sym (kept (enqueue_answer s b p w) _ s (λ z. d (of ∙ z)));
      }

module _ (s : List ℕ) (k : ℕ) (out : List ℕ) {n : ℕ} {out' : List ℕ} (answer : n ≡ peek_answer s k out)
    (output : out' ≡ peek_output s k out) where
  abbrev size : Test
  size = asks (eqb (length out) cell_size) 2

  abbrev found : Test
  found = asks (not (eqb (cell_of s k) 0)) 10

  show_refuses : ShowRefuses s k out n out'
  unfolding peek_answer peek_output
  show_refuses =
      let first : Test = long s in
      let second : Test = soundness s in
      record {
        by_5 = λ e. answer ∙ stops [] first (second ∷ size ∷ found ∷ []) tt e;
        by_6 = λ l e. answer ∙ stops (first ∷ []) second (size ∷ found ∷ []) (l, tt) e;
        by_2 = λ q e. answer ∙ stops (first ∷ second ∷ []) size (found ∷ []) (passes_sound s q) e;
        by_10 =
            λ q l e. answer ∙ stops (first ∷ second ∷ size ∷ []) found [] (q.size, (q.is_sound, (eq_test l, tt))) (none (cell_of s k) e);
        keeps = λ d. output ∙ sym (kept (peek_answer s k out) _ out (λ z. d (answer ∙ z)));
      }

pub refusals : Refusals
unfolding format_answer format_queue dequeue_answer dequeue_queue dequeue_output
refusals =
    record {
      format =
          λ s s' n h e.
          let five : format_answer s ≡ 5 = stops [] (long s) [] tt e in
          (h.answer ∙ five, h.queue ∙ sym (kept (format_answer s) _ s (λ z. five_not_zero (sym five ∙ z))));
      enqueue = λ s b p w n s' h. enqueue_refuses h;
      peek = λ s k out n out' h. show_refuses s k out h.answer h.output;
      dequeue =
          λ s out n s' out' h.
          (show_refuses s 1 out h.answer h.output, λ d. h.queue ∙ sym (kept (dequeue_answer s out) _ s (λ z. d (h.answer ∙ z))));
    }
  where
    five_not_zero : ◌≡◌ {A = ℕ} 5 0 → ⊥
    five_not_zero e = omega arith
