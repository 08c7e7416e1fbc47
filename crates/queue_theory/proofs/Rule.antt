-- The list rule: each call on a sound queue answers and acts as on its list of records, so by induction every run does.
-- Assumes nothing.
use mathlib.Core.Path.{◌≡◌, refl, sym, ap, ap₂, subst, ◌∙◌}
use mathlib.Core.Logic.{◌≢◌}
use mathlib.Core.Bool.{Bool, not}
use mathlib.Core.List.{List, [], ◌∷◌, ◌++◌}
use Prim.Native.Nat.{ℕ, zero, suc, ◌≤◌, ◌<◌}
use native.Mathlib.Nat.{le_of_suc-le-suc}
use native.Mathlib.Omega.{arith}
use lib.Dec.{T, eqb, leb, ltb, leb→le, le→leb, ltb→lt, lt→ltb, not_T, eqb→eq}
use lib.ListN.{length, get_or, drop}
use Rattle.modular_theory.proofs.Search.{same_test, and_right, and_intro}
use Rattle.code_theory.specs.Refusal.{first_refusal, on_success}
use Rattle.code_theory.proofs.Refusal.{past, wrote}
use Rattle.queue_theory.specs.Layout.{is_queue_length, capacity, next_cell, first_free}
use Rattle.queue_theory.specs.Chains.{From, used, free, records}
use Rattle.queue_theory.specs.Sound.{record_of, Queue}
use Rattle.queue_theory.specs.Operations.{length_tests, enqueue_tests, show_tests, formatted, format_answer, format_queue, enqueued}
use Rattle.queue_theory.specs.Operations.{enqueue_answer, enqueue_queue, cell_of, shown_cell}
use Rattle.queue_theory.specs.Operations.{peek_answer, peek_output, dequeued, dequeue_answer}
use Rattle.queue_theory.specs.Operations.{dequeue_queue, dequeue_output}
use Rattle.queue_theory.specs.Model.{Call, enqueue, peek, dequeue, reply, queue_reply, queue_after, shown_record, has_record, show_record}
use Rattle.queue_theory.specs.Model.{list_reply, list_after}
use Rattle.queue_theory.specs.Claims.{AnswersAsList, ListRule, ListRuleFrom}
use Rattle.queue_theory.proofs.Lists.{Lists, lists_of, fill}
use Rattle.queue_theory.proofs.Answers.{nonzero, on_sound, showing}
use Rattle.queue_theory.proofs.Laws.{starts_at, empty, length_records, get_d_within, enqueue_law, shown_record_lem, dequeue_law}
use Rattle.queue_theory.proofs.Format.{format_law}

pub same_capacity : (s s' : List ℕ) → length s' ≡ length s → capacity s' ≡ capacity s
unfolding capacity
same_capacity s s' e = rw e

-- a queue, and the records and the capacity that a plain list has
pub record StandsFor (R : ℕ) (s : List ℕ) (l : List (List ℕ)) : Type 0 where
  pub queue : Queue s
  pub same : records s ≡ l
  pub room : capacity s ≡ R

module _ (s : List ℕ) (q : Queue s) where
  ls : Lists s (capacity s) (used s) (free s)
  ls = lists_of s q

  -- there is a free cell exactly where there are fewer than R records
  room_same : not (eqb (first_free s) 0) ≡ ltb (length (records s)) (capacity s)
  room_same = same_test _ _ some none
    where
      some : T (not (eqb (first_free s) 0)) → T (ltb (length (records s)) (capacity s))
      some h =
          let m = starts_at s (first_free s) (free s) ls.free_from (nonzero (first_free s) h) in
          lt→ltb (length (records s)) (capacity s) (omega (arith, length_records s, fill ls, ap length m.1))

      none : T (ltb (length (records s)) (capacity s)) → T (not (eqb (first_free s) 0))
      none h =
          not_T (eqb (first_free s) 0)
          (λ k.
          let z : free s ≡ [] = empty s (free s) (subst (λ (i : ℕ). From s i (free s)) (eqb→eq (first_free s) 0 k) ls.free_from) in
          omega (arith, length_records s, fill ls, ap length z, ltb→lt (length (records s)) (capacity s) h))

  enqueue_answer_lem : (b p : ℕ) (w : List ℕ)
      → enqueue_answer s b p w ≡ first_refusal (enqueue_tests (ltb (length (records s)) (capacity s)) b p w)
  unfolding enqueue_answer
  enqueue_answer_lem b p w =
      on_sound s (enqueue_tests (not (eqb (first_free s) 0)) b p w) q
      ∙ ap (λ (room : Bool). first_refusal (enqueue_tests room b p w)) room_same

  enqueue_step : (b p : ℕ) (w : List ℕ) (n : ℕ) → enqueue_answer s b p w ≡ n
      → StandsFor (capacity s) (on_success n (enqueued s (record_of b p w)) s) (on_success n (records s ++ (record_of b p w ∷ [])) (records s))
  enqueue_step b p w zero h =
      let e = enqueue_law s b p w h in
      record { queue = e.queue; same = e.records_after; room = same_capacity s (enqueued s (record_of b p w)) e.kept_length }
  enqueue_step b p w (suc n) h = record { queue = q; same = refl; room = refl }

  -- record k is found exactly where the list has it
  cell_nonzero : (l : List ℕ) (i : ℕ) → From s i l → (k : ℕ) → k < length l → get_or l k 0 ≢ 0
  cell_nonzero [] i f k h = let z : ⊥ = omega arith in absurd z
  cell_nonzero (b ∷ l) i f zero h = f.1
  cell_nonzero (b ∷ l) i f (suc k) h = cell_nonzero l (next_cell s b) f.2 k (le_of_suc-le-suc h)

  pub found_same : (k : ℕ) → not (eqb (cell_of s k) 0) ≡ has_record (records s) k
  unfolding cell_of
  found_same zero = refl
  found_same (suc k) = same_test _ _ some none
    where
      some : T (not (eqb (get_or (used s) k 0) 0)) → T (has_record (records s) (suc k))
      some h =
          let d : k < length (used s) = get_d_within (used s) k (nonzero (get_or (used s) k 0) h) in
          and_intro (leb 1 (suc k)) (leb (suc k) (length (records s)))
          (le→leb 1 (suc k) (omega arith)) (le→leb (suc k) (length (records s)) (omega (arith, length_records s)))

      none : T (has_record (records s) (suc k)) → T (not (eqb (get_or (used s) k 0) 0))
      none h =
          let n = length (records s) in
          let d : suc k ≤ n = leb→le (suc k) n (and_right (leb 1 (suc k)) (leb (suc k) n) h) in
          let z : get_or (used s) k 0 ≢ 0 = cell_nonzero (used s) (next_cell s 0) ls.used_from k (omega (arith, length_records s)) in
          not_T (eqb (get_or (used s) k 0) 0) (λ t. z (eqb→eq (get_or (used s) k 0) 0 t))

  peek_answer_lem : (k : ℕ) (out : List ℕ) → peek_answer s k out ≡ first_refusal (show_tests (has_record (records s) k) out)
  unfolding peek_answer
  peek_answer_lem k out =
      on_sound s (show_tests (not (eqb (cell_of s k) 0)) out) q
      ∙ ap (λ (found : Bool). first_refusal (show_tests found out)) (found_same k)

  peek_output_lem : (k : ℕ) (out : List ℕ) (n : ℕ) → peek_answer s k out ≡ n
      → on_success n (shown_cell s (cell_of s k)) out ≡ on_success n (shown_record (records s) k) out
  peek_output_lem zero out zero h = absurd (unfold cell_of in (showing s 0 out h).found refl)
  peek_output_lem (suc k) out zero h =
      shown_record_lem s k (showing s (suc k) out h).found
      ∙ ap (λ (j : ℕ). 0 ∷ get_or (records s) j []) (omega arith)
  peek_output_lem k out (suc n) h = refl

  peek_reply : (k : ℕ) (out : List ℕ) → reply (peek_answer s k out) (peek_output s k out) ≡ show_record (records s) k out
  unfolding peek_output
  peek_reply k out =
      ap (λ (o : List ℕ). reply (peek_answer s k out) o) (peek_output_lem k out (peek_answer s k out) refl)
      ∙ ap (λ (n : ℕ). reply n (on_success n (shown_record (records s) k) out)) (peek_answer_lem k out)

  dequeue_step : (out : List ℕ) (n : ℕ) → dequeue_answer s out ≡ n
      → StandsFor (capacity s) (on_success n (dequeued s) s) (on_success n (drop 1 (records s)) (records s))
  dequeue_step out zero h =
      let d = dequeue_law s out h in
      record {
        queue = d.queue;
        same = ap (drop 1) (sym d.records_before);
        room = same_capacity s (dequeued s) d.kept_length;
      }
  dequeue_step out (suc n) h = record { queue = q; same = refl; room = refl }

  -- one call
  reply_same : (c : Call) → queue_reply s c ≡ list_reply (capacity s) (records s) c
  reply_same (enqueue b p w) = ap (λ (n : ℕ). reply n []) (enqueue_answer_lem b p w)
  reply_same (peek k out) = peek_reply k out
  reply_same (dequeue out) = unfold dequeue_answer dequeue_output in peek_reply 1 out

  after_same : (c : Call) → StandsFor (capacity s) (queue_after s c) (list_after (capacity s) (records s) c)
  unfolding enqueue_queue dequeue_queue dequeue_answer
  after_same (enqueue b p w) =
      subst (λ (n : ℕ). StandsFor (capacity s) (enqueue_queue s b p w) (on_success n (records s ++ (record_of b p w ∷ [])) (records s)))
      (enqueue_answer_lem b p w) (enqueue_step b p w (enqueue_answer s b p w) refl)
  after_same (peek k out) = record { queue = q; same = refl; room = refl }
  after_same (dequeue out) =
      subst (λ (n : ℕ). StandsFor (capacity s) (dequeue_queue s out) (on_success n (drop 1 (records s)) (records s)))
      (peek_answer_lem 1 out) (dequeue_step out (dequeue_answer s out) refl)

pub run_same : (R : ℕ) (s : List ℕ) (l : List (List ℕ)) → StandsFor R s l → (calls : List Call) → AnswersAsList R s l calls
run_same R s l h [] = record { replies_same = refl; queue = h.queue; records_same = h.same }
run_same R s l h (c ∷ cs) =
    let first : queue_reply s c ≡ list_reply R l c =
    reply_same s h.queue c ∙ ap₂ (λ (n : ℕ) (m : List (List ℕ)). list_reply n m c) h.room h.same in
    let next_holds : StandsFor R (queue_after s c) (list_after R l c) =
    subst (λ (n : ℕ). StandsFor n (queue_after s c) (list_after n l c)) h.room
    (subst (λ (m : List (List ℕ)). StandsFor (capacity s) (queue_after s c) (list_after (capacity s) m c)) h.same
    (after_same s h.queue c)) in
    let rest = run_same R (queue_after s c) (list_after R l c) next_holds cs in
    record { replies_same = ap₂ ◌∷◌ first rest.replies_same; queue = rest.queue; records_same = rest.records_same }

pub list_rule_from : ListRuleFrom
list_rule_from s q calls = run_same (capacity s) s (records s) (record { queue = q; same = refl; room = refl }) calls

pub format_succeeds : (s : List ℕ) → T (is_queue_length (length s)) → format_answer s ≡ 0
unfolding format_answer
format_succeeds s h = past (length_tests s) [] (h, tt)

format_queue_lem : (s : List ℕ) → T (is_queue_length (length s)) → format_queue s ≡ formatted s
unfolding format_queue
format_queue_lem s h = sym (wrote (format_answer s) (formatted s) s (format_succeeds s h))

pub list_rule : ListRule
list_rule s h calls =
    let f = format_law s h in
    let empty : StandsFor (capacity s) (formatted s) [] =
    record { queue = f.queue; same = f.no_records; room = same_capacity s (formatted s) f.kept_length } in
    subst (λ (t : List ℕ). AnswersAsList (capacity s) t [] calls) (sym (format_queue_lem s h))
    (run_same (capacity s) (formatted s) [] empty calls)
