-- Every claim of specs/Claims.antt, proved. What the contracts allow is what the definitions say, so the list rule of the definitions
-- (crate `queue_theory`) is theirs.
-- Assumes nothing.
use mathlib.Core.Path.{◌≡◌, refl, sym, ap, ap₂, subst, ◌∙◌}
use mathlib.Core.List.{List, [], ◌∷◌}
use Prim.Native.Nat.{ℕ}
use Rattle.std.specs.Prelude.{Ok, Err}
use Rattle.queue_theory.specs.Chains.{records}
use Rattle.queue_theory.specs.Sound.{Queue}
use Rattle.queue_theory.specs.Operations.{format_queue, enqueue_queue, dequeue_queue}
use Rattle.queue_theory.specs.Model.{Call, enqueue, peek, dequeue, Reply, reply, queue_reply, queue_after, replies, left}
use Rattle.queue_theory.proofs.Rule.{format_succeeds, list_rule}
use Rattle.refusals.proofs.Claims.{numbers_differ as refusals_differ, none_is_success}
use Rattle.queue.proofs.Refusals.{refusals}
use Rattle.queue.specs.Claims.{NumbersDiffer, Run, over, enqueues, peeks, dequeues, RunsExist, ContractsListRule, Claims}

numbers_differ : NumbersDiffer
numbers_differ (Ok u) (Ok v) e = refl
numbers_differ (Ok u) (Err r) e = absurd (none_is_success r (sym e))
numbers_differ (Err r) (Ok v) e = absurd (none_is_success r e)
numbers_differ (Err r) (Err r') e = ap Err (refusals_differ r r' e)

-- the replies and the bytes left that the definitions have
record Defined (s : List ℕ) (calls : List Call) (rs : List Reply) (t : List ℕ) : Type 0 where
  replies_are : rs ≡ replies queue_reply queue_after s calls
  left_is : t ≡ left queue_after s calls

-- one call more, in front
before : {s s' t : List ℕ} {c : Call} {r : Reply} {calls : List Call} {rs : List Reply} → r ≡ queue_reply s c → s' ≡ queue_after s c
    → Defined s' calls rs t → Defined s (c ∷ calls) (r ∷ rs) t
before {calls = calls} e f d =
    record {
      replies_are = ap₂ ◌∷◌ e (d.replies_are ∙ ap (λ (x : List ℕ). replies queue_reply queue_after x calls) f);
      left_is = d.left_is ∙ ap (λ (x : List ℕ). left queue_after x calls) f;
    }

defined : {s t : List ℕ} {calls : List Call} {rs : List Reply} → Run s calls rs t → Defined s calls rs t
defined over = record { replies_are = refl; left_is = refl }
defined (enqueues h more) = before (ap (λ (n : ℕ). reply n []) h.answer) h.queue (defined more)
defined (peeks h more) = before (ap₂ reply h.answer h.output) refl (defined more)
defined (dequeues h more) = before (ap₂ reply h.answer h.output) h.queue (defined more)

-- that of the definitions
runs_exist : RunsExist
runs_exist s [] = ([], s, over)
runs_exist s (enqueue b p w ∷ calls) =
    let (rs, t, run) = runs_exist (enqueue_queue s b p w) calls in
    (_, t, enqueues (record { answer = refl; queue = refl }) run)
runs_exist s (peek k out ∷ calls) =
    let (rs, t, run) = runs_exist s calls in
    (_, t, peeks (record { answer = refl; output = refl }) run)
runs_exist s (dequeue out ∷ calls) =
    let (rs, t, run) = runs_exist (dequeue_queue s out) calls in
    (_, t, dequeues (record { answer = refl; queue = refl; output = refl }) run)

contracts_list_rule : ContractsListRule
contracts_list_rule before long n s format calls rs t run =
    let rule = list_rule before long calls in
    let d = defined run in
    let at : t ≡ left queue_after (format_queue before) calls = d.left_is ∙ ap (λ (x : List ℕ). left queue_after x calls) format.queue in
    record {
      formatted = format.answer ∙ format_succeeds before long;
      replies_same =
          d.replies_are ∙ ap (λ (x : List ℕ). replies queue_reply queue_after x calls) format.queue ∙ rule.replies_same;
      queue = subst Queue (sym at) rule.queue;
      records_same = ap records at ∙ rule.records_same;
    }

pub claims : Claims
claims =
    record {
      numbers_differ = numbers_differ;
      runs_exist = runs_exist;
      contracts_list_rule = contracts_list_rule;
      refusals = refusals;
    }
