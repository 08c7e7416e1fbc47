-- Putting both messages at their positions, a symbol of each at a time.
-- Assumes nothing.
use mathlib.Core.Path.{◌≡◌, refl, sym, ap, ◌∙◌}
use mathlib.Core.Logic.{◌≢◌, ⊎_elim}
use mathlib.Core.Bool.{Bool, true, false, not}
use mathlib.Core.List.{List, []}
use Prim.Native.Nat.{ℕ, zero, suc, ◌+◌, ◌-◌, ◌*◌, ◌^◌, ◌≤◌, ◌<◌, zero-le, suc-le-suc}
use native.Mathlib.Nat.{not-suc-le-zero, le_of_suc-le-suc, le_trans}
use native.Mathlib.Numerals.{add-one, one-add}
use native.Mathlib.Omega.{arith}
use native.Mathlib.Decide.{ℕ_discrete}
use lib.ListN.{length, get_or, drop, set, replicate, length-set, get_or-eq_default}
use lib.Seq.{get_or-drop, get_or-set_same, get_or-set_other, ext_get_or}
use Rattle.modular_theory.proofs.Search.{le_or_lt}
use Rattle.code_theory.specs.Parameters.{Parameters}
use Rattle.code_theory.specs.Component.{is_check, check_at, merge}
use Rattle.code_theory.proofs.Merge.{cases, opposite, passing, length_merge, count_pass, count_fail, shift}
use Rattle.profiles.specs.declared.row.Row.{Row}
use Rattle.profiles.specs.Row.{parameters}
use Rattle.symbols.specs.Syndromes.{part}
use Rattle.symbols.proofs.Parts.{part_first, part_second, part_length, part_size}
use Rattle.symbols.proofs.Powers.{Spans, Ahead, ahead_first, ahead_power, ahead_other, check_two, check_power, check_neither}
use Rattle.components.specs.Checks.{set_at, Placed}
use Rattle.components.proofs.Interleaving.{set_first, set_second, set_head, set_past}
use Rattle.symbols.proofs.Words.{zeros_at}

-- The symbols of a merged word.

pub merge_check : (t : ℕ → Bool) (n : ℕ) (e a : List ℕ) (i : ℕ) → i < n → t i ≡ true → get_or (merge t n e a) i 0 ≡ get_or e (passing t i) 0
merge_check t zero e a i l h = absurd (not-suc-le-zero l)
merge_check t (suc n) e a zero l h = rw (h, merge)
merge_check t (suc n) e a (suc i) l h =
    cases (t 0)
    (λ b. rw (b, merge, passing)
    (merge_check (shift t) n (drop 1 e) a i (le_of_suc-le-suc l) h ∙ get_or-drop 1 e (passing (shift t) i) 0 ∙ rw one-add))
    (λ b. rw (b, merge, passing) (merge_check (shift t) n e (drop 1 a) i (le_of_suc-le-suc l) h))

pub merge_message : (t : ℕ → Bool) (n : ℕ) (e a : List ℕ) (i : ℕ) → i < n → t i ≡ false
    → get_or (merge t n e a) i 0 ≡ get_or a (passing (opposite t) i) 0
merge_message t zero e a i l h = absurd (not-suc-le-zero l)
merge_message t (suc n) e a zero l h = rw (h, merge)
merge_message t (suc n) e a (suc i) l h =
    cases (t 0) (λ b. rw (b, merge, passing) (merge_message (shift t) n (drop 1 e) a i (le_of_suc-le-suc l) h))
    (λ b. rw (b, merge, passing)
    (merge_message (shift t) n e (drop 1 a) i (le_of_suc-le-suc l) h ∙ get_or-drop 1 a (passing (opposite (shift t)) i) 0 ∙ rw one-add))

-- Counting one index more.

count_below : (t : ℕ → Bool) (i n : ℕ) → t i ≡ true → i < n → passing t i < passing t n
count_below t i zero h l = absurd (not-suc-le-zero l)
count_below t zero (suc n) h l = rw (h, passing) (suc-le-suc zero-le)
count_below t (suc i) (suc n) h l =
    let k : passing (shift t) i < passing (shift t) n = count_below (shift t) i n h (le_of_suc-le-suc l) in
    cases (t 0) (λ b. rw (b, passing) (suc-le-suc k)) (λ b. rw (b, passing) k)

-- The loop.

-- `next` symbols of the message stand at the positions up to i, and zeros elsewhere
record Placing (p : Parameters) (a word : List ℕ) (next i : ℕ) : Type 0 where
  size : length word ≡ p.n
  rest : (k : ℕ) → i ≤ k → get_or word k 0 ≡ 0
  counted : next ≡ passing (opposite (check_at p)) i
  done : (k : ℕ) → k < i → get_or word k 0 ≡ get_or (merge (check_at p) p.n [] a) k 0

module _ {p : Parameters} {a word : List ℕ} {next i : ℕ} (s : Placing p a word next i) (l : i < p.n) where
  check_passed : check_at p i ≡ true → Placing p a word next (suc i)
  check_passed t =
      record {
        size = s.size;
        rest = λ k h. s.rest k (omega arith);
        counted = s.counted ∙ sym (count_fail (opposite (check_at p)) i (ap not t));
        done = λ k m. ⊎_elim (λ (o : i ≤ k). at k (omega arith)) (s.done k) (le_or_lt i k);
      }
    where
      at : (k : ℕ) → k ≡ i → get_or word k 0 ≡ get_or (merge (check_at p) p.n [] a) k 0
      at k e = rw e (s.rest i (omega arith) ∙ sym (merge_check (check_at p) p.n [] a i l t))

  message_put : check_at p i ≡ false → Placing p a (set word i (get_or a next 0)) (next + 1) (suc i)
  message_put t =
      record {
        size = length-set word i y ∙ s.size;
        rest = λ k h. get_or-set_other word i k y 0 (omega arith) ∙ s.rest k (omega arith);
        counted = rw add-one (ap suc s.counted ∙ sym (count_pass (opposite (check_at p)) i (ap not t)));
        done = λ k m. at k m (ℕ_discrete k i);
      }
    where
      y : ℕ
      y = get_or a next 0

      at : (k : ℕ) → k < suc i → Dec (k ≡ i) → get_or (set word i y) k 0 ≡ get_or (merge (check_at p) p.n [] a) k 0
      at k m (yes e) =
          let w : i < length word = omega (arith, s.size) in
          rw e (get_or-set_same word i y 0 w ∙ ap (λ (j : ℕ). get_or a j 0) s.counted ∙ sym (merge_message (check_at p) p.n [] a i l t))
      at k m (no e) = get_or-set_other word i k y 0 e ∙ s.done k (omega (arith, e))

all_placed : {p : Parameters} {a word : List ℕ} {next : ℕ} → Placing p a word next p.n → word ≡ merge (check_at p) p.n [] a
all_placed {p} {a} {word} s =
    let long = s.size ∙ sym (length_merge (check_at p) p.n [] a) in
    ext_get_or 0 word (merge (check_at p) p.n [] a) long (λ i l. s.done i (rw s.size at l))

-- Both messages, in one array.

-- i is the index of the position that comes next
pub record Pair (p : Parameters) (a b x : List ℕ) (power next position : ℕ) : Type 0 where
  pub i : ℕ
  pub is : position ≡ suc i
  pub within : i ≤ p.n
  pub head : get_or x 0 0 ≡ 0
  pub past : (k : ℕ) → 2 * p.n + 1 ≤ k → get_or x k 0 ≡ 0
  pub ahead : Ahead p.q position power
  pub counted : next ≡ passing (opposite (check_at p)) i
  first : Placing p a (part true p.n x) next i
  second : Placing p b (part false p.n x) next i

zeros_placed : (p : Parameters) (a : List ℕ) (b : Bool) → p.n ≤ 48 → Placing p a (part b p.n (replicate 97 0)) 0 0
zeros_placed p a b h =
    record {
      size = part_size b p.n (replicate 97 0) (omega arith);
      rest = λ k l. ⊎_elim (outside k) (inside b k) (le_or_lt p.n k);
      counted = refl;
      done = λ k l. absurd (not-suc-le-zero l);
    }
  where
    outside : (k : ℕ) → p.n ≤ k → get_or (part b p.n (replicate 97 0)) k 0 ≡ 0
    outside k o = get_or-eq_default (part b p.n (replicate 97 0)) 0 (le_trans (part_length b p.n (replicate 97 0)) o)

    inside : (b : Bool) (k : ℕ) → k < p.n → get_or (part b p.n (replicate 97 0)) k 0 ≡ 0
    inside true k l = part_first p.n (replicate 97 0) k l ∙ zeros_at 97 (2 * k + 1)
    inside false k l = part_second p.n (replicate 97 0) k l ∙ zeros_at 97 (2 * k + 2)

pub pair_none : (p : Parameters) (a b : List ℕ) → p.n ≤ 48 → Pair p a b (replicate 97 0) 1 0 1
pair_none p a b h =
    record {
      i = 0;
      is = refl;
      within = zero-le;
      head = refl;
      past = λ k l. zeros_at 97 k;
      ahead = ahead_first p.q;
      counted = refl;
      first = zeros_placed p a true h;
      second = zeros_placed p b false h;
    }

module _ {p : Parameters} {a b x : List ℕ} {power next position : ℕ} (two : 2 ≤ p.q) (levels : p.q ≤ 15) (room : p.n ≤ 48)
    (columns : p.n < p.q ^ (p.r - 1)) (s : Pair p a b x power next position) (l : position ≤ p.n) where
  upto : s.i < p.n
  upto = omega (arith, s.is)

  spanned : Spans p p.q position
  spanned = record { levels = refl; room = omega arith }

  -- what the tests of the position say of its index
  at_index : {u : Bool} → is_check p position ≡ u → check_at p s.i ≡ u
  at_index e = ap (is_check p) (sym s.is) ∙ e

  skipped : {power' : ℕ} → Ahead p.q (position + 1) power' → check_at p s.i ≡ true → Pair p a b x power' next (position + 1)
  skipped w t =
      record {
        i = suc s.i;
        is = omega (arith, s.is);
        within = upto;
        head = s.head;
        past = s.past;
        ahead = w;
        counted = (check_passed s.first upto t).counted;
        first = check_passed s.first upto t;
        second = check_passed s.second upto t;
      }

  pub pair_power : position ≡ power → Pair p a b x (power * p.q) next (position + 1)
  pair_power e = skipped (ahead_power two s.ahead e levels (omega arith)) (at_index (check_power two s.ahead e p spanned))

  pub pair_two : position ≢ power → position ≡ 2 → Pair p a b x power next (position + 1)
  pair_two d e = skipped (ahead_other two s.ahead d) (at_index (check_two two s.ahead e p spanned))

  module _ (d : position ≢ power) (e : position ≢ 2) where
    no_check : check_at p s.i ≡ false
    no_check = at_index (check_neither two s.ahead e d p spanned)

    -- the next symbols of the messages are there
    pub pair_inside : next < passing (opposite (check_at p)) p.n
    pair_inside = rw s.counted (count_below (opposite (check_at p)) s.i p.n (ap not no_check) upto)

    pub pair_message : Pair p a b (set_at x position (get_or a next 0) (get_or b next 0)) power (next + 1) (position + 1)
    pair_message =
        let y : ℕ = get_or a next 0 in
        let z : ℕ = get_or b next 0 in
        let from : 1 ≤ position = omega (arith, s.is) in
        let index : position - 1 ≡ s.i = omega (arith, s.is) in
        record {
          i = suc s.i;
          is = omega (arith, s.is);
          within = upto;
          head = set_head p.n x position y z from l ∙ s.head;
          past = λ k h. set_past p.n x position y z from l k h ∙ s.past k h;
          ahead = ahead_other two s.ahead d;
          counted = (message_put s.first upto no_check).counted;
          first = rw (set_first p.n x position y z from l, index) (message_put s.first upto no_check);
          second = rw (set_second p.n x position y z from l, index) (message_put s.second upto no_check);
        }

-- past the last position
pub pair_all : (t : Row) {a b x : List ℕ} {power next position : ℕ} → Pair (parameters t) a b x power next position → t.n < position
    → Placed t a b x
pair_all t {a} {b} {x} {power} {next} {position} p l = go p.i (omega (arith, p.is, p.within)) p.first p.second
  where
    go : (i : ℕ) → i ≡ t.n → Placing (parameters t) a (part true t.n x) next i → Placing (parameters t) b (part false t.n x) next i
        → Placed t a b x
    go i e f s = record { head = p.head; first_part = all_placed (rw e at f); second_part = all_placed (rw e at s); past = p.past }
