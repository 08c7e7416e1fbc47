-- The message of a component, a run of symbols between two check positions at a time.
-- Assumes nothing.
use mathlib.Core.Path.{◌≡◌, refl, sym, ap, ap₂, ◌∙◌}
use mathlib.Core.Bool.{Bool, true, false, not}
use mathlib.Core.List.{List, [], ◌∷◌, ◌++◌, append_assoc, append-nil}
use Prim.Native.Nat.{ℕ, zero, suc, ◌+◌, ◌*◌, ◌≤◌, ◌<◌, zero-le, suc-le-suc}
use native.Mathlib.Nat.{not-suc-le-zero, le_of_suc-le-suc}
use native.Mathlib.Numerals.{add-one}
use native.Mathlib.Omega.{arith}
use lib.ListN.{length, get_or, take, drop, set, drop_of_length-le, length-set}
use lib.Seq.{drop-cons, set_at, length-take-le}
use Rattle.code_theory.specs.Parameters.{Parameters, message_length}
use Rattle.code_theory.specs.Component.{is_check, check_at, keep, message}
use Rattle.code_theory.proofs.Merge.{cases, passing, count_not, length_keep, count_pass, count_fail, shift}
use Rattle.code_theory.proofs.Reduced.{check_count}
use Rattle.profiles.specs.declared.row.Row.{Row}
use Rattle.profiles.specs.Row.{parameters, Valid}
use Rattle.symbols.proofs.Powers.{Spans}
use Rattle.decoder.specs.Outputs.{copied_run}

-- What is kept of one symbol more.

keep_pass : (t : ℕ → Bool) (c : List ℕ) (i : ℕ) → i < length c → t i ≡ true
    → keep t (take (suc i) c) ≡ keep t (take i c) ++ (get_or c i 0 ∷ [])
keep_pass t [] i l h = absurd (not-suc-le-zero l)
keep_pass t (x ∷ xs) zero l h = rw (h, keep)
keep_pass t (x ∷ xs) (suc i) l h =
    let e : keep (shift t) (take (suc i) xs) ≡ keep (shift t) (take i xs) ++ (get_or xs i 0 ∷ []) =
    keep_pass (shift t) xs i (le_of_suc-le-suc l) h in
    cases (t 0) (λ b. rw (b, keep) (ap (λ (l : List ℕ). x ∷ l) e)) (λ b. rw (b, keep) e)

keep_fail : (t : ℕ → Bool) (c : List ℕ) (i : ℕ) → i < length c → t i ≡ false → keep t (take (suc i) c) ≡ keep t (take i c)
keep_fail t [] i l h = absurd (not-suc-le-zero l)
keep_fail t (x ∷ xs) zero l h = rw (h, keep)
keep_fail t (x ∷ xs) (suc i) l h =
    let e : keep (shift t) (take (suc i) xs) ≡ keep (shift t) (take i xs) = keep_fail (shift t) xs i (le_of_suc-le-suc l) h in
    cases (t 0) (λ b. rw (b, keep) (ap (λ (l : List ℕ). x ∷ l) e)) (λ b. rw (b, keep) e)

-- Counting one index more.

count_upto : (t : ℕ → Bool) (i n : ℕ) → i ≤ n → passing t i ≤ passing t n
count_upto t zero n l = zero-le
count_upto t (suc i) zero l = absurd (not-suc-le-zero l)
count_upto t (suc i) (suc n) l =
    let k : passing (shift t) i ≤ passing (shift t) n = count_upto (shift t) i n (le_of_suc-le-suc l) in
    cases (t 0) (λ b. rw (b, passing) (suc-le-suc k)) (λ b. rw (b, passing) k)

-- the positions that hold the message
abbrev pub held : Parameters → ℕ → Bool
held p i = not (check_at p i)

-- index i bears a symbol of the message, whatever r is
abbrev pub Bears : ℕ → ℕ → Type 0
Bears q i = (p : Parameters) → Spans p q (i + 1) → is_check p (i + 1) ≡ false

-- The symbols passed.

-- `next` symbols of the message stand in the output, and after them what it held, whatever r is
pub record Extracting (q n : ℕ) (c out₀ out : List ℕ) (next i : ℕ) : Type 0 where
  pub within : i ≤ n
  pub size : length out ≡ length out₀
  pub counted : (p : Parameters) → Spans p q n → next ≡ passing (held p) i
  pub done : (p : Parameters) → Spans p q n → out ≡ keep (held p) (take i c) ++ drop next out₀

pub extracting_none : (q n : ℕ) (c out : List ℕ) → Extracting q n c out out 0 0
extracting_none q n c out = record { within = zero-le; size = refl; counted = λ p h. refl; done = λ p h. refl }

module _ {q n : ℕ} {c out₀ out : List ℕ} {next i : ℕ} (e : Extracting q n c out₀ out next i) (l : i < n) (k : n ≤ length c) where
  -- a check position
  pub extracting_skip : ((p : Parameters) → Spans p q (i + 1) → is_check p (i + 1) ≡ true) → Extracting q n c out₀ out next (i + 1)
  extracting_skip h =
      record {
        within = omega arith;
        size = e.size;
        counted = λ p m. rw add-one (e.counted p m ∙ sym (count_fail (held p) i (fails p m)));
        done = λ p m. rw add-one (rw (keep_fail (held p) c i (omega arith) (fails p m)) (e.done p m));
      }
    where
      fails : (p : Parameters) → Spans p q n → held p i ≡ false
      fails p m =
          let s : is_check p (i + 1) ≡ true = h p (record { levels = m.levels; room = omega (arith, m.room) }) in
          ap not (rw add-one at s)

  -- a position of the message
  extracting_more : Bears q i → next < length out₀ → {x : ℕ} → x ≡ get_or c i 0 → Extracting q n c out₀ (set out next x) (next + 1) (i + 1)
  extracting_more h b {x} f =
      record {
        within = omega arith;
        size = length-set out next x ∙ e.size;
        counted = λ p m. rw (add-one, add-one) (ap suc (e.counted p m) ∙ sym (count_pass (held p) i (passes p m)));
        done = λ p m. rw (add-one, add-one) (stored p m);
      }
    where
      passes : (p : Parameters) → Spans p q n → held p i ≡ true
      passes p m =
          let s : is_check p (i + 1) ≡ false = h p (record { levels = m.levels; room = omega (arith, m.room) }) in
          ap not (rw add-one at s)

      stored : (p : Parameters) → Spans p q n → set out next x ≡ keep (held p) (take (suc i) c) ++ drop (suc next) out₀
      stored p m =
          let d : out ≡ keep (held p) (take i c) ++ (get_or out₀ next 0 ∷ drop (suc next) out₀) =
          e.done p m ∙ rw (drop-cons out₀ next 0 b) in
          let s : length (keep (held p) (take i c)) ≡ next =
          length_keep (held p) (take i c) ∙ ap (passing (held p)) (length-take-le i c (omega arith)) ∙ sym (e.counted p m) in
          ap (λ (y : List ℕ). set y next x) d
          ∙ set_at (keep (held p) (take i c)) (get_or out₀ next 0) (drop (suc next) out₀) x next s
          ∙ sym (append_assoc (keep (held p) (take i c)) (x ∷ []) (drop (suc next) out₀))
          ∙ ap (λ (y : List ℕ). y ++ drop (suc next) out₀)
          (ap (λ (y : ℕ). keep (held p) (take i c) ++ (y ∷ [])) f ∙ sym (keep_pass (held p) c i (omega arith) (passes p m)))

-- A run of k symbols of the message, from index i on, that stand in x at 2 j + side.
module _ {t : Row} (v : Valid t) {q : ℕ} (same : q ≡ t.q) {c out₀ out : List ℕ} {next i : ℕ} (e : Extracting q t.n c out₀ out next i)
    (o : length out₀ ≡ message_length (parameters t)) (long : t.n ≤ length c) where
  -- a position is one that r - 1 digits can name
  named : Spans (parameters t) q t.n
  named = record { levels = sym same; room = rw same v.sized.columns }

  total : passing (held (parameters t)) t.n ≡ message_length (parameters t)
  total = omega (arith, count_not (check_at (parameters t)) t.n, check_count (parameters t) v.sized)

  -- there is room for what is counted
  room : {k j : ℕ} → (a : List ℕ) → Extracting q t.n c out₀ a k j → k ≤ length out₀
  room {k} {j} a f = omega (arith, f.counted (parameters t) named, count_upto (held (parameters t)) j t.n f.within, total)

  module _ (x : List ℕ) (side : ℕ) (symbol : (j : ℕ) → j < t.n → get_or x (2 * j + side) 0 ≡ get_or c j 0) where
    pub extracting_run : (k : ℕ) → i + k ≤ t.n → ((j : ℕ) → i ≤ j → j < i + k → Bears q j)
        → Extracting q t.n c out₀ (copied_run x side i k next out) (next + k) (i + k)
    extracting_run zero l h =
        let f : next ≡ next + 0 = omega arith in
        let g : i ≡ i + 0 = omega arith in
        rw (← f, ← g) e
    extracting_run (suc k) l h =
        let b = extracting_run k (omega arith) (λ j m n. h j m (omega arith)) in
        let m : i + k < t.n = omega arith in
        let g : next + k < length out₀ = below b m (h (i + k) (omega arith) (omega arith)) in
        let f = extracting_more b m long (h (i + k) (omega arith) (omega arith)) g (symbol (i + k) m) in
        let y : next + k + 1 ≡ next + suc k = omega arith in
        let z : i + k + 1 ≡ i + suc k = omega arith in
        rw (← y, ← z) f
      where
        -- one more fits, since it is counted among all
        below : {a : List ℕ} {n' j : ℕ} → Extracting q t.n c out₀ a n' j → j < t.n → Bears q j → n' < length out₀
        below {a} {n'} {j} f m g =
            let p : Parameters = parameters t in
            let s : is_check p (j + 1) ≡ false = g p (record { levels = named.levels; room = omega (arith, named.room) }) in
            let u : check_at p j ≡ false = rw add-one at s in
            let w : passing (held p) (suc j) ≡ suc (passing (held p) j) = count_pass (held p) j (ap not u) in
            omega (arith, f.counted p named, count_upto (held p) (suc j) t.n m, total)

    pub run_room : (k : ℕ) → i + k ≤ t.n → ((j : ℕ) → i ≤ j → j < i + k → Bears q j) → next + k ≤ length out₀
    run_room k l h = room _ (extracting_run k l h)

  pub extracting_all : t.n ≤ i → out ≡ message (parameters t) (take t.n c)
  unfolding message
  extracting_all l =
      let f : i ≡ t.n = omega (arith, e.within) in
      let g : next ≡ message_length (parameters t) = e.counted (parameters t) named ∙ ap (passing (held (parameters t))) f ∙ total in
      let d : drop next out₀ ≡ [] = drop_of_length-le out₀ {i = next} (omega arith) in
      e.done (parameters t) named
      ∙ ap₂ (λ (x y : List ℕ). x ++ y) (ap (λ (j : ℕ). keep (held (parameters t)) (take j c)) f) d
      ∙ append-nil (keep (held (parameters t)) (take t.n c))
