-- Writing field after field: what the methods of src/text.rt leave in the buffer.
-- Assumes nothing.
use Rattle.std.proofs.Common.{◌≡◌, ◌≢◌, ℕ, zero, suc, ◌+◌, ◌/◌, ◌%◌, ◌<◌, ◌≤◌, true, false, ltb, List, [], ◌∷◌, ◌++◌, map, length, get_or, take, drop, set, ℤ, pos, negsuc, nat_abs, sym, refl, ap, ◌∙◌, append_assoc, zero-add, add-one, arith, length-append, length-drop, length-take-le, take_all, take-suc, drop-drop, take_at, ltb-true, le-ltb, lt-ltb}
use mathlib.Core.List.{map-append}
use lib.Signed.{lt_z}
use lib.Seq.{set_split, drop-append-add}
use Rattle.code_theory.specs.Reading.{Change}
use Rattle.lines_theory.specs.Line.{digit_byte, decimal_before, decimal, signed_decimal, refusal_line, changes_before, reading_line}
use Rattle.lines_theory.specs.Feed.{overwritten}
use Rattle.code_theory.proofs.Merge.{cases}
use Rattle.answers.specs.declared.text.Writer.{Writer}
use Rattle.answers.specs.Writing.{Written, Wrote, heading_of}

module _ {a b : List ℕ} {i j : ℕ} {x : List ℕ} (w : Written a b i j x) where
  head_length : length (take i a ++ x) ≡ j
  head_length =
      let e : length (take i a) ≡ i = length-take-le i a (omega (arith, w.ends, w.fits)) in
      length-append (take i a) x ∙ omega (arith, w.ends)

  whole : b ≡ (take i a ++ x) ++ drop j a
  whole = w.text ∙ sym (append_assoc (take i a) x (drop j a))

  pub kept : length b ≡ length a
  kept = ap length whole ∙ length-append (take i a ++ x) (drop j a) ∙ omega (arith, head_length, length-drop j a, w.fits)

  front : take j b ≡ take i a ++ x
  front = ap (take j) whole ∙ take_at (take i a ++ x) (drop j a) j head_length

  back : (m : ℕ) → drop (j + m) b ≡ drop (j + m) a
  back m =
      ap (drop (j + m)) whole
      ∙ ap (λ (n : ℕ). drop (n + m) ((take i a ++ x) ++ drop j a)) (sym head_length)
      ∙ drop-append-add (take i a ++ x) (drop j a) m
      ∙ drop-drop m j a

followed : {a b c : List ℕ} {i j k : ℕ} {x y : List ℕ} → Written a b i j x → Written b c j k y → Written a c i k (x ++ y)
followed {a} {b} {c} {i} {j} {k} {x} {y} f g =
    let rest : drop k b ≡ drop k a = ap (λ (n : ℕ). drop n b) g.ends ∙ back f (length y) ∙ ap (λ (n : ℕ). drop n a) (sym g.ends) in
    record {
      text =
          g.text
          ∙ ap (λ (l : List ℕ). l ++ (y ++ drop k b)) (front f)
          ∙ append_assoc (take i a) x (y ++ drop k b)
          ∙ ap (λ (l : List ℕ). take i a ++ (x ++ (y ++ l))) rest
          ∙ ap (λ (l : List ℕ). take i a ++ l) (sym (append_assoc x y (drop k a)));
      ends = omega (arith, f.ends, g.ends, length-append x y);
      fits = omega (arith, kept f, g.fits);
    }

-- one field after another
infixl 20 ◌followed_by◌
pub ◌followed_by◌ : {u v w : Writer} {x y : List ℕ} → Wrote u v x → Wrote v w y → Wrote u w (x ++ y)
f followed_by g = record { written = followed f.written g.written; same = g.same ∙ f.same }

-- A number.

decimal_one : (n : ℕ) (after : List ℕ) → n < 10 → decimal n after ≡ (48 + n) ∷ after
unfolding decimal
decimal_one n after h = rw (lt-ltb n 10 h, decimal_before)

decimal_two : (n : ℕ) (after : List ℕ) → 10 ≤ n → n ≤ 99 → decimal n after ≡ (48 + n / 10) ∷ (48 + n % 10) ∷ after
unfolding decimal
decimal_two n after h k =
    let e : n / 10 < 10 = omega arith in
    rw (le-ltb n 10 h, decimal_before, lt-ltb (n / 10) 10 e, decimal_before)

pub number_one : {u v : Writer} {n last : ℕ} → n < 10 → Wrote u v ((48 + n) ∷ last ∷ []) → Wrote u v (decimal n (last ∷ []))
number_one {n} {last} h w = rw (decimal_one n (last ∷ []) h) w

pub number_two : {u v w : Writer} {n last : ℕ} → 10 ≤ n → n ≤ 99 → Wrote u v ((48 + n / 10) ∷ [])
    → Wrote v w ((48 + n % 10) ∷ last ∷ []) → Wrote u w (decimal n (last ∷ []))
number_two {n} {last} h k f g = rw (decimal_two n (last ∷ []) h k) (f followed_by g)

-- A number with its sign.

pub minus_written : {u v w : Writer} {b : ℕ} (z : ℤ) → b ≡ 45 → lt_z z (pos 0) ≡ true → Wrote u v (b ∷ [])
    → Wrote v w (decimal (nat_abs z) (32 ∷ [])) → Wrote u w (signed_decimal z (32 ∷ []))
minus_written (pos n) e t f g = absurd (let l : n < 0 = ltb-true n 0 t in omega arith)
minus_written (negsuc n) e t f g = (rw e at f) followed_by g

pub plus_written : {u v w : Writer} {b : ℕ} (z : ℤ) → b ≡ 43 → z ≢ pos 0 → lt_z z (pos 0) ≡ false → Wrote u v (b ∷ [])
    → Wrote v w (decimal (nat_abs z) (32 ∷ [])) → Wrote u w (signed_decimal z (32 ∷ []))
plus_written (pos zero) e n t f g = absurd (n refl)
plus_written (pos (suc k)) e n t f g = (rw e at f) followed_by g
plus_written (negsuc k) e n t f g = absurd (let e : ◌≡◌ {A = ℕ} 0 1 = cc in omega arith)

-- A word.

-- one byte
one : (out : List ℕ) (at a : ℕ) → at < length out → Written out (set out at a) at (suc at) (a ∷ [])
one out at a h = record { text = set_split out at a h; ends = omega arith; fits = h }

-- after i turns the digits of the first i symbols are written
pub record Filled (u : Writer) (symbols : List ℕ) (v : Writer) (i : ℕ) : Type 0 where
  pub within : i ≤ length symbols
  pub still : v.at ≡ u.at
  pub same : v.out.ghost_name ≡ u.out.ghost_name
  pub text : Written u.out.now v.out.now u.at (u.at + i) (map digit_byte (take i symbols))

pub filled_length : {u v : Writer} {symbols : List ℕ} {i : ℕ} → Filled u symbols v i → length v.out.now ≡ length u.out.now
filled_length f = kept f.text

pub digit_put : (out new symbols : List ℕ) (at at' i : ℕ) → at' ≡ at → i < length symbols → at + i < length new
    → Written out new at (at + i) (map digit_byte (take i symbols))
    → Written out (set new (at' + i) (48 + get_or symbols i 0)) at (at + (i + 1)) (map digit_byte (take (i + 1) symbols))
digit_put out new symbols at at' i q h k w =
    let e : at + (i + 1) ≡ suc (at + i) = omega arith in
    let f : map digit_byte (take (suc i) symbols) ≡ map digit_byte (take i symbols) ++ (48 + get_or symbols i 0) ∷ [] =
    ap (map digit_byte) (take-suc symbols i 0 h) ∙ map-append digit_byte (take i symbols) (get_or symbols i 0 ∷ [])
    in
    rw (q, e, add-one i, f) (followed w (one new (at + i) (48 + get_or symbols i 0) k))

-- the writer stands after them
pub filled_all : {u v w : Writer} {symbols : List ℕ} {i : ℕ} → Filled u symbols v i → length symbols ≤ i → w.out.now ≡ v.out.now
    → w.out.ghost_name ≡ v.out.ghost_name → w.at ≡ v.at + length symbols → Wrote u w (map digit_byte symbols)
filled_all {u} {v} {w} {symbols} {i} f h now name at =
    let e : u.at + i ≡ w.at = omega (arith, f.within, f.still, at) in
    record { written = rw (now, ← e) (rw (take_all i symbols h) at f.text); same = name ∙ f.same }

-- the two lines, from their fields

pub refusal_written : {u v w : Writer} (n : ℕ) → Wrote u v (82 ∷ 32 ∷ []) → Wrote v w (decimal n (10 ∷ [])) → Wrote u w (refusal_line n)
unfolding refusal_line
refusal_written n f g = f followed_by g

decimal_append : (k n : ℕ) (x y : List ℕ) → decimal_before k n (x ++ y) ≡ decimal_before k n x ++ y
decimal_append zero n x y = refl
decimal_append (suc k) n x y =
    cases (ltb n 10) (λ e. rw (e, decimal_before)) (λ e. rw (e, decimal_before) (decimal_append k (n / 10) (digit_byte (n % 10) ∷ x) y))

number_before : (n : ℕ) (x y : List ℕ) → decimal n (x ++ y) ≡ decimal n x ++ y
unfolding decimal
number_before n x y = decimal_append 20 n x y

signed_before : (z : ℤ) (x y : List ℕ) → signed_decimal z (x ++ y) ≡ signed_decimal z x ++ y
signed_before (pos zero) x y = number_before 0 x y
signed_before (pos (suc n)) x y = ap (λ (l : List ℕ). 43 ∷ l) (number_before (suc n) x y)
signed_before (negsuc n) x y = ap (λ (l : List ℕ). 45 ∷ l) (number_before (suc n) x y)

changes_before_lem : (cs : List Change) (x y : List ℕ) → changes_before cs (x ++ y) ≡ changes_before cs x ++ y
changes_before_lem [] x y = refl
changes_before_lem (c ∷ cs) x y =
    let rest : List ℕ = 32 ∷ changes_before cs x in
    ap (λ (l : List ℕ). decimal c.position (32 ∷ decimal c.symbol (32 ∷ l))) (changes_before_lem cs x y)
    ∙ ap (λ (l : List ℕ). decimal c.position (32 ∷ l)) (number_before c.symbol rest y)
    ∙ number_before c.position (32 ∷ decimal c.symbol rest) y

pub change_written : {u v w : Writer} (d : Change) → d.symbol ≤ 9 → Wrote u v (decimal d.position (32 ∷ []))
    → Wrote v w ((48 + d.symbol) ∷ 32 ∷ []) → Wrote u w (changes_before (d ∷ []) [])
change_written d h f g =
    rw (decimal_one d.symbol (32 ∷ []) (omega arith), number_before d.position (32 ∷ []) ((48 + d.symbol) ∷ 32 ∷ []))
    (f followed_by g)

pub changes_written : {u v w : Writer} (d e : Change) → Wrote u v (changes_before (d ∷ []) []) → Wrote v w (changes_before (e ∷ []) [])
    → Wrote u w (changes_before (d ∷ e ∷ []) [])
changes_written d e f g = rw (changes_before_lem (d ∷ []) [] (changes_before (e ∷ []) [])) (f followed_by g)

pub heading_written : {t u v w : Writer} (p k : ℕ) (cs : List Change) → Wrote t u ((48 + p) ∷ 32 ∷ []) → Wrote u v (k ∷ 32 ∷ [])
    → Wrote v w (changes_before cs []) → Wrote t w (heading_of p k cs)
unfolding heading_of
heading_written p k cs f g h = f followed_by (g followed_by h)

fields : (p v : ℕ) (cs : List Change) (z : ℤ) (s t : List ℕ)
    → heading_of p v cs ++ (signed_decimal z (32 ∷ []) ++ ((map digit_byte s ++ 32 ∷ []) ++ (map digit_byte t ++ 10 ∷ [])))
    ≡ reading_line p v cs z s t
unfolding heading_of reading_line
fields p v cs z s t =
    let words : List ℕ = map digit_byte s ++ 32 ∷ (map digit_byte t ++ 10 ∷ []) in
    ap (λ (l : List ℕ). heading_of p v cs ++ (signed_decimal z (32 ∷ []) ++ l))
    (append_assoc (map digit_byte s) (32 ∷ []) (map digit_byte t ++ 10 ∷ []))
    ∙ ap (λ (l : List ℕ). heading_of p v cs ++ l) (sym (signed_before z (32 ∷ []) words))
    ∙ ap (λ (l : List ℕ). digit_byte p ∷ 32 ∷ v ∷ 32 ∷ l) (sym (changes_before_lem cs [] (signed_decimal z (32 ∷ words))))

pub reading_written : {a b c d e : Writer} (p k : ℕ) (cs : List Change) (z : ℤ) (s t : List ℕ) → Wrote a b (heading_of p k cs)
    → Wrote b c (signed_decimal z (32 ∷ [])) → Wrote c d (map digit_byte s ++ 32 ∷ []) → Wrote d e (map digit_byte t ++ 10 ∷ [])
    → Wrote a e (reading_line p k cs z s t)
reading_written p k cs z s t f e g h = rw (fields p k cs z s t) at (f followed_by (e followed_by (g followed_by h)))

pub reworded : {old new x y : List ℕ} {at end : ℕ} → x ≡ y → Written old new at end x → Written old new at end y
reworded e w = rw e at w

-- the contract of an answer that begins its buffer
pub overwrites : {old new bytes : List ℕ} {end : ℕ} → length old ≡ 128 → Written old new 0 end bytes
    → (end ≡ length bytes) × ((end ≤ 128) × (new ≡ overwritten bytes old))
unfolding overwritten
overwrites {old} {new} {bytes} {end} long w =
    let e : end ≡ length bytes = w.ends ∙ zero-add (length bytes) in
    (e, (omega (arith, w.fits), w.text ∙ ap (λ (n : ℕ). bytes ++ drop n old) e))
