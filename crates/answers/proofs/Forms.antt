-- Reading a line: what the functions of src/form.rt find.
-- Assumes nothing.
use Rattle.std.proofs.Common.{◌≡◌, ℕ, Option, Some, None, max, ◌+◌, ◌-◌, ◌<◌, ◌≤◌, true, false, ◌&&◌, T, eqb, leb, List, [], ◌∷◌, ◌++◌, map, length, get_or, take, drop, set, sym, ap, ◌∙◌, subst, add-one, arith, eqb→eq, leb→le, length-drop, length-set, take_all, take-suc, take-suc-set}
use mathlib.Core.List.{map-append}
use Rattle.modular_theory.proofs.Search.{and_intro, and_left, and_right, and_four, and_parts}
use Rattle.modular_theory.proofs.Search.{eq_test, passes, fails}
use Rattle.code_theory.proofs.Merge.{cases}
use Rattle.lines_theory.specs.Line.{is_digit, is_symbol, symbols_only, symbol_value, symbols_of, has_form, is_short, profile_of}
use Rattle.answers.specs.Forms.{form_of, Valued, SymbolRead, SymbolValues, Parsed}

-- The symbols, one by one.

symbols_snoc : (x : List ℕ) (b : ℕ) → T (symbols_only x) → T (is_symbol b) → T (symbols_only (x ++ b ∷ []))
symbols_snoc [] b h k = and_intro (is_symbol b) true k tt
symbols_snoc (c ∷ x) b h k =
    and_intro (is_symbol c) (symbols_only (x ++ b ∷ [])) (and_left (is_symbol c) (symbols_only x) h)
    (symbols_snoc x b (and_right (is_symbol c) (symbols_only x) h) k)

snoc_symbols : (x : List ℕ) (b : ℕ) → T (symbols_only (x ++ b ∷ [])) → T (symbols_only x) × T (is_symbol b)
snoc_symbols [] b h = (tt, and_left (is_symbol b) true h)
snoc_symbols (c ∷ x) b h =
    let p : T (symbols_only x) × T (is_symbol b) = snoc_symbols x b (and_right (is_symbol c) (symbols_only (x ++ b ∷ [])) h) in
    (and_intro (is_symbol c) (symbols_only x) (and_left (is_symbol c) (symbols_only (x ++ b ∷ [])) h) p.0, p.1)

-- the first i bytes of s are read into a word
pub record Taken (s word₀ word : List ℕ) (highest i : ℕ) : Type 0 where
  pub within : i ≤ length s
  pub same : length word ≡ length word₀
  pub low : T (symbols_only (take i s)) → highest ≤ 9
  pub symbols : highest ≤ 9 → T (symbols_only (take i s))
  pub text : highest ≤ 9 → take i word ≡ map symbol_value (take i s)

pub taken_more : {s word₀ word : List ℕ} {highest i : ℕ} (v height highest' : ℕ) → Taken s word₀ word highest i → i < length s
    → length s ≤ length word₀ → SymbolRead (get_or s i 0) v height → highest' ≡ max highest height
    → Taken s word₀ (set word i v) highest' (i + 1)
taken_more {s} {word₀} {word} {highest} {i} v height highest' t h k w m =
    let x = take i s in
    let b = get_or s i 0 in
    let e : take (i + 1) s ≡ x ++ b ∷ [] = ap (λ (n : ℕ). take n s) (add-one i) ∙ take-suc s i 0 h in
    record {
      within = omega arith;
      same = simp length-set t.same;
      low = rw e (λ d. let (first, last) = snoc_symbols x b d in omega (arith, t.low first, w.low last, m));
      symbols = rw e (λ l. symbols_snoc x b (t.symbols (omega (arith, m))) (w.symbol (omega (arith, m))));
      text =
          rw (e, map-append symbol_value x (b ∷ []), add-one i)
          (λ l. take-suc-set word i v (omega (arith, t.same))
          ∙ joined (t.text (omega (arith, m))) (w.is (omega (arith, m))));
    }
  where
    joined : {x : List ℕ} {y : ℕ} → take i word ≡ x → v ≡ y → take i word ++ v ∷ [] ≡ x ++ y ∷ []
    joined a b = rw (a, b)

pub taken_all : {s word₀ word : List ℕ} {highest i : ℕ} → Taken s word₀ word highest i → length s ≤ i → SymbolValues s word highest
taken_all {s} {word₀} {word} {highest} {i} t h =
    let e : i ≡ length s = omega (arith, t.within) in
    let w : take i s ≡ s = take_all i s h in
    record { low = rw w at t.low; symbols = rw w at t.symbols; text = rw (w, e) at t.text }

-- The form, test by test.

tests_passed : (l : List ℕ) → T (is_short l && has_form l)
    → T (is_short l) × (T (leb 3 (length l)) × T (is_digit (get_or l 0 0)) × T (eqb (get_or l 1 0) 32) × T (symbols_only (drop 2 l)))
unfolding has_form
tests_passed l t = (
  and_left (is_short l) (has_form l) t,
  and_parts (leb 3 (length l)) (is_digit (get_or l 0 0)) (eqb (get_or l 1 0) 32) (symbols_only (drop 2 l)) (and_right (is_short l) (has_form l) t),
)

pub has_length : (l : List ℕ) → is_short l && leb 3 (length l) ≡ true → (3 ≤ length l) × (length l ≤ 101)
has_length l e =
    let t : T (is_short l && leb 3 (length l)) = subst T (sym e) tt in
    (leb→le 3 (length l) (and_right (is_short l) (leb 3 (length l)) t), leb→le (length l) 101 (and_left (is_short l) (leb 3 (length l)) t))

pub parsed_bad : (l word : List ℕ) → (T (is_short l && has_form l) → ⊥) → Parsed l None word
parsed_bad l word f = record { form = let e : is_short l && has_form l ≡ false = fails f in rw (e, form_of); text = λ t. absurd (f t) }

pub bad_length : (l : List ℕ) → is_short l && leb 3 (length l) ≡ false → T (is_short l && has_form l) → ⊥
bad_length l e t = let p = tests_passed l t in subst T e (and_intro (is_short l) (leb 3 (length l)) p.0 p.1.0)

pub bad_profile : (l : List ℕ) (v : ℕ) → Valued (get_or l 0 0) v → 9 < v → T (is_short l && has_form l) → ⊥
bad_profile l v w h t = omega (arith, w.low (tests_passed l t).1.1)

pub bad_space : (l : List ℕ) → (get_or l 1 0 ≡ 32 → ⊥) → T (is_short l && has_form l) → ⊥
bad_space l f t = f (eqb→eq (get_or l 1 0) 32 (tests_passed l t).1.2)

pub bad_symbols : (l word : List ℕ) (highest : ℕ) → SymbolValues (drop 2 l) word highest → 9 < highest → T (is_short l && has_form l) → ⊥
bad_symbols l word highest s h t = omega (arith, s.low (tests_passed l t).1.3)

pub parsed_good : (l word : List ℕ) (v highest : ℕ) → is_short l && leb 3 (length l) ≡ true → Valued (get_or l 0 0) v → v ≤ 9
    → get_or l 1 0 ≡ 32 → SymbolValues (drop 2 l) word highest → highest ≤ 9 → Parsed l (Some v) word
unfolding has_form
parsed_good l word v highest e w h f s k =
    let t : T (is_short l && leb 3 (length l)) = subst T (sym e) tt in
    let p : T (is_short l) = and_left (is_short l) (leb 3 (length l)) t in
    let q : T (leb 3 (length l)) = and_right (is_short l) (leb 3 (length l)) t in
    let four =
    and_four (leb 3 (length l)) (is_digit (get_or l 0 0)) (eqb (get_or l 1 0) 32) (symbols_only (drop 2 l)) q (w.digit h) (eq_test f)
    (s.symbols k) in
    let g : is_short l && has_form l ≡ true = passes (and_intro (is_short l) (has_form l) p four) in
    record { form = rw (g, form_of) (ap Some (w.is h)); text = λ t. rw length-drop at (s.text k) }

-- What a reading says of the line.

pub bad_line : {l word : List ℕ} {r : Option ℕ} → Parsed l r word → r ≡ None → is_short l && has_form l ≡ false
bad_line {l} p b =
    cases (is_short l && has_form l) (λ e. absurd (let z : ◌≡◌ {A = ℕ} 0 1 = cc (p.form, b, form_good e) in omega arith)) (λ e. e)
  where
    form_good : is_short l && has_form l ≡ true → form_of l ≡ Some (profile_of l)
    form_good e = rw (e, form_of)

pub record GoodLine (l : List ℕ) (i : ℕ) (word : List ℕ) : Type 0 where
  pub tested : is_short l && has_form l ≡ true
  pub profile : i ≡ profile_of l
  pub low : 3 ≤ length l
  pub high : length l ≤ 101
  pub small : i ≤ 9
  pub text : take (length l - 2) word ≡ symbols_of l

pub good_line : {l word : List ℕ} {i : ℕ} {r : Option ℕ} → Parsed l r word → r ≡ Some i → GoodLine l i word
good_line {l} {word} {i} h g =
    cases (is_short l && has_form l) passed (λ e. absurd (let z : ◌≡◌ {A = ℕ} 0 1 = cc (h.form, g, form_bad e) in omega arith))
  where
    form_bad : is_short l && has_form l ≡ false → form_of l ≡ None
    form_bad e = rw (e, form_of)

    form_good : is_short l && has_form l ≡ true → form_of l ≡ Some (profile_of l)
    form_good e = rw (e, form_of)

    passed : is_short l && has_form l ≡ true → GoodLine l i word
    passed e =
        let t : T (is_short l && has_form l) = subst T (sym e) tt in
        let p = tests_passed l t in
        let f : i ≡ profile_of l = cc (h.form, g, form_good e) in
        let d : get_or l 0 0 ≤ 57 = leb→le (get_or l 0 0) 57 (and_right (leb 48 (get_or l 0 0)) (leb (get_or l 0 0) 57) p.1.1) in
        record {
          tested = e;
          profile = f;
          low = leb→le 3 (length l) p.1.0;
          high = leb→le (length l) 101 p.0;
          small = omega arith;
          text = h.text t;
        }
