-- The search for byte 10: window by window, and byte by byte.
-- Assumes nothing.
use Rattle.std.proofs.Common.{◌≡◌, ℕ, ◌+◌, ◌-◌, ◌<◌, ◌≤◌, Bool, true, false, eqb, ltb, cond, Some, None, List, length, get_or, take, drop, refl, sym, ap, ◌∙◌, add-zero, arith}
use Rattle.std.proofs.lemmas.Bool.{eq-eqb, ne_eqb, eqb-true, eqb-false, lt-ltb, le-ltb, ltb-false}
use Rattle.std.proofs.lemmas.List.{length-take-le, length-drop, get_or-take, get_or-drop}
use Rattle.std.proofs.lemmas.List.Sums.{position_or_len_is, fails_before_first}
use Rattle.std.proofs.lemmas.List.Quantifiers.{position-Some}
use Rattle.std.specs.List.{position_or_len}
use mathlib.Core.Logic.{⊎_elim}
use Rattle.modular_theory.proofs.Search.{le_or_lt}
use Rattle.lines_theory.specs.Feed.{line_ends}
use Rattle.lines_theory.proofs.Counting.{ends_further, ends_none, ends_one}
use Rattle.lines.specs.Ends.{first_end}

-- none of the first n bytes is byte 10
abbrev pub NoneBefore : List ℕ → ℕ → Type 0
NoneBefore s n = (j : ℕ) → j < n → get_or s j 0 ≡ 10 → ⊥

pub end_is : (s : List ℕ) (i : ℕ) → i < length s → NoneBefore s i → get_or s i 0 ≡ 10 → Some i ≡ first_end s
end_is s i h n e =
    let p : ℕ → Bool = λ b. eqb b 10 in
    let at : position_or_len p s ≡ i = position_or_len_is p s i 0 (omega arith) (λ k l. ne_eqb _ 10 (n k l)) (λ l. eq-eqb _ 10 e) in
    rw (at, lt-ltb i (length s) h) refl

pub no_end : (s : List ℕ) → NoneBefore s (length s) → None ≡ first_end s
no_end s n =
    let p : ℕ → Bool = λ b. eqb b 10 in
    let at : position_or_len p s ≡ length s =
    position_or_len_is p s (length s) 0 (omega arith) (λ k l. ne_eqb _ 10 (n k l)) (λ l. absurd (omega arith)) in
    rw (at, le-ltb (length s) (length s) (omega arith)) refl

pub end_at : (s : List ℕ) (i : ℕ) → first_end s ≡ Some i → (i < length s) × NoneBefore s i × (get_or s i 0 ≡ 10)
end_at s i e =
    let f = position-Some (λ b. eqb b 10) s i 0 e in
    (f.0, λ j l. eqb-false _ 10 (f.2 j l), eqb-true _ 10 f.1)

none_ltb : (b : Bool) (n : ℕ) → None ≡ cond b (Some n) None → b ≡ false
none_ltb true n e = cc
none_ltb false n e = refl

pub end_none : (s : List ℕ) → None ≡ first_end s → NoneBefore s (length s)
end_none s e j l =
    let p : ℕ → Bool = λ b. eqb b 10 in
    let all : length s ≤ position_or_len p s = ltb-false _ _ (none_ltb (ltb (position_or_len p s) (length s)) _ e) in
    eqb-false _ 10 (fails_before_first p s j 0 (omega arith))

-- The bytes from an index on, of which the search sees the first n.

abbrev part : List ℕ → ℕ → ℕ → List ℕ
part s at n = take n (drop at s)

part_length : (s : List ℕ) (at n : ℕ) → at + n ≤ length s → length (part s at n) ≡ n
part_length s at n h = length-take-le n (drop at s) (rw length-drop (omega arith))

part_at : (s : List ℕ) (at n i : ℕ) → i < n → get_or (part s at n) i 0 ≡ get_or s (at + i) 0
part_at s at n i h = get_or-take n (drop at s) i 0 h ∙ get_or-drop at s i 0

pub none_more : (s : List ℕ) (at m n : ℕ) → m ≡ n → at + n ≤ length s → NoneBefore s at → None ≡ first_end (take m (drop at s)) → NoneBefore s (at + n)
none_more s at m n q h before e j l k =
    let w = part_length s at m (omega arith) in
    ⊎_elim
    (λ (a : at ≤ j).
    let t : at + (j - at) ≡ j = omega arith in
    end_none (part s at m) e (j - at) (omega arith) (rw (part_at s at m (j - at) (omega arith), t) k))
    (λ (b : j < at). before j b k) (le_or_lt at j)

pub found : (s : List ℕ) (at n i : ℕ) → at + n ≤ length s → NoneBefore s at → Some i ≡ first_end (take n (drop at s)) → Some (at + i) ≡ first_end s
found s at n i h before e =
    let w = part_length s at n h in
    let f = end_at (part s at n) i (sym e) in
    end_is s (at + i) (omega (arith, f.0))
    (λ j l k.
    ⊎_elim
    (λ (a : at ≤ j).
    let t : at + (j - at) ≡ j = omega arith in
    f.1 (j - at) (omega arith) (rw (part_at s at n (j - at) (omega (arith, f.0)), t) k))
    (λ (b : j < at). before j b k) (le_or_lt at j))
    (sym (part_at s at n i (omega (arith, f.0))) ∙ f.2)

-- Lines counted: one more where byte 10 came, none where the piece is at its end.

pub counts_none : (input : List ℕ) (consumed : ℕ) → consumed ≤ length input → None ≡ first_end (drop consumed input)
    → line_ends (take (length input) input) ≡ line_ends (take consumed input)
counts_none input consumed h e =
    let n = length input - consumed in
    let a : consumed + n ≡ length input = omega arith in
    let w : length (drop consumed input) ≡ n = length-drop consumed input in
    let none : line_ends (take n (drop consumed input)) ≡ 0 =
    ends_none n (drop consumed input) (λ j l. end_none (drop consumed input) e j (omega arith)) in
    ap (λ (k : ℕ). line_ends (take k input)) (sym a) ∙ ends_further input consumed n ∙ omega (arith, none)

pub counts_one : (input : List ℕ) (consumed n : ℕ) → Some n ≡ first_end (drop consumed input)
    → line_ends (take (consumed + (n + 1)) input) ≡ line_ends (take consumed input) + 1
counts_one input consumed n e =
    let f = end_at (drop consumed input) n (sym e) in
    let a : consumed + n + 1 ≡ consumed + (n + 1) = omega arith in
    let none : line_ends (take n (drop consumed input)) ≡ 0 = ends_none n (drop consumed input) f.1 in
    let s = drop (consumed + n) input in
    let one : line_ends (take 1 s) ≡ 1 =
    ends_one s (get_or-drop (consumed + n) input 0 0 ∙ ap (λ (k : ℕ). get_or input k 0) (add-zero (consumed + n)) ∙ sym (get_or-drop consumed input n 0) ∙ f.2) in
    ap (λ (k : ℕ). line_ends (take k input)) (sym a)
    ∙ ends_further input (consumed + n) 1
    ∙ omega (arith, one, none, ends_further input consumed n)
