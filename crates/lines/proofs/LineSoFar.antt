-- The line so far, and the answer to it: what the methods of src/line.rt leave.
-- Assumes nothing.
use Rattle.std.proofs.Common.{◌≡◌, ℕ, ◌+◌, ◌<◌, ◌≤◌, Option, Some, List, [], ◌∷◌, ◌++◌, length, take, refl, sym, ap, ◌∙◌, append_assoc, append-nil, arith, length-append, le-leb}
use Rattle.std.proofs.lemmas.Bool.{lt-leb}
use Rattle.lines_theory.specs.Line.{has_form, line_answer}
use Rattle.lines_theory.specs.Feed.{Partial, held, too_long, answer_to}
use Rattle.lines_theory.proofs.Whole.{clip, clip_short, clip_long, extended_clip}
use Rattle.lines.specs.Lines.{partial_of, extended_by}

pub partial_held : (bytes : List ℕ) {len : Option ℕ} {n : ℕ} → len ≡ Some n → n ≤ 101 → partial_of bytes len ≡ held (take n bytes)
partial_held bytes {n} e h = rw e (rw (partial_of, le-leb n 101 h) refl)

pub partial_over : (bytes : List ℕ) {len : Option ℕ} {n : ℕ} → len ≡ Some n → 101 < n → partial_of bytes len ≡ too_long
partial_over bytes {n} e h = rw e (rw (partial_of, lt-leb n 101 h) refl)

-- More bytes of it.

pub over_by : (s : List ℕ) → too_long ≡ extended_by too_long s
over_by [] = refl
over_by (b ∷ s) = over_by s

clip_by : (l s : List ℕ) → extended_by (clip l) s ≡ clip (l ++ s)
clip_by l [] = ap clip (sym (append-nil l))
clip_by l (b ∷ s) =
    ap (λ (p : Partial). extended_by p s) (extended_clip l b) ∙ clip_by (l ++ b ∷ []) s ∙ ap clip (append_assoc l (b ∷ []) s)

held_by : (l s : List ℕ) → length l ≤ 101 → extended_by (held l) s ≡ clip (l ++ s)
held_by l s h = ap (λ (p : Partial). extended_by p s) (sym (clip_short l h)) ∙ clip_by l s

pub hold_full : (l s : List ℕ) → length l ≤ 101 → 101 < length l + length s → too_long ≡ extended_by (held l) s
hold_full l s h k = sym (held_by l s h ∙ clip_long (l ++ s) (omega (arith, length-append l s)))

pub hold_room : (l s : List ℕ) → length l + length s ≤ 101 → held (l ++ s) ≡ extended_by (held l) s
hold_room l s h = sym (held_by l s (omega arith) ∙ clip_short (l ++ s) (omega (arith, length-append l s)))

-- one that has run over is answered as the empty line is
pub over_answer : line_answer [] ≡ answer_to too_long
unfolding line_answer has_form
over_answer = refl
