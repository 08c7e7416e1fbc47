-- The line so far may be dropped once it is too long: the output still to come is that of the whole line.
-- Assumes nothing.
use mathlib.Core.Path.{◌≡◌, refl, sym, ap, ◌∙◌}
use mathlib.Core.Logic.{⊎_elim}
use mathlib.Core.Bool.{Bool, true, false, ◌&&◌}
use mathlib.Core.List.{List, [], ◌∷◌, ◌++◌}
use Prim.Native.Nat.{ℕ, ◌+◌, ◌≤◌, ◌<◌}
use native.Mathlib.Omega.{arith}
use lib.Dec.{eqb}
use lib.ListN.{length, length-append}
use borrow.Author.Tests.{le-leb, lt-leb, lt-ltb, le-ltb}
use Rattle.modular_theory.proofs.Search.{le_or_lt}
use Rattle.code_theory.proofs.Merge.{cases}
use Rattle.lines_theory.specs.Line.{is_short, has_form, refusal_line, line_answer}
use Rattle.lines_theory.specs.Stream.{last_answer, output_after, stream_output}
use Rattle.lines_theory.specs.Feed.{Partial, held, too_long, extended, answer_to, answer_at_end, line_after, answer_after}
use Rattle.lines_theory.proofs.Order.{line_bad}

pub long_line : (l : List ℕ) → 101 < length l → line_answer l ≡ refusal_line 9
long_line l h = line_bad l (ap (λ (b : Bool). b && has_form l) (lt-leb (length l) 101 h))

-- what is kept of a line
abbrev pub clip : List ℕ → Partial
clip l = elim (is_short l) [ true ↦ held l | false ↦ too_long ]

-- the output still to come, after the line so far
abbrev pub output_from : Partial → List ℕ → List ℕ
output_from p [] = answer_at_end p
output_from p (b ∷ s) = answer_after p b ++ output_from (line_after p b) s

pub clip_short : (l : List ℕ) → length l ≤ 101 → clip l ≡ held l
clip_short l h = rw (le-leb (length l) 101 h, clip)

pub clip_long : (l : List ℕ) → 101 < length l → clip l ≡ too_long
clip_long l h = rw (lt-leb (length l) 101 h, clip)

extended_room : (l : List ℕ) (b : ℕ) → length l < 101 → extended (held l) b ≡ held (l ++ b ∷ [])
extended_room l b h = rw (lt-ltb (length l) 101 h, extended)

extended_full : (l : List ℕ) (b : ℕ) → 101 ≤ length l → extended (held l) b ≡ too_long
extended_full l b h = rw (le-ltb (length l) 101 h, extended)

pub answer_clip : (l : List ℕ) → answer_to (clip l) ≡ line_answer l
answer_clip l =
    ⊎_elim (λ (h : length l ≤ 101). ap answer_to (clip_short l h))
    (λ (h : 101 < length l). ap answer_to (clip_long l h) ∙ sym (long_line l h)) (le_or_lt (length l) 101)

last_clip : (l : List ℕ) → answer_at_end (clip l) ≡ last_answer l
last_clip [] = refl
last_clip (b ∷ l) =
    ⊎_elim (λ (h : length (b ∷ l) ≤ 101). ap answer_at_end (clip_short (b ∷ l) h))
    (λ (h : 101 < length (b ∷ l)). ap answer_at_end (clip_long (b ∷ l) h) ∙ sym (long_line (b ∷ l) h))
    (le_or_lt (length (b ∷ l)) 101)

pub extended_clip : (l : List ℕ) (b : ℕ) → extended (clip l) b ≡ clip (l ++ b ∷ [])
extended_clip l b =
    ⊎_elim
    (λ (h : length l ≤ 100).
    ap (λ (p : Partial). extended p b) (clip_short l (omega arith))
    ∙ extended_room l b (omega arith)
    ∙ sym (clip_short (l ++ b ∷ []) (omega (arith, longer))))
    (λ (h : 100 < length l). full h ∙ sym (clip_long (l ++ b ∷ []) (omega (arith, longer)))) (le_or_lt (length l) 100)
  where
    longer : length (l ++ b ∷ []) ≡ length l + 1
    longer = length-append l (b ∷ [])

    full : 100 < length l → extended (clip l) b ≡ too_long
    full h =
        ⊎_elim (λ (k : length l ≤ 101). ap (λ (p : Partial). extended p b) (clip_short l k) ∙ extended_full l b h)
        (λ (k : 101 < length l). ap (λ (p : Partial). extended p b) (clip_long l k)) (le_or_lt (length l) 101)

-- byte 10, and any other byte
pub line_ends_lem : (p : Partial) (b : ℕ) → eqb b 10 ≡ true → (line_after p b ≡ held []) × (answer_after p b ≡ answer_to p)
line_ends_lem p b e = (rw (e, line_after), rw (e, answer_after))

pub line_grows : (p : Partial) (b : ℕ) → eqb b 10 ≡ false → (line_after p b ≡ extended p b) × (answer_after p b ≡ [])
line_grows p b e = (rw (e, line_after), rw (e, answer_after))

output_clip : (l s : List ℕ) → output_from (clip l) s ≡ output_after l s
output_clip l [] = last_clip l
output_clip l (b ∷ s) =
    cases (eqb b 10)
    (λ e. rw ((line_ends_lem (clip l) b e).0, (line_ends_lem (clip l) b e).1, e, output_after) (cc (answer_clip l, output_clip [] s)))
    (λ e. rw ((line_grows (clip l) b e).0, (line_grows (clip l) b e).1, e, output_after)
    (ap (λ (p : Partial). output_from p s) (extended_clip l b) ∙ output_clip (l ++ b ∷ []) s))

pub output_whole : (s : List ℕ) → output_from (held []) s ≡ stream_output s
unfolding stream_output
output_whole s = output_clip [] s
