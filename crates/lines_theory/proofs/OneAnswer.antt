-- Each line gets one answer: an answer has one byte 10, at its end, and so the output has as many as there are lines.
-- Assumes nothing.
use mathlib.Core.Path.{◌≡◌, refl, sym, ap, ◌∙◌}
use mathlib.Core.Bool.{false}
use mathlib.Core.List.{List, [], ◌∷◌, ◌++◌, map}
use Prim.Native.Nat.{ℕ, zero, suc, ◌+◌, ◌/◌, ◌%◌}
use native.Mathlib.Omega.{arith}
use lib.Dec.{eqb, ltb}
use lib.IntN.{ℤ, pos, negsuc}
use borrow.Author.Tests.{ne_eqb}
use Rattle.code_theory.specs.Parameters.{Parameters}
use Rattle.code_theory.specs.Reading.{Change, Finding, clean, corrected, filled, changes_of, error_of, read, unreadable, received_reading}
use Rattle.code_theory.specs.TriedPositions.{tried_positions}
use Rattle.code_theory.specs.Profiles.{profile_in}
use Rattle.code_theory.specs.Refusal.{first_refusal}
use Rattle.code_theory.specs.Operations.{Answer, refused, answered, read_unless}
use Rattle.code_theory.proofs.Merge.{cases}
use Rattle.lines_theory.specs.Line.{digit_byte, decimal_before, decimal, signed_decimal, letter, refusal_line}
use Rattle.lines_theory.specs.Line.{changes_before, reading_line, answer_line, profile_of, symbols_of}
use Rattle.lines_theory.specs.Line.{line_edition, line_tests, line_answer}
use Rattle.lines_theory.specs.Feed.{Partial, held, too_long, answer_to, answer_at_end, line_after_all, line_ends, last_lines}
use Rattle.lines_theory.specs.Claims.{OneAnswerEach}
use Rattle.lines_theory.proofs.Whole.{output_from, output_whole, line_ends_lem, line_grows}
use Rattle.lines_theory.proofs.Counting.{ends_append}

-- digits are no byte 10
ends_digit : (d : ℕ) (t : List ℕ) → line_ends (digit_byte d ∷ t) ≡ line_ends t
ends_digit d t = let e : eqb (48 + d) 10 ≡ false = ne_eqb (48 + d) 10 (λ h. omega arith) in rw (e, line_ends)

ends_digits : (a t : List ℕ) → line_ends (map digit_byte a ++ t) ≡ line_ends t
ends_digits [] t = refl
ends_digits (d ∷ a) t = ends_digit d (map digit_byte a ++ t) ∙ ends_digits a t

ends_decimal_before : (k n : ℕ) (t : List ℕ) → line_ends (decimal_before k n t) ≡ line_ends t
ends_decimal_before zero n t = refl
ends_decimal_before (suc k) n t =
    cases (ltb n 10) (λ e. rw (e, decimal_before) (ends_digit n t))
    (λ e. rw (e, decimal_before) (ends_decimal_before k (n / 10) (digit_byte (n % 10) ∷ t) ∙ ends_digit (n % 10) t))

ends_decimal : (n : ℕ) (t : List ℕ) → line_ends (decimal n t) ≡ line_ends t
unfolding decimal
ends_decimal n t = ends_decimal_before 20 n t

-- nor is a sign
ends_signed : (e : ℤ) (t : List ℕ) → line_ends (signed_decimal e t) ≡ line_ends t
ends_signed (pos zero) t = ends_decimal 0 t
ends_signed (pos (suc n)) t = ends_decimal (suc n) t
ends_signed (negsuc n) t = ends_decimal (suc n) t

-- an answer has one byte 10

ends_refusal : (n : ℕ) → line_ends (refusal_line n) ≡ 1
unfolding refusal_line
ends_refusal n = ends_decimal n (10 ∷ [])

ends_words : (a b : List ℕ) → line_ends (map digit_byte a ++ 32 ∷ (map digit_byte b ++ 10 ∷ [])) ≡ 1
ends_words a b = ends_digits a (32 ∷ (map digit_byte b ++ 10 ∷ [])) ∙ ends_digits b (10 ∷ [])

ends_letter : (f : Finding) (t : List ℕ) → line_ends (letter f ∷ t) ≡ line_ends t
ends_letter clean t = refl
ends_letter (corrected c) t = refl
ends_letter (filled cs) t = refl

ends_changes : (cs : List Change) (t : List ℕ) → line_ends (changes_before cs t) ≡ line_ends t
ends_changes [] t = refl
ends_changes (c ∷ cs) t =
    let rest : List ℕ = 32 ∷ changes_before cs t in
    ends_decimal c.position (32 ∷ decimal c.symbol rest) ∙ ends_decimal c.symbol rest ∙ ends_changes cs t

ends_reading : (i : ℕ) (f : Finding) (cs : List Change) (e : ℤ) (a b : List ℕ) → line_ends (reading_line i (letter f) cs e a b) ≡ 1
unfolding reading_line
ends_reading i f cs e a b =
    let words : List ℕ = 32 ∷ (map digit_byte a ++ 32 ∷ (map digit_byte b ++ 10 ∷ [])) in
    let error : List ℕ = signed_decimal e words in
    let rest : List ℕ = 32 ∷ changes_before cs error in
    ends_digit i (32 ∷ letter f ∷ rest) ∙ ends_letter f rest ∙ ends_changes cs error ∙ ends_signed e words ∙ ends_words a b

ends_answer : (i : ℕ) (a : Answer) → line_ends (answer_line i a) ≡ 1
ends_answer i (refused n) = ends_refusal n
ends_answer i (answered unreadable t) = ends_refusal 4
ends_answer i (answered (read f a b) t) = ends_reading i f (changes_of f) (error_of f) a b

ends_line : (l : List ℕ) → line_ends (line_answer l) ≡ 1
unfolding line_answer
ends_line l =
    let p : Parameters = profile_in line_edition (profile_of l) in
    ends_answer (profile_of l)
    (read_unless (first_refusal (line_tests l)) (received_reading p (symbols_of l)) (tried_positions p (symbols_of l)))

-- where byte 10 ends the line, and where the input does

ends_to : (p : Partial) → line_ends (answer_to p) ≡ 1
ends_to (held l) = ends_line l
ends_to too_long = ends_refusal 9

ends_at_end : (p : Partial) → line_ends (answer_at_end p) ≡ last_lines p
ends_at_end (held []) = refl
ends_at_end (held (b ∷ l)) = ends_line (b ∷ l)
ends_at_end too_long = ends_refusal 9

ends_output : (p : Partial) (s : List ℕ) → line_ends (output_from p s) ≡ line_ends s + last_lines (line_after_all p s)
ends_output p [] = ends_at_end p ∙ omega arith
ends_output p (b ∷ s) =
    cases (eqb b 10)
    (λ e.
    rw ((line_ends_lem p b e).0, (line_ends_lem p b e).1, e, line_ends)
    (ends_append (answer_to p) (output_from (held []) s) ∙ omega (arith, ends_to p, ends_output (held []) s)))
    (λ e. rw ((line_grows p b e).0, (line_grows p b e).1, e, line_ends) (ends_output _ s))

pub one_answer_each : OneAnswerEach
one_answer_each i = ap line_ends (sym (output_whole i)) ∙ ends_output (held []) i
