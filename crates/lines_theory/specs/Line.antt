-- The answer to one line (01: The line program), as bytes.
-- Assumes nothing.
use Rattle.std.specs.Prelude.{Bool, true, false, ◌&&◌, ◌||◌, List, [], ◌∷◌, ◌++◌, map, ℕ, zero, suc, ◌+◌, ◌-◌, ◌/◌, ◌%◌, leb, ltb, eqb, length, get_or, drop, ℤ, pos, negsuc}
use Rattle.code_theory.specs.Parameters.{Parameters, message_length}
use Rattle.code_theory.specs.Profiles.{profile, profile_in}
use Rattle.code_theory.specs.Component.{erasure}
use Rattle.code_theory.specs.Refusal.{Test, asks, first_refusal}
use Rattle.code_theory.specs.Reading.{Change, Finding, clean, corrected, filled, changes_of, error_of, read, unreadable, received_reading}
use Rattle.code_theory.specs.TriedPositions.{tried_positions}
use Rattle.code_theory.specs.Operations.{Answer, refused, answered, decode_tests, read_unless, decode_answer}

-- What goes in. A line is the list of its bytes, without the byte 10 that ends it.

-- 01: a decimal digit
abbrev pub is_digit : ℕ → Bool
is_digit b = leb 48 b && leb b 57

-- 02: "In boxlines a mark is a question mark"; a mark is an erasure
abbrev pub is_question_mark : ℕ → Bool
is_question_mark b = eqb b 63

abbrev pub is_symbol : ℕ → Bool
is_symbol b = is_digit b || is_question_mark b

abbrev pub symbols_only : List ℕ → Bool
symbols_only [] = true
symbols_only (b ∷ bs) = is_symbol b && symbols_only bs

-- 01: a digit, one space, one or more digits; 02: question marks among the latter
unfoldable pub has_form : List ℕ → Bool
has_form l = leb 3 (length l) && is_digit (get_or l 0 0) && eqb (get_or l 1 0) 32 && symbols_only (drop 2 l)

-- 01: "a line of at most 101 bytes"
abbrev pub is_short : List ℕ → Bool
is_short l = leb (length l) 101

-- the value of a digit
abbrev pub digit_value : ℕ → ℕ
digit_value b = b - 48

-- the symbol that a byte stands for
abbrev pub symbol_value : ℕ → ℕ
symbol_value b = elim (is_question_mark b) [ true ↦ erasure | false ↦ digit_value b ]

-- the profile of a line, and its symbols
abbrev pub profile_of : List ℕ → ℕ
profile_of l = digit_value (get_or l 0 0)

abbrev pub symbols_of : List ℕ → List ℕ
symbols_of l = map symbol_value (drop 2 l)

-- What comes out.

abbrev pub digit_byte : ℕ → ℕ
digit_byte d = 48 + d

-- n in decimal, with no leading zero and at most k digits, before what follows it
abbrev pub decimal_before : ℕ → ℕ → List ℕ → List ℕ
decimal_before zero n after = after
decimal_before (suc k) n after =
    elim (ltb n 10) [ true ↦ digit_byte n ∷ after | false ↦ decimal_before k (n / 10) (digit_byte (n % 10) ∷ after) ]

-- a number of up to 20 digits, as 64 bits hold, with what follows it
unfoldable pub decimal : ℕ → List ℕ → List ℕ
decimal n after = decimal_before 20 n after

-- 02: a number "with its sign" (bytes 43 and 45), and 0 "plain", with what follows it
abbrev pub signed_decimal : ℤ → List ℕ → List ℕ
signed_decimal (pos zero) after = decimal 0 after
signed_decimal (pos (suc n)) after = 43 ∷ decimal (suc n) after
signed_decimal (negsuc n) after = 45 ∷ decimal (suc n) after

-- the letter of a kind, C or M (01: clean, mended); 02: "The kind is F"
abbrev pub letter : Finding → ℕ
letter clean = 67
letter (corrected c) = 77
letter (filled cs) = 70

-- R, a space, the number
unfoldable pub refusal_line : ℕ → List ℕ
refusal_line n = 82 ∷ 32 ∷ decimal n (10 ∷ [])

-- 02: "for each marked place, in rising order, by the place and the symbol sent", before what follows; 01 has one of each
abbrev pub changes_before : List Change → List ℕ → List ℕ
changes_before [] after = after
changes_before (c ∷ cs) after = decimal c.position (32 ∷ decimal c.symbol (32 ∷ changes_before cs after))

-- profile, the kind's letter, place and sent symbol of each change, error, first word, second word
unfoldable pub reading_line : ℕ → ℕ → List Change → ℤ → List ℕ → List ℕ → List ℕ
reading_line i c cs e a b =
    let words = map digit_byte a ++ 32 ∷ (map digit_byte b ++ 10 ∷ []) in
    digit_byte i ∷ 32 ∷ c ∷ 32 ∷ changes_before cs (signed_decimal e (32 ∷ words))

-- the output for what Read answers of a word of profile i; 02, T-08: "boxlines prints no count"
abbrev pub answer_line : ℕ → Answer → List ℕ
answer_line i (refused n) = refusal_line n
answer_line i (answered unreadable t) = refusal_line 4
answer_line i (answered (read f a b) t) = reading_line i (letter f) (changes_of f) (error_of f) a b

-- 02, T-03: "boxlines and sheets stay with edition 13"
abbrev pub line_edition : ℕ
line_edition = 13

-- Read, with outputs of the profile's length: what is tested, and what is answered
abbrev pub read_tests : ℕ → List ℕ → List Test
read_tests i u = decode_tests line_edition i u (message_length (profile i)) (message_length (profile i))

unfoldable pub read_answer : ℕ → List ℕ → Answer
read_answer i u = decode_answer line_edition i u (message_length (profile i)) (message_length (profile i))

-- what is tested of a line: 9 for one not of the form or too long; then the order of Read
abbrev pub line_tests : List ℕ → List Test
line_tests l = asks (is_short l && has_form l) 9 ∷ read_tests (profile_of l) (symbols_of l)

-- the output for a line: the number n that refuses it, or what is read where n is 0
abbrev pub line_unless : ℕ → List ℕ → List ℕ
line_unless n l =
    let p : Parameters = profile_in line_edition (profile_of l) in
    answer_line (profile_of l) (read_unless n (received_reading p (symbols_of l)) (tried_positions p (symbols_of l)))

-- 01: the answer to a line
unfoldable pub line_answer : List ℕ → List ℕ
line_answer l = line_unless (first_refusal (line_tests l)) l
