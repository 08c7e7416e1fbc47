-- The reading of a line, as the code hands it on.
-- Assumes nothing.
use Rattle.std.specs.Prelude.{◌≡◌, ℕ, ◌-◌, ◌≤◌, Option, Some, None, true, false, ◌&&◌, T, List, map, length, take}
use Rattle.lines_theory.specs.Line.{is_digit, is_symbol, symbols_only, digit_value, symbol_value, symbols_of, is_short, has_form, profile_of}

-- the profile of a line of the form
abbrev pub form_of : List ℕ → Option ℕ
form_of l = elim (is_short l && has_form l) [ true ↦ Some (profile_of l) | false ↦ None ]

-- r is the value of the byte b, if b is a digit, and else past 9
pub record Valued (b r : ℕ) : Type 0 where
  pub low : T (is_digit b) → r ≤ 9
  pub digit : r ≤ 9 → T (is_digit b)
  pub is : r ≤ 9 → r ≡ digit_value b

-- y is the symbol that the byte b stands for, if b is a digit or a question mark, and else the height h is past 9
pub record SymbolRead (b y h : ℕ) : Type 0 where
  pub low : T (is_symbol b) → h ≤ 9
  pub symbol : h ≤ 9 → T (is_symbol b)
  pub is : h ≤ 9 → y ≡ symbol_value b

-- the greatest height tells whether the bytes s are symbols, and then these stand at the front of a word
pub record SymbolValues (s word : List ℕ) (highest : ℕ) : Type 0 where
  pub low : T (symbols_only s) → highest ≤ 9
  pub symbols : highest ≤ 9 → T (symbols_only s)
  pub text : highest ≤ 9 → take (length s) word ≡ map symbol_value s

-- the form of the line l, and of one of the form its symbols at the front of a word
pub record Parsed (l : List ℕ) (r : Option ℕ) (word : List ℕ) : Type 0 where
  pub form : r ≡ form_of l
  pub text : T (is_short l && has_form l) → take (length l - 2) word ≡ symbols_of l
