-- Decode's answer as one number of eight bytes, the lowest first: the number of 01 or 02, the kind (1 clean, 2 corrected, 3 filled), the
-- position, the symbol sent there, those of the second filled position, the error (02, T-02: the fault), and how many positions were tried
-- (02, T-08). And how C takes it apart.
-- Assumes nothing.
use Rattle.std.specs.Prelude.{◌≡◌, true, false, List, [], ◌∷◌, ℕ, zero, suc, ◌+◌, ◌-◌, ◌*◌, ◌/◌, ◌%◌, ◌≤◌, ltb, length, get_or, ℤ, pos, negsuc, nat_abs, ◌-ℤ◌}
use Rattle.code_theory.specs.Reading.{Finding, clean, corrected, filled, Change, change, changes_of, error_of}
use Rattle.code_theory.specs.Operations.{Answer, Report, refusal, failure, success, decode_answer, report, decode_output}
use Rattle.decoder.specs.SyndromeDecode.{uncounted}

-- what C sees of an answer; a part that it does not have is 0
pub record Parts : Type 0 where
  pub number : ℕ
  pub kind : ℕ
  pub position : ℕ
  pub symbol : ℕ
  pub second_position : ℕ
  pub second_symbol : ℕ
  pub error : ℤ
  pub tried : ℕ

abbrev pub kind_number : Finding → ℕ
kind_number clean = 1
kind_number (corrected c) = 2
kind_number (filled cs) = 3

-- the parts of a refusal by n, where t positions were tried
abbrev pub refused_parts : ℕ → ℕ → Parts
refused_parts n t =
    record { number = n; kind = 0; position = 0; symbol = 0; second_position = 0; second_symbol = 0; error = pos 0; tried = t }

-- the parts of what was found, where t were
abbrev pub found_parts : Finding → ℕ → Parts
found_parts f t =
    let c : Change = get_or (changes_of f) 0 (change 0 0) in
    let d : Change = get_or (changes_of f) 1 (change 0 0) in
    record {
      number = 0;
      kind = kind_number f;
      position = c.position;
      symbol = c.symbol;
      second_position = d.position;
      second_symbol = d.symbol;
      error = error_of f;
      tried = t;
    }

abbrev pub parts_of : Report → Parts
parts_of (refusal k) = refused_parts k 0
parts_of (failure t) = refused_parts 4 t
parts_of (success f t) = found_parts f t

-- bytes as a number, the first lowest
abbrev pub joined : List ℕ → ℕ
joined [] = 0
joined (b ∷ bs) = b + 256 * joined bs

-- byte i of a number
abbrev pub byte : ℕ → ℕ → ℕ
byte zero n = n % 256
byte (suc i) n = byte i (n / 256)

-- an integer in a byte, by two's complement: -n is 256 - n
abbrev pub twos : ℤ → ℕ
twos (pos n) = n
twos (negsuc n) = 256 - suc n

-- and back
abbrev pub signed : ℕ → ℤ
signed b = elim (ltb b 128) [ true ↦ pos b | false ↦ pos b -ℤ pos 256 ]

abbrev pub bytes : Parts → List ℕ
bytes p = p.number ∷ p.kind ∷ p.position ∷ p.symbol ∷ p.second_position ∷ p.second_symbol ∷ twos p.error ∷ p.tried ∷ []

unfoldable pub packed : Report → ℕ
packed a = joined (bytes (parts_of a))

-- r is the report `said` packed, and the outputs, that held `first` and `second` and now hold `first'` and `second'`, are those of the
-- answer a
pub record PackedAnswers (said : Report) (a : Answer) (r : ℕ) (first first' second second' : List ℕ) : Type 0 where
  pub answer : r ≡ packed said
  pub first_out : first' ≡ decode_output true a first
  pub second_out : second' ≡ decode_output false a second

-- what fogzurt_decode may answer to the word u in edition o and profile i
pub record PackedAllows (o i : ℕ) (u : List ℕ) (r : ℕ) (first first' second second' : List ℕ) : Type 0 where
  pub answer : r ≡ packed (report (decode_answer o i u (length first) (length second)))
  pub first_out : first' ≡ decode_output true (decode_answer o i u (length first) (length second)) first
  pub second_out : second' ≡ decode_output false (decode_answer o i u (length first) (length second)) second

-- what fogzurt_syndrome_decode may: the same, without the count of positions tried (02, T-09)
abbrev pub SyndromePackedAllows : ℕ → ℕ → List ℕ → ℕ → List ℕ → List ℕ → List ℕ → List ℕ → Type 0
SyndromePackedAllows o i u r first first' second second' =
    let a = decode_answer o i u (length first) (length second) in
    PackedAnswers (uncounted (report a)) a r first first' second second'

-- what the macros of include/fogzurt.h take out
abbrev pub unpacked : ℕ → Parts
unpacked n =
    record {
      number = byte 0 n;
      kind = byte 1 n;
      position = byte 2 n;
      symbol = byte 3 n;
      second_position = byte 4 n;
      second_symbol = byte 5 n;
      error = signed (byte 6 n);
      tried = byte 7 n;
    }

-- each part fits its byte
pub record Within (p : Parts) : Type 0 where
  pub number : p.number ≤ 255
  pub kind : p.kind ≤ 255
  pub position : p.position ≤ 255
  pub symbol : p.symbol ≤ 255
  pub second_position : p.second_position ≤ 255
  pub second_symbol : p.second_symbol ≤ 255
  pub error : nat_abs p.error ≤ 127
  pub tried : p.tried ≤ 255
