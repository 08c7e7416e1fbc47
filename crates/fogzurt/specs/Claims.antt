-- What is claimed of the C entry points, by what their contracts allow.
-- Assumes nothing.
use Rattle.std.specs.Prelude.{◌≡◌, true, false, List, [], ◌∷◌, ℕ, ◌+◌, ◌*◌, length, ℤ, pos, negsuc}
use Rattle.code_theory.specs.Erasures.{erasures}
use Rattle.code_theory.specs.Reading.{Change, change, clean, corrected, filled}
use Rattle.code_theory.specs.Operations.{Report, refusal, failure, success, decode_answer, report, decode_output}
use Rattle.decoder.specs.SyndromeDecode.{uncounted}
use Rattle.fogzurt.specs.Packed.{Parts, packed, PackedAllows, SyndromePackedAllows, unpacked}

-- the number, the kind (1 clean, 2 corrected, 3 filled), a change and a second one, the error, and how many positions were tried
abbrev pub told : ℕ → ℕ → Change → Change → ℤ → ℕ → Parts
told n k c d z t =
    record {
      number = n;
      kind = k;
      position = c.position;
      symbol = c.symbol;
      second_position = d.position;
      second_symbol = d.symbol;
      error = z;
      tried = t;
    }

-- what C is told of a report on a word with e erasures; 0 for what there is not. One position or two are filled, as many as are erased
abbrev pub Tells : ℕ → Report → Parts → Type 0
Tells e (refusal n) c = c ≡ told n 0 (change 0 0) (change 0 0) (pos 0) 0
Tells e (failure t) c = c ≡ told 4 0 (change 0 0) (change 0 0) (pos 0) t
Tells e (success clean t) c = c ≡ told 0 1 (change 0 0) (change 0 0) (pos 0) t
Tells e (success (corrected x) t) c = c ≡ told 0 2 (change x.position x.symbol) (change 0 0) x.error t
Tells e (success (filled []) t) c = ⊥
Tells e (success (filled (x ∷ [])) t) c = (e ≡ 1) × (c ≡ told 0 3 x (change 0 0) (pos 0) t)
Tells e (success (filled (x ∷ y ∷ [])) t) c = (e ≡ 2) × (c ≡ told 0 3 x y (pos 0) t)
Tells e (success (filled (x ∷ y ∷ z ∷ cs)) t) c = ⊥

-- so C gets every part of decode's answer back, and its outputs
abbrev pub Unpacks : Type 0
Unpacks =
    (o i : ℕ) (u : List ℕ) (r : ℕ) (first first' second second' : List ℕ) → PackedAllows o i u r first first' second second'
    → let a = decode_answer o i u (length first) (length second) in
    Tells (erasures u) (report a) (unpacked r) × (first' ≡ decode_output true a first) × (second' ≡ decode_output false a second)

-- and of the syndrome decoder's, which has no count (02, T-09)
abbrev pub SyndromeUnpacks : Type 0
SyndromeUnpacks =
    (o i : ℕ) (u : List ℕ) (r : ℕ) (first first' second second' : List ℕ) → SyndromePackedAllows o i u r first first' second second'
    → let a = decode_answer o i u (length first) (length second) in
    Tells (erasures u) (uncounted (report a)) (unpacked r) × (first' ≡ decode_output true a first) × (second' ≡ decode_output false a second)

-- the same parts, with 0 for how many positions were tried
abbrev pub none_tried : Parts → Parts
none_tried c = told c.number c.kind (change c.position c.symbol) (change c.second_position c.second_symbol) c.error 0

-- the syndrome decoder tells C what decode tells it, but for the count, which it leaves 0, and the outputs are the same
abbrev pub SameBytes : Type 0
SameBytes =
    (o i : ℕ) (u : List ℕ) (first second : List ℕ) (r : ℕ) (first' second' : List ℕ) (d : ℕ) (first'' second'' : List ℕ)
    → SyndromePackedAllows o i u r first first' second second' → PackedAllows o i u d first first'' second second''
    → (unpacked r ≡ none_tried (unpacked d)) × (first' ≡ first'') × (second' ≡ second'')

-- as include/fogzurt.h has the bytes: number, kind, position, symbol, second position, second symbol, error, tried
pub record HeaderBytes : Type 0 where
  pub clean_word : packed (success clean 0) ≡ 1 * 256
  pub corrected_high : packed (success (corrected (record { position = 6; symbol = 1; error = pos 1 })) 3)
      ≡ 2 * 256 + 6 * 65536 + 1 * 16777216 + 1 * 281474976710656 + 3 * 72057594037927936
  pub corrected_low : packed (success (corrected (record { position = 19; symbol = 2; error = negsuc 0 })) 0)
      ≡ 2 * 256 + 19 * 65536 + 2 * 16777216 + 255 * 281474976710656
  pub one_filled : packed (success (filled (record { position = 6; symbol = 1 } ∷ [])) 0) ≡ 3 * 256 + 6 * 65536 + 1 * 16777216
  pub two_filled : packed (success (filled (record { position = 6; symbol = 1 } ∷ record { position = 18; symbol = 2 } ∷ [])) 0)
      ≡ 3 * 256 + 6 * 65536 + 1 * 16777216 + 18 * 4294967296 + 2 * 1099511627776
  pub unreadable_none_tried : packed (failure 0) ≡ 4
  pub unreadable_all_tried : packed (failure 49) ≡ 4 + 49 * 72057594037927936
  pub wrong_symbol : packed (refusal 3) ≡ 3
  pub many_erasures : packed (refusal 11) ≡ 11
  pub no_edition_lem : packed (refusal 12) ≡ 12

pub record Claims : Type 0 where
  pub unpacks : Unpacks
  pub syndrome_unpacks : SyndromeUnpacks
  pub same_bytes : SameBytes
  pub header_bytes : HeaderBytes
