-- Decode's answer in eight bytes: each part of it fits its byte, so taking bytes out gives the parts back.
-- Assumes nothing.
use mathlib.Core.Path.{◌≡◌, refl, sym, ap, ◌∙◌}
use mathlib.Core.List.{List, [], ◌∷◌}
use Prim.Native.Nat.{ℕ, zero, suc, ◌+◌, ◌*◌, ◌/◌, ◌%◌, ◌≤◌}
use native.Mathlib.Omega.{arith}
use lib.Dec.{lit≤}
use lib.ListN.{length, get_or}
use Rattle.code_theory.specs.Erasures.{erasures}
use Rattle.code_theory.specs.Reading.{Change, change, Finding, clean, corrected, filled, changes_of, read, unreadable}
use Rattle.code_theory.specs.Operations.{Answer, refused, answered, Report, refusal, failure, success, report, decode_answer}
use Rattle.lines_theory.specs.Sizes.{ChangesWithin, FindingWithin}
use Rattle.lines_theory.proofs.Bounds.{SmallAnswer, decode_small}
use Rattle.decoder.specs.SyndromeDecode.{uncounted}
use Rattle.fogzurt.specs.Packed.{Parts, kind_number, refused_parts, found_parts, parts_of, joined, byte, twos, bytes, packed}
use Rattle.fogzurt.specs.Packed.{unpacked, Within}
use Rattle.fogzurt.specs.Claims.{Tells, Unpacks, SyndromeUnpacks, none_tried, SameBytes}
use Rattle.fogzurt.proofs.Filled.{FillsAll, decode_fills}
use Rattle.fogzurt.proofs.SignedByte.{twos_byte, signed_twos}

-- a position has two digits, a symbol one
change_within : (cs : List Change) (k : ℕ) → ChangesWithin 99 9 cs
    → ((get_or cs k (change 0 0)).position ≤ 255) × ((get_or cs k (change 0 0)).symbol ≤ 255)
change_within [] k s = (lit≤ tt, lit≤ tt)
change_within (c ∷ cs) zero s = (omega (arith, s.0), omega (arith, s.1))
change_within (c ∷ cs) (suc k) s = change_within cs k s.2

kind_within : (f : Finding) → kind_number f ≤ 255
kind_within clean = lit≤ tt
kind_within (corrected c) = lit≤ tt
kind_within (filled cs) = lit≤ tt

found_within : (f : Finding) (t : ℕ) → t ≤ 99 → FindingWithin 99 9 f → Within (found_parts f t)
found_within f t m (s, e) =
    let c = change_within (changes_of f) 0 s in
    let d = change_within (changes_of f) 1 s in
    record {
      number = lit≤ tt;
      kind = kind_within f;
      position = c.0;
      symbol = c.1;
      second_position = d.0;
      second_symbol = d.1;
      error = omega (arith, e);
      tried = omega (arith, m);
    }

refused_within : (n t : ℕ) → n ≤ 99 → t ≤ 99 → Within (refused_parts n t)
refused_within n t h m =
    record {
      number = omega (arith, h);
      kind = lit≤ tt;
      position = lit≤ tt;
      symbol = lit≤ tt;
      second_position = lit≤ tt;
      second_symbol = lit≤ tt;
      error = lit≤ tt;
      tried = omega (arith, m);
    }

within : (a : Answer) → SmallAnswer a → Within (parts_of (report a))
within (refused k) s = refused_within k 0 s (lit≤ tt)
within (answered unreadable t) s = refused_within 4 t (lit≤ tt) s
within (answered (read f a b) t) s = found_within f t s.0 s.1

pub within_answer : (o i : ℕ) (u : List ℕ) (k l : ℕ) → Within (parts_of (report (decode_answer o i u k l)))
within_answer o i u k l = within (decode_answer o i u k l) (decode_small o i u k l)

-- each number of the list is a byte
abbrev AllBytes : List ℕ → Type 0
AllBytes [] = Unit {0}
AllBytes (b ∷ bs) = (b ≤ 255) × AllBytes bs

lowest : (b m : ℕ) → b ≤ 255 → (b + 256 * m) % 256 ≡ b
lowest b m h = omega arith

others : (b m : ℕ) → b ≤ 255 → (b + 256 * m) / 256 ≡ m
others b m h = omega arith

byte_zero : (i : ℕ) → byte i 0 ≡ 0
byte_zero zero = refl
byte_zero (suc i) = byte_zero i

byte_joined : (i : ℕ) (l : List ℕ) → AllBytes l → byte i (joined l) ≡ get_or l i 0
byte_joined i [] h = byte_zero i
byte_joined zero (b ∷ bs) h = lowest b (joined bs) h.0
byte_joined (suc i) (b ∷ bs) h = ap (byte i) (others b (joined bs) h.0) ∙ byte_joined i bs h.1

parts_back : (p : Parts) → Within p → unpacked (joined (bytes p)) ≡ p
parts_back p w =
    let last : AllBytes (twos p.error ∷ p.tried ∷ []) = (twos_byte p.error w.error, (w.tried, tt)) in
    let second : AllBytes (p.second_position ∷ p.second_symbol ∷ twos p.error ∷ p.tried ∷ []) =
    (w.second_position, (w.second_symbol, last)) in
    let h : AllBytes (bytes p) = (w.number, (w.kind, (w.position, (w.symbol, second)))) in
    let g : (i : ℕ) → byte i (joined (bytes p)) ≡ get_or (bytes p) i 0 = λ i. byte_joined i (bytes p) h in
    rw (g 0, g 1, g 2, g 3, g 4, g 5, g 6, g 7, signed_twos p.error w.error) refl

tells : (e : ℕ) (a : Report) (c : Parts) → FillsAll e a → c ≡ parts_of a → Tells e a c
tells e (refusal n) c f is = is
tells e (failure t) c f is = is
tells e (success clean t) c f is = is
tells e (success (corrected x) t) c f is = is
tells e (success (filled []) t) c f is = omega (arith, f.0, f.1)
tells e (success (filled (x ∷ [])) t) c f is = (sym f.0, is)
tells e (success (filled (x ∷ y ∷ [])) t) c f is = (sym f.0, is)
tells e (success (filled (x ∷ y ∷ z ∷ cs)) t) c f is = omega (arith, f.0, f.2)

back : (told : Report) → Within (parts_of told) → {r : ℕ} → r ≡ packed told → unpacked r ≡ parts_of told
unfolding packed
back told w e = ap unpacked e ∙ parts_back (parts_of told) w

pub unpacks : Unpacks
unpacks o i u r first first' second second' a =
    let k = length first in
    let l = length second in
    let is = report (decode_answer o i u k l) in
    let parts = back is (within_answer o i u k l) a.answer in
    (tells (erasures u) is (unpacked r) (decode_fills o i u k l) parts, a.first_out, a.second_out)

-- Without the count.

parts_uncounted : (a : Report) → parts_of (uncounted a) ≡ none_tried (parts_of a)
parts_uncounted (refusal k) = refl
parts_uncounted (failure t) = refl
parts_uncounted (success f t) = refl

uncounted_within : (a : Report) → Within (parts_of a) → Within (parts_of (uncounted a))
uncounted_within a w =
    rw (parts_uncounted a)
    (record {
      number = w.number;
      kind = w.kind;
      position = w.position;
      symbol = w.symbol;
      second_position = w.second_position;
      second_symbol = w.second_symbol;
      error = w.error;
      tried = lit≤ tt;
    })

uncounted_fills : (e : ℕ) (a : Report) → FillsAll e a → FillsAll e (uncounted a)
uncounted_fills e (refusal n) f = f
uncounted_fills e (failure t) f = f
uncounted_fills e (success clean t) f = f
uncounted_fills e (success (corrected c) t) f = f
uncounted_fills e (success (filled cs) t) f = f

pub within_uncounted : (o i : ℕ) (u : List ℕ) (k l : ℕ) → Within (parts_of (uncounted (report (decode_answer o i u k l))))
within_uncounted o i u k l = uncounted_within (report (decode_answer o i u k l)) (within_answer o i u k l)

pub syndrome_unpacks : SyndromeUnpacks
syndrome_unpacks o i u r first first' second second' a =
    let k = length first in
    let l = length second in
    let is = report (decode_answer o i u k l) in
    let parts = back (uncounted is) (within_uncounted o i u k l) a.answer in
    let fills = uncounted_fills (erasures u) is (decode_fills o i u k l) in
    (tells (erasures u) (uncounted is) (unpacked r) fills parts, a.first_out, a.second_out)

pub same_bytes : SameBytes
same_bytes o i u first second r first' second' d first'' second'' a b =
    let k = length first in
    let l = length second in
    let is = report (decode_answer o i u k l) in
    let plain : unpacked d ≡ parts_of is = back is (within_answer o i u k l) b.answer in
    let none : unpacked r ≡ parts_of (uncounted is) = back (uncounted is) (within_uncounted o i u k l) a.answer in (
      none ∙ parts_uncounted is ∙ ap none_tried (sym plain),
      a.first_out ∙ sym b.first_out,
      a.second_out ∙ sym b.second_out,
    )
