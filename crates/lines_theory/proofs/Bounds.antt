-- What a reading prints is small: a place has at most two digits, its symbol, the error and the symbols of the messages one. And so is the
-- count of the positions tried, which is not printed.
-- Assumes nothing.
use mathlib.Core.Path.{◌≡◌, refl, subst}
use mathlib.Core.Bool.{Bool, true, false, ◌&&◌}
use mathlib.Core.List.{List, [], ◌∷◌}
use Prim.Native.Nat.{ℕ, zero, suc, ◌+◌, ◌^◌, ◌≤◌, zero-le}
use native.Mathlib.Nat.{le_trans, le_of_lt}
use native.Mathlib.Numerals.{add-one}
use native.Mathlib.Omega.{arith}
use lib.Dec.{lit≤, T, leb, ltb, eqb, leb→le, eqb→eq}
use lib.ListN.{length, get_or, drop}
use lib.Seq.{get_or-drop}
use borrow.Author.Tests.{ltb-true, eqb-true}
use Rattle.modular_theory.specs.Search.{all_below}
use Rattle.modular_theory.specs.Digits.{digits}
use Rattle.modular_theory.proofs.Search.{and_left, and_right, least_le}
use Rattle.modular_theory.proofs.Integer.{difference_within}
use Rattle.modular_theory.proofs.Digits.{digits_below}
use Rattle.code_theory.specs.Parameters.{Parameters, message_length, codeword_length}
use Rattle.code_theory.specs.Refusal.{Test, first_refusal}
use Rattle.code_theory.specs.Component.{Below, is_received, erasure}
use Rattle.code_theory.specs.Codeword.{codeword}
use Rattle.code_theory.specs.Erasures.{erasures, fill, filling, first_filling}
use Rattle.code_theory.specs.Reading.{Change, Finding, correction_at, clean, corrected, filled, changes_of, changes_at}
use Rattle.code_theory.specs.Reading.{Reading, read, unreadable, read_as, reading, near_reading, filled_reading, received_reading}
use Rattle.code_theory.specs.Reading.{mends, changed_at, sent_at}
use Rattle.code_theory.specs.TriedPositions.{tried_positions}
use Rattle.code_theory.specs.Profiles.{profiles, is_profile, profile, profile_in}
use Rattle.code_theory.specs.Operations.{Answer, refused, answered, decode_tests, read_unless, decode_answer}
use Rattle.code_theory.proofs.Refusal.{AllPass, passed_every, number_most}
use Rattle.code_theory.proofs.Symbols.{symbol_below}
use Rattle.code_theory.proofs.Merge.{cases}
use Rattle.code_theory.proofs.Whole.{received_levels}
use Rattle.code_theory.proofs.Carried.{below_carried}
use Rattle.code_theory.proofs.TriedPositions.{counts_told}
use Rattle.code_theory.proofs.Profiles.{every_profile}
use Rattle.lines_theory.specs.Sizes.{ChangesWithin, FindingWithin}

-- A reading.

SmallReading : ℕ → ℕ → Reading → Type 0
SmallReading n q (read f a b) = FindingWithin n q f × Below q a × Below q b
SmallReading n q unreadable = Unit {0}

read_as_lem : (p : Parameters) → 1 ≤ p.q → (f : Finding) (n : ℕ) (u : List ℕ) → FindingWithin n p.q f
    → SmallReading n p.q (read_as p f u)
unfolding SmallReading
read_as_lem p h f n u s = (s, below_carried p h true u, below_carried p h false u)

-- the error is the difference of two levels
near_small : (p : Parameters) → 1 ≤ p.q → (u : List ℕ) → Below p.q u → SmallReading (length u) p.q (near_reading p u)
unfolding near_reading SmallReading sent_at
near_small p h u b =
    let i = changed_at p u in
    let x = get_or u i 0 in
    let y = sent_at p u i in
    let level : y ≤ p.q = least_le (mends p u i) p.q in
    let error = difference_within p.q x y (le_of_lt (b i)) level in
    cases (ltb i (length u))
    (λ e.
    rw (e, near_reading)
    (read_as_lem p h (corrected (correction_at i x y)) (length u) _ ((rw add-one (ltb-true i (length u) e), level, tt), error)))
    (λ e. rw (e, near_reading) tt)

reading_small : (p : Parameters) → 1 ≤ p.q → (u : List ℕ) → Below p.q u → SmallReading (length u) p.q (reading p u)
unfolding reading
reading_small p h u b =
    cases (codeword p u) (λ e. rw (e, reading) (read_as_lem p h clean (length u) u ((zero-le, zero-le, tt), zero-le)))
    (λ e. rw (e, reading) (near_small p h u b))

-- the symbols at erased positions are those that fill them, whatever the others are
changes_within : (n q i : ℕ) (v ys : List ℕ) → i + length v ≤ suc n → Below q ys → ChangesWithin n q (changes_at i v (fill v ys))
changes_within n q i [] ys h b = tt
changes_within n q i (x ∷ v) ys h b =
    cases (eqb x erasure)
    (λ e.
    rw (e, fill, e, changes_at)
    (omega arith, le_of_lt (b 0), changes_within n q (suc i) v (drop 1 ys) (omega arith) (λ j. rw get_or-drop (b (1 + j)))))
    (λ e. rw (e, fill, e, changes_at) (changes_within n q (suc i) v ys (omega arith) b))

filled_small : (p : Parameters) → 1 ≤ p.q → (v : List ℕ) → SmallReading (length v) p.q (filled_reading p v)
unfolding filled_reading filling SmallReading
filled_small p h v =
    let e = first_filling p v in
    let ys = digits p.q (erasures v) e in
    let small = changes_within (length v) p.q 1 v ys (omega arith) (λ j. digits_below p.q (erasures v) e j h) in
    let found = filled (changes_at 1 v (fill v ys)) in
    cases (ltb e (p.q ^ erasures v)) (λ t. rw (t, filled_reading) (read_as_lem p h found (length v) _ (small, zero-le)))
    (λ t. rw (t, filled_reading) tt)

received_small : (p : Parameters) → 1 ≤ p.q → (v : List ℕ) → T (is_received p v)
    → SmallReading (length v) p.q (received_reading p v)
unfolding received_reading
received_small p h v r =
    cases (eqb (erasures v) 0)
    (λ e. rw (e, received_reading) (reading_small p h v (symbol_below p.q h v (received_levels p.q v r (eqb-true _ _ e)))))
    (λ e. rw (e, received_reading) (filled_small p h v))

-- An answer.

-- the numbers of a profile
small_row : ℕ → Bool
small_row i = leb (codeword_length (profile i)) 99 && (leb 1 (profile i).q && leb (profile i).q 9)

small_rows : T (all_below (λ j. small_row (suc j)) (length profiles))
unfolding small_row profile
small_rows = tt

small_row_lem : (i : ℕ) → T (is_profile i) → (codeword_length (profile i) ≤ 99) × (1 ≤ (profile i).q) × ((profile i).q ≤ 9)
unfolding small_row
small_row_lem i h =
    let f : T (small_row i) = every_profile small_row small_rows i h in
    let g : T (leb 1 (profile i).q && leb (profile i).q 9) = and_right (leb (codeword_length (profile i)) 99) _ f in (
      leb→le _ _ (and_left (leb (codeword_length (profile i)) 99) _ f),
      leb→le _ _ (and_left (leb 1 (profile i).q) _ g),
      leb→le _ _ (and_right (leb 1 (profile i).q) _ g),
    )

small_changes : (n q : ℕ) (cs : List Change) → n ≤ 99 → q ≤ 9 → ChangesWithin n q cs → ChangesWithin 99 9 cs
small_changes n q [] h g s = tt
small_changes n q (c ∷ cs) h g s = (le_trans s.0 h, le_trans s.1 g, small_changes n q cs h g s.2)

-- at most two digits for a refusal's number, for a position and for the count, one for a symbol and for the error
abbrev pub SmallAnswer : Answer → Type 0
SmallAnswer (refused n) = n ≤ 99
SmallAnswer (answered unreadable t) = t ≤ 99
SmallAnswer (answered (read f a b) t) = (t ≤ 99) × FindingWithin 99 9 f × Below 10 a × Below 10 b

small_reading : (n q : ℕ) (r : Reading) (t : ℕ) → t ≤ 99 → n ≤ 99 → q ≤ 9 → SmallReading n q r → SmallAnswer (answered r t)
unfolding SmallReading
small_reading n q (read f a b) t m h g s = (
  m,
  (small_changes n q (changes_of f) h g s.0.0, le_trans s.0.1 g),
  (λ i. le_trans (s.1 i) (le_trans g (lit≤ tt))),
  (λ i. le_trans (s.2 i) (le_trans g (lit≤ tt))),
)
small_reading n q unreadable t m h g s = m

pub decode_small : (e i : ℕ) (u : List ℕ) (k l : ℕ) → SmallAnswer (decode_answer e i u k l)
unfolding decode_answer
decode_small e i u k l = go (first_refusal tests) refl
  where
    tests : List Test
    tests = decode_tests e i u k l

    p : Parameters
    p = profile_in e i

    tried : ℕ
    tried = tried_positions p u

    full : AllPass (decode_tests e i u k l) → SmallAnswer (answered (received_reading p u) tried)
    full (edition, (known, (lengths, (symbols, rest)))) =
        let n = codeword_length p in
        let (few, some, low) = small_row_lem i known in
        let two = eqb (length u) n && eqb k (message_length p) in
        let long : length u ≡ n = eqb→eq _ _ (and_left (eqb (length u) n) _ (and_left two _ lengths)) in
        let small = received_small p some u symbols in
        let count : tried ≤ 99 = omega (arith, (counts_told p u).most) in
        small_reading (length u) p.q (received_reading p u) tried count (rw long few) low small

    go : (n : ℕ) → first_refusal tests ≡ n → SmallAnswer (read_unless n (received_reading p u) tried)
    go zero f = full (passed_every tests tt f)
    go (suc n) f = subst (λ (m : ℕ). m ≤ 99) f (number_most 99 tests tt)
