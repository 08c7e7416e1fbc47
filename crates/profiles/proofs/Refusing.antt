-- By which of 01's numbers 1 to 3, and 02's 11, 12 and 14, a call is refused: 12 where the number is no edition's, 1 where it is no
-- profile's, and by a profile's row 14 where it is no line rule's, 2 and 3, by a test of the lengths and one of the symbols, and then 11.
-- And what is known of a call that none refuses.
-- Assumes nothing.
use Rattle.std.proofs.Common.{◌≡◌, ℕ, zero, suc, ◌≤◌, Bool, true, false, ◌&&◌, T, eqb, leb, ◌≢◌, List, [], ◌∷◌, length, sym, refl, ap, ◌∙◌, ap₂, arith, eqb→eq, leb-true}
use Rattle.modular_theory.proofs.Search.{eq_test, and_intro, and_left, and_right, passes}
use Rattle.code_theory.specs.Parameters.{is_edition, edition_of, Parameters, message_length, codeword_length}
use Rattle.code_theory.specs.Component.{symbols_below, levels_or_erasures, is_word}
use Rattle.code_theory.specs.LineRule.{is_line_rule}
use Rattle.code_theory.specs.Erasures.{erasures, most_erasures}
use Rattle.code_theory.specs.Profiles.{is_profile, profile, profile_in}
use Rattle.code_theory.specs.Reading.{Reading, received_reading}
use Rattle.code_theory.specs.TriedPositions.{tried_positions}
use Rattle.code_theory.specs.Refusal.{Test, asks, first_refusal}
use Rattle.code_theory.specs.Operations.{Answer, refused, answered, encode_refusal, read_unless, decode_answer}
use Rattle.code_theory.proofs.Merge.{cases}
use Rattle.profiles.specs.declared.row.Row.{Row}
use Rattle.profiles.specs.Row.{parameters, RowOf}
use Rattle.profiles.specs.Refusal.{encode_number, decode_number, erasure_number}
use Rattle.profiles.proofs.Table.{levels_are, message_is, codeword_is}

-- The number by the two tests and those after them.

-- 2 where a length is wrong, then 3 where a symbol is, then what other tests say; 0 where all pass
abbrev number_by : Bool → Bool → List Test → ℕ
number_by lengths symbols others = first_refusal (asks lengths 2 ∷ asks symbols 3 ∷ others)

-- 11 where more than `most` symbols are erased
abbrev erasure_tests : ℕ → List ℕ → List Test
erasure_tests most u = asks (leb (erasures u) most) 11 ∷ []

-- n is the number by these tests
pub record Tested (n : ℕ) (e s : Bool) (others : List Test) : Type 0 where
  is : n ≡ number_by e s others

module _ {n : ℕ} {e s : Bool} {others : List Test} (h : Tested n e s others) where
  pub refuses_length : e ≡ false → 2 ≡ n
  refuses_length f = rw (h.is, f)

  pub refuses_symbol : e ≡ true → s ≡ false → 3 ≡ n
  refuses_symbol f g = rw (h.is, f, g)

  pub tests_others : e ≡ true → s ≡ true → first_refusal others ≡ n
  tests_others f g = rw (h.is, f, g)

module _ (t : Row) (r : ℕ) (a b : List ℕ) (l : ℕ) where
  -- the number by the test of the line rule
  abbrev rule_by : Bool → ℕ
  rule_by d =
      first_refusal
      (asks d 14
      ∷ asks (eqb (length a) t.message && eqb (length b) t.message && eqb l t.codeword) 2
      ∷ asks (symbols_below t.q a && symbols_below t.q b) 3
      ∷ [])

  pub rule_refused : is_line_rule r ≡ false → 14 ≡ encode_number t r a b l
  unfolding encode_number
  rule_refused f = ap rule_by (sym f)

  pub encode_tests_lem : is_line_rule r ≡ true
      → Tested (encode_number t r a b l) (eqb (length a) t.message && eqb (length b) t.message && eqb l t.codeword)
      (symbols_below t.q a && symbols_below t.q b)
      []
  unfolding encode_number
  encode_tests_lem f = record { is = ap rule_by f }

pub decode_tests_lem : (t : Row) (u : List ℕ) (k l : ℕ)
    → Tested (decode_number t u k l) (eqb (length u) t.codeword && eqb k t.message && eqb l t.message) (levels_or_erasures t.q u)
    (erasure_tests (most_erasures (parameters t)) u)
unfolding decode_number
decode_tests_lem t u k l = record { is = refl }

all_pass : (e s : Bool) (others : List Test) → number_by e s others ≡ 0 → T e × T s × (first_refusal others ≡ 0)
all_pass true true others h = (tt, tt, h)
all_pass true false others h = absurd (omega arith)
all_pass false s others h = absurd (omega arith)

-- the lengths of three words, by one test
pub three_lengths : (x y z a b c : ℕ) → T (eqb x a && eqb y b && eqb z c) → (x ≡ a) × (y ≡ b) × (z ≡ c)
three_lengths x y z a b c h =
    let two : T (eqb x a && eqb y b) = and_left (eqb x a && eqb y b) (eqb z c) h in (
      eqb→eq x a (and_left (eqb x a) (eqb y b) two),
      eqb→eq y b (and_right (eqb x a) (eqb y b) two),
      eqb→eq z c (and_right (eqb x a && eqb y b) (eqb z c) h),
    )

-- Encoding: the messages a and b, and an output of l symbols.

-- a call of encode that no number refuses
pub record Accepted (i : ℕ) (a b : List ℕ) (l : ℕ) : Type 0 where
  pub first : T (is_word (profile i).q (message_length (profile i)) a)
  pub second : T (is_word (profile i).q (message_length (profile i)) b)
  pub room : l ≡ codeword_length (profile i)

module _ (e i r : ℕ) (a b : List ℕ) (l : ℕ) where
  abbrev messages : Bool
  messages = eqb (length a) (message_length (profile i)) && eqb (length b) (message_length (profile i)) && eqb l (codeword_length (profile i))

  abbrev levels : Bool
  levels = symbols_below (profile i).q a && symbols_below (profile i).q b

  -- the number by the tests that follow that of the profile
  abbrev encode_rest : List Test
  encode_rest = asks (is_line_rule r) 14 ∷ asks messages 2 ∷ asks levels 3 ∷ []

  -- the number by the tests of the edition and of the profile
  abbrev encode_by : Bool → Bool → ℕ
  encode_by d p = first_refusal (asks d 12 ∷ asks p 1 ∷ encode_rest)

  pub encode_edition_refused : is_edition e ≡ false → 12 ≡ encode_refusal e i r a b l
  unfolding encode_refusal
  encode_edition_refused f = ap (λ (d : Bool). encode_by d (is_profile i)) (sym f)

  pub encode_profile_refused : is_edition e ≡ true → is_profile i ≡ false → 1 ≡ encode_refusal e i r a b l
  unfolding encode_refusal
  encode_profile_refused f g = ap₂ encode_by (sym f) (sym g)

  pub accepted_by : T messages → T levels → Accepted i a b l
  accepted_by fits below =
      let (first, second, room) = three_lengths (length a) (length b) l _ _ _ fits in
      record {
        first = and_intro (eqb (length a) _) (symbols_below _ a) (eq_test first) (and_left (symbols_below _ a) (symbols_below _ b) below);
        second = and_intro (eqb (length b) _) (symbols_below _ b) (eq_test second) (and_right (symbols_below _ a) (symbols_below _ b) below);
        room = room;
      }

  module _ {t : Row} (known : is_edition e ≡ true) (of : RowOf (edition_of e) i t) where
    by_profile : encode_number t r a b l ≡ first_refusal encode_rest
    unfolding encode_number
    by_profile = rw (message_is of, codeword_is of, levels_are of)

    pub encode_by_row : encode_number t r a b l ≡ encode_refusal e i r a b l
    unfolding encode_refusal
    encode_by_row = by_profile ∙ ap₂ encode_by (sym known) (sym (passes {b = is_profile i} of.known))

    pub accepted : encode_number t r a b l ≡ 0 → Accepted i a b l
    accepted z = go (is_line_rule r) (sym by_profile ∙ z)
      where
        go : (d : Bool) → first_refusal (asks d 14 ∷ asks messages 2 ∷ asks levels 3 ∷ []) ≡ 0 → Accepted i a b l
        go true f = let (fits, below, none) = all_pass messages levels [] f in accepted_by fits below
        go false f = absurd (omega arith)

-- Decoding: the received word u, and outputs of k and l symbols.

-- a call of decode that no number refuses: the word is read
pub record Admitted (e i : ℕ) (u : List ℕ) (k l : ℕ) : Type 0 where
  pub word_long : length u ≡ codeword_length (profile i)
  pub first_long : k ≡ message_length (profile i)
  pub second_long : l ≡ message_length (profile i)
  pub received : T (levels_or_erasures (profile i).q u)
  pub few : erasures u ≤ most_erasures (profile i)
  pub read : decode_answer e i u k l ≡ answered (received_reading (profile_in e i) u) (tried_positions (profile_in e i) u)

unless_refused : (n : ℕ) (d : Reading) (t : ℕ) → n ≢ 0 → read_unless n d t ≡ refused n
unless_refused zero d t h = absurd (h refl)
unless_refused (suc n) d t h = refl

few_erased : (most : ℕ) (u : List ℕ) → erasure_number most u ≡ 0 → erasures u ≤ most
few_erased most u z =
    cases (leb (erasures u) most) (leb-true (erasures u) most)
    (λ (f : leb (erasures u) most ≡ false). absurd (omega (arith, rw f at z)))

module _ (e i : ℕ) (u : List ℕ) (k l : ℕ) where
  abbrev lengths : Bool
  lengths = eqb (length u) (codeword_length (profile i)) && eqb k (message_length (profile i)) && eqb l (message_length (profile i))

  abbrev symbols : Bool
  symbols = levels_or_erasures (profile i).q u

  abbrev erasing : List Test
  erasing = erasure_tests (most_erasures (profile i)) u

  -- the answer unless a number refuses
  abbrev answer_unless : ℕ → Answer
  answer_unless n = read_unless n (received_reading (profile_in e i) u) (tried_positions (profile_in e i) u)

  -- the answer by the tests of the edition and of the profile
  abbrev decode_by : Bool → Bool → Answer
  decode_by d p = answer_unless (first_refusal (asks d 12 ∷ asks p 1 ∷ asks lengths 2 ∷ asks symbols 3 ∷ erasing))

  pub decode_edition_refused : is_edition e ≡ false → decode_answer e i u k l ≡ refused 12
  unfolding decode_answer
  decode_edition_refused f = ap (λ (d : Bool). decode_by d (is_profile i)) f

  pub decode_profile_refused : is_edition e ≡ true → is_profile i ≡ false → decode_answer e i u k l ≡ refused 1
  unfolding decode_answer
  decode_profile_refused f g = ap₂ decode_by f g

  module _ {t : Row} (known : is_edition e ≡ true) (of : RowOf (edition_of e) i t) where
    number_is : decode_number t u k l ≡ number_by lengths symbols erasing
    unfolding decode_number
    number_is = rw (message_is of, codeword_is of, levels_are of)

    answer_is : decode_answer e i u k l ≡ answer_unless (decode_number t u k l)
    unfolding decode_answer
    answer_is = ap₂ decode_by known (passes {b = is_profile i} of.known) ∙ ap answer_unless (sym number_is)

    -- the number of a call that is refused
    pub refused_number : {n : ℕ} → n ≡ decode_number t u k l → n ≢ 0 → decode_answer e i u k l ≡ refused n
    refused_number {n} f h =
        let p : Parameters = profile_in e i in
        answer_is ∙ rw (sym f) (unless_refused n (received_reading p u) (tried_positions p u) h)

    pub admitted : decode_number t u k l ≡ 0 → Admitted e i u k l
    admitted z =
        let (long, good, few) = all_pass lengths symbols erasing (sym number_is ∙ z) in
        let (word, first, second) = three_lengths (length u) k l _ _ _ long in
        record {
          word_long = word;
          first_long = first;
          second_long = second;
          received = good;
          few = few_erased (most_erasures (profile i)) u few;
          read = answer_is ∙ ap answer_unless z;
        }
