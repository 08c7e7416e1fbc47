-- What is claimed of the code, each claim a named type, all of them fields of one record. proofs/Claims.antt has a term of it.
-- Assumes nothing.
use Rattle.std.specs.Prelude.{◌≡◌, ◌≢◌, ◌↔◌, ◌⊎◌, Bool, true, false, not, List, [], ◌∷◌, map, ℕ, ◌+◌, ◌-◌, ◌*◌, ◌%◌, ◌≤◌, ◌<◌, T, length, get_or, set, pos, nat_abs, ◌-ℤ◌}
use Rattle.modular_theory.specs.Sum.{weight}
use Rattle.modular_theory.specs.Residue.{Invertible, Prime, minus}
use Rattle.code_theory.specs.Parameters.{edition13, edition18, is_edition, Parameters, Sized, message_length, balanced_length}
use Rattle.code_theory.specs.Parameters.{codeword_length, balancing_value, delta}
use Rattle.code_theory.specs.Component.{is_word, erasure, is_received, in_code, message, component}
use Rattle.code_theory.specs.Balance.{chosen, earliest_s, earliest_v, balanced}
use Rattle.code_theory.specs.Codeword.{alternate, with_checks, interleaved, encoded, received, lowered}
use Rattle.code_theory.specs.RunningSum.{running_digital_sum, peak}
use Rattle.code_theory.specs.LineRule.{LineRule, rule1, rule2, is_line_rule, line_rule_of, choice_peak, chosen_s, chosen_v, balanced_by}
use Rattle.code_theory.specs.LineRule.{encoded_by}
use Rattle.code_theory.specs.Codeword.{is_balanced, check_sum_agrees, codeword, carried}
use Rattle.code_theory.specs.Erasures.{erasures, Agrees}
use Rattle.code_theory.specs.Reading.{distance, Correction, Change, change, clean, corrected, filled, error_of, finding_of, read}
use Rattle.code_theory.specs.Reading.{unreadable, read_as, reading}
use Rattle.code_theory.specs.Reading.{changes_at, filled_reading, received_reading}
use Rattle.code_theory.specs.TriedPositions.{tried_positions}
use Rattle.code_theory.specs.Profiles.{is_profile, profile_in, table, derived_row}
use Rattle.code_theory.specs.Cases.{AllHold, starred, erased, counted, in18, no_edition, least_peaks13, least_peaks18}

-- Why a balance can always be found.

-- the choice s, v is tried before the choice s', v'
abbrev pub Before : ℕ → ℕ → ℕ → ℕ → Type 0
Before s v s' v' = (s < s') ⊎ ((s ≡ s') × (v < v'))

-- v is one of those that are tried for m symbols: from 1 to m; 02: in edition 18 from 0 to m - 1
abbrev pub Tried : Parameters → ℕ → ℕ → Type 0
Tried p m v = elim p.edition as (λ _. Type 0) [ edition13 ↦ (1 ≤ v) × (v ≤ m) | edition18 ↦ v < m ]

-- the earliest choice is one of the choices, it balances x, and no choice before it does
pub record Balanced (p : Parameters) (x : List ℕ) : Type 0 where
  pub s_below : earliest_s p x < p.q
  pub v_tried : Tried p (length x) (earliest_v p x)
  pub balances : weight (balanced p x) ≡ balancing_value p.q (length x)
  pub first : (s v : ℕ) → Tried p (length x) v → Before s v (earliest_s p x) (earliest_v p x)
      → weight (chosen p x s v) ≢ balancing_value p.q (length x)

-- so a balancing choice exists, for every x of m symbols with m (q - 1) even
abbrev pub BalanceExists : Type 0
BalanceExists = (p : Parameters) (x : List ℕ) → 1 ≤ p.q → 1 ≤ length x → length x * (p.q - 1) % 2 ≡ 0 → Balanced p x

-- and for every pair of messages
abbrev pub BalanceOfPair : Type 0
BalanceOfPair =
    (p : Parameters) → Sized p → (a b : List ℕ) → (length (interleaved p a b) ≡ balanced_length p) × Balanced p (interleaved p a b)

-- Which of the balancing choices a line rule takes (02, T-06).

-- 02: the peak is the largest size of the running digital sum: none passes it, and one has it
pub record PeakTold (q : ℕ) (u : List ℕ) : Type 0 where
  pub above : (i : ℕ) → 1 ≤ i → i ≤ length u → nat_abs (running_digital_sum q u i) ≤ peak q u
  pub met : 1 ≤ length u → (i : ℕ) × (1 ≤ i) × (i ≤ length u) × (nat_abs (running_digital_sum q u i) ≡ peak q u)

abbrev pub PeaksTold : Type 0
PeaksTold = (q : ℕ) (u : List ℕ) → PeakTold q u

-- rule 2's choice is one of the choices, it balances x, no choice that does has a smaller peak, and none before it has one as small
pub record LeastPeak (p : Parameters) (x : List ℕ) : Type 0 where
  pub s_below : chosen_s rule2 p x < p.q
  pub v_tried : Tried p (length x) (chosen_v rule2 p x)
  pub balances : weight (balanced_by rule2 p x) ≡ balancing_value p.q (length x)
  pub smallest : (s v : ℕ) → s < p.q → Tried p (length x) v → weight (chosen p x s v) ≡ balancing_value p.q (length x)
      → choice_peak p x (chosen_s rule2 p x) (chosen_v rule2 p x) ≤ choice_peak p x s v
  pub first : (s v : ℕ) → Tried p (length x) v → Before s v (chosen_s rule2 p x) (chosen_v rule2 p x)
      → weight (chosen p x s v) ≡ balancing_value p.q (length x)
      → choice_peak p x (chosen_s rule2 p x) (chosen_v rule2 p x) < choice_peak p x s v

-- 02: "The rule that the writer finds a choice holds for both"
abbrev pub LeastPeakExists : Type 0
LeastPeakExists = (p : Parameters) (x : List ℕ) → 1 ≤ p.q → 1 ≤ length x → length x * (p.q - 1) % 2 ≡ 0 → LeastPeak p x

abbrev pub LeastPeakOfPair : Type 0
LeastPeakOfPair = (p : Parameters) → Sized p → (a b : List ℕ) → LeastPeak p (interleaved p a b)

-- rule 1 is 01's
abbrev pub RuleOne : Type 0
RuleOne = (p : Parameters) (a b : List ℕ) → encoded_by rule1 p a b ≡ encoded p a b

-- 02: "line rule neither 1 nor 2"
abbrev pub RuleNumbers : Type 0
RuleNumbers = ((k : ℕ) → T (is_line_rule k) ↔ ((k ≡ 1) ⊎ (k ≡ 2))) × (line_rule_of 1 ≡ rule1) × (line_rule_of 2 ≡ rule2)

-- The component code.

-- c is a component codeword that holds the message a
pub record Holding (p : Parameters) (a c : List ℕ) : Type 0 where
  pub word : T (is_word p.q p.n c)
  pub code : T (in_code p c)
  pub holds : message p c ≡ a

-- a message has exactly one component, and that one gives the message back
abbrev pub OneComponent : Type 0
OneComponent =
    (p : Parameters) → Sized p → (a : List ℕ) → T (is_word p.q (message_length p) a)
    → Holding p a (component p a) × ((c : List ℕ) → Holding p a c → c ≡ component p a)

-- Codewords and the pair that each carries.

-- u is a codeword, and it carries the pair a, b
pub record Encodes (p : Parameters) (u a b : List ℕ) : Type 0 where
  pub is_codeword : T (codeword p u)
  pub first : carried p true u ≡ a
  pub second : carried p false u ≡ b

-- so it is with the word of every balancing choice
abbrev pub ChoiceCarries : Type 0
ChoiceCarries =
    (p : Parameters) → Sized p → (a b : List ℕ) → T (is_word p.q (message_length p) a) → T (is_word p.q (message_length p) b)
    → (s v : ℕ) → Tried p (balanced_length p) v → weight (chosen p (interleaved p a b) s v) ≡ balancing_value p.q (balanced_length p)
    → Encodes p (with_checks p.q (chosen p (interleaved p a b) s v)) a b

-- and with the encoder's word, by either line rule
abbrev pub EncodedCarries : Type 0
EncodedCarries =
    (r : LineRule) (p : Parameters) → Sized p → (a b : List ℕ) → T (is_word p.q (message_length p) a)
    → T (is_word p.q (message_length p) b) → Encodes p (encoded_by r p a b) a b

-- c is in code, and is h or h with 1 taken mod q from one symbol
pub record Restores (p : Parameters) (h c : List ℕ) : Type 0 where
  pub code : T (in_code p c)
  pub change : (c ≡ h) ⊎ ((i : ℕ) × (i < length h) × (c ≡ lowered p.q h i))

-- u carries the pair a, b: its halves can be restored, one of them as it stands, to halves with these messages
pub record Carries (p : Parameters) (u a b : List ℕ) : Type 0 where
  pub first : List ℕ
  pub second : List ℕ
  pub restores_first : Restores p (received p true u) first
  pub restores_second : Restores p (received p false u) second
  pub intact : (first ≡ received p true u) ⊎ (second ≡ received p false u)
  pub messages : (message p first ≡ a) × (message p second ≡ b)

-- a codeword carries its pair, and one pair only
abbrev pub OnePair : Type 0
OnePair =
    (p : Parameters) → Sized p → (u : List ℕ) → T (codeword p u)
    → Carries p u (carried p true u) (carried p false u)
    × ((a b : List ℕ) → Carries p u a b → (a ≡ carried p true u) × (b ≡ carried p false u))

-- and that pair can be encoded: each message of a word of N symbols, whatever they are, has k symbols below q
abbrev pub CarriedMessages : Type 0
CarriedMessages =
    (p : Parameters) → Sized p → (u : List ℕ) → length u ≡ codeword_length p → (b : Bool)
    → T (is_word p.q (message_length p) (carried p b u))

-- Why one bad symbol is never taken for another pair.

-- the symbols of a codeword at odd positions, β among them, add up to the balancing value mod q, and those at even positions, α among
-- them, to δ more: so two codewords that differ in two positions differ in two of one parity
abbrev pub ParitySums : Type 0
ParitySums =
    (p : Parameters) → Sized p → (u : List ℕ) → T (codeword p u)
    → (weight (alternate true u) % p.q ≡ balancing_value p.q (balanced_length p) % p.q)
    × (weight (alternate false u) % p.q ≡ (balancing_value p.q (balanced_length p) + delta p.q (balanced_length p)) % p.q)

-- and its check symbols, α and β, add up to q - 1
abbrev pub ChecksBalanced : Type 0
ChecksBalanced =
    (p : Parameters) → Sized p → (u : List ℕ) → T (codeword p u)
    → get_or u (balanced_length p) 0 + get_or u (balanced_length p + 1) 0 ≡ p.q - 1

-- two codewords that differ in at most two positions are equal, where, if there are two, each difference has an inverse mod q
abbrev pub ApartByUnits : Type 0
ApartByUnits =
    (p : Parameters) → Sized p → (u v : List ℕ) → T (codeword p u) → T (codeword p v)
    → (distance u v ≡ 2 → (i : ℕ) → get_or u i 0 ≢ get_or v i 0 → Invertible p.q (minus p.q (get_or u i 0) (get_or v i 0)))
    → distance u v ≤ 2 → u ≡ v

-- as every difference of two symbols has where q is prime
abbrev pub DifferencesInvertible : Type 0
DifferencesInvertible = (q : ℕ) → Prime q → (a b : ℕ) → a < q → b < q → a ≢ b → Invertible q (minus q a b)

abbrev pub Apart : Type 0
Apart =
    (p : Parameters) → Sized p → Prime p.q → (u v : List ℕ) → T (codeword p u) → T (codeword p v) → distance u v ≤ 2 → u ≡ v

-- u is a codeword near v: it may have been sent where v arrived
pub record NearCodeword (p : Parameters) (v u : List ℕ) : Type 0 where
  pub is_codeword : T (codeword p u)
  pub close : distance u v ≤ 1

-- there is at most one
abbrev pub OneNear : Parameters → Type 0
OneNear p =
    (v : List ℕ) → T (is_word p.q (codeword_length p) v) → (u w : List ℕ) → NearCodeword p v u → NearCodeword p v w → u ≡ w

abbrev pub NearIsOne : Type 0
NearIsOne = (p : Parameters) → Sized p → Prime p.q → OneNear p

-- so a word is read as the pair of the codeword near it, with what was found from the position in which they differ; and as nothing
-- where there is none
pub record Reads (p : Parameters) (v : List ℕ) : Type 0 where
  pub sent : (u : List ℕ) → NearCodeword p v u → reading p v ≡ read_as p (finding_of v u) u
  pub none : ((u : List ℕ) → NearCodeword p v u → ⊥) → reading p v ≡ unreadable

abbrev pub ReadingIs : Type 0
ReadingIs = (p : Parameters) → Sized p → OneNear p → (v : List ℕ) → T (is_word p.q (codeword_length p) v) → Reads p v

-- demand 3, of the reading as it is defined
pub record Corrects (p : Parameters) : Type 0 where
  -- a codeword as sent is read as its pair
  pub unchanged : (u : List ℕ) → T (codeword p u) → reading p u ≡ read_as p clean u
  -- and so it is with any one symbol changed, with the position, the symbol sent and the error: received minus sent
  pub changed : (u : List ℕ) → T (codeword p u) → (i y : ℕ) → i < codeword_length p → y < p.q → y ≢ get_or u i 0
      → reading p (set u i y)
      ≡ read_as p (corrected (record { position = i + 1; symbol = get_or u i 0; error = pos y -ℤ pos (get_or u i 0) })) u
  -- every other codeword differs from what arrived in at least two positions
  pub others : (u v : List ℕ) → T (codeword p u) → T (codeword p v) → v ≢ u → (i y : ℕ) → i < codeword_length p → y < p.q
      → 2 ≤ distance v (set u i y)
  -- a word is refused exactly when every codeword does
  pub refused : (v : List ℕ) → T (is_word p.q (codeword_length p) v)
      → (reading p v ≡ unreadable) ↔ ((u : List ℕ) → T (codeword p u) → 2 ≤ distance u v)

abbrev pub ReadingCorrects : Type 0
ReadingCorrects = (p : Parameters) → Sized p → Prime p.q → Corrects p

-- 02: clean and filled words carry 0, and a corrected one its error
pub record ErrorCarried : Type 0 where
  pub by_clean : error_of clean ≡ pos 0
  pub by_filled : (cs : List Change) → error_of (filled cs) ≡ pos 0
  pub by_corrected : (c : Correction) → error_of (corrected c) ≡ c.error

-- that error, of a word v, is what arrived at the position found minus the symbol sent there, from -(q - 1) to q - 1, and never 0
pub record ErrorTold (q : ℕ) (v : List ℕ) (c : Correction) : Type 0 where
  pub is : c.error ≡ pos (get_or v (c.position - 1) 0) -ℤ pos c.symbol
  pub within : nat_abs c.error ≤ q - 1
  pub some : c.error ≢ pos 0

abbrev pub ErrorsTold : Type 0
ErrorsTold =
    (p : Parameters) (v : List ℕ) → T (is_word p.q (codeword_length p) v) → (c : Correction) (a b : List ℕ)
    → reading p v ≡ read (corrected c) a b → ErrorTold p.q v c

-- Why erased symbols can be filled in one way at most (02, T-01).

-- 02: a received symbol is a level or 255, and no other
abbrev pub ReceivedSymbols : Type 0
ReceivedSymbols =
    (p : Parameters) (v : List ℕ)
    → T (is_received p v) ↔ ((i : ℕ) → i < length v → (get_or v i 0 < p.q) ⊎ (get_or v i 0 ≡ 255))

-- codewords that differ in at most k positions are equal, as `Apart` says of 2 where q is prime
abbrev pub Separated : Parameters → ℕ → Type 0
Separated p k = (u v : List ℕ) → T (codeword p u) → T (codeword p v) → distance u v ≤ k → u ≡ v

-- 02's rule for marks, where up to k are read
pub record Fills (p : Parameters) (k : ℕ) : Type 0 where
  -- a word is read as a codeword that agrees with it at every position that is not erased
  pub reads : (v u : List ℕ) → erasures v ≤ k → T (codeword p u) → Agrees v u
      → filled_reading p v ≡ read_as p (filled (changes_at 1 v u)) u
  -- that codeword is the only one
  pub only : (v u u' : List ℕ) → erasures v ≤ k → T (codeword p u) → T (codeword p u') → Agrees v u → Agrees v u' → u ≡ u'
  -- a word is refused exactly when there is none
  pub refused : (v : List ℕ) → (filled_reading p v ≡ unreadable) ↔ ((u : List ℕ) → T (codeword p u) → Agrees v u → ⊥)
  -- so a codeword with any one symbol erased is read as its pair, with the position and the symbol sent
  pub one : 1 ≤ k → (u : List ℕ) → T (codeword p u) → (i : ℕ) → i < codeword_length p
      → (erasures (set u i erasure) ≡ 1)
      × (filled_reading p (set u i erasure) ≡ read_as p (filled (change (i + 1) (get_or u i 0) ∷ [])) u)
  -- and so it is with any two, in rising order
  pub two : 2 ≤ k → (u : List ℕ) → T (codeword p u) → (i j : ℕ) → i < j → j < codeword_length p
      → (erasures (set (set u i erasure) j erasure) ≡ 2)
      × (filled_reading p (set (set u i erasure) j erasure)
      ≡ read_as p (filled (change (i + 1) (get_or u i 0) ∷ change (j + 1) (get_or u j 0) ∷ [])) u)

-- prime or not
abbrev pub ErasuresFilled : Type 0
ErasuresFilled = (p : Parameters) → Sized p → p.q ≤ erasure → (k : ℕ) → Separated p k → Fills p k

-- a word without erasures is read as 01 says
abbrev pub WholeReading : Type 0
WholeReading = (p : Parameters) (v : List ℕ) → erasures v ≡ 0 → received_reading p v ≡ reading p v

-- and every other by that rule
abbrev pub ErasedByFilling : Type 0
ErasedByFilling = (p : Parameters) (v : List ℕ) → 1 ≤ erasures v → received_reading p v ≡ filled_reading p v

-- How many positions are tried (02, T-08).

-- the count of a word v, whatever v is
pub record CountTold (p : Parameters) (v : List ℕ) : Type 0 where
  -- none where the weight is right, where a symbol is erased, and where both check sums agree or both disagree
  pub if_balanced : T (is_balanced p v) → tried_positions p v ≡ 0
  pub if_erased : 1 ≤ erasures v → tried_positions p v ≡ 0
  pub if_alike : check_sum_agrees p true v ≡ check_sum_agrees p false v → tried_positions p v ≡ 0
  -- otherwise, where none fits, all of the parity whose check sum disagrees: n + 1 odd ones (true), n even ones (false)
  pub all : erasures v ≡ 0 → is_balanced p v ≡ false → (b : Bool) → check_sum_agrees p b v ≡ false → check_sum_agrees p (not b) v ≡ true
      → reading p v ≡ unreadable → tried_positions p v ≡ elim b [ true ↦ p.n + 1 | false ↦ p.n ]
  -- and never more than there are odd ones
  pub most : tried_positions p v ≤ p.n + 1

abbrev pub CountsTold : Type 0
CountsTold = (p : Parameters) (v : List ℕ) → CountTold p v

-- 02: "It never passes 9, 27, 25 and 49 for profiles 1 to 4", in any edition
abbrev pub MostTried : Type 0
MostTried =
    (e : ℕ) (v : List ℕ)
    → (tried_positions (profile_in e 1) v ≤ 9)
    × (tried_positions (profile_in e 2) v ≤ 27)
    × (tried_positions (profile_in e 3) v ≤ 25)
    × (tried_positions (profile_in e 4) v ≤ 49)

-- 02, T-03: "the edition, 13 or 18", and no other number; every profile has the edition that is named
abbrev pub EditionNumbers : Type 0
EditionNumbers =
    ((k : ℕ) → T (is_edition k) ↔ ((k ≡ 13) ⊎ (k ≡ 18)))
    × ((i : ℕ) → (profile_in 13 i).edition ≡ edition13)
    × ((i : ℕ) → (profile_in 18 i).edition ≡ edition18)

-- The four profiles are sized and prime in any edition, and their columns are those of 01's table.
abbrev pub ProfilesFit : Type 0
ProfilesFit =
    ((e i : ℕ) → T (is_profile i) → Sized (profile_in e i) × Prime (profile_in e i).q) × (map derived_row (1 ∷ 2 ∷ 3 ∷ 4 ∷ []) ≡ table)

-- Document 01's starred cases.
abbrev pub StarredHold : Type 0
StarredHold = AllHold 13 starred

-- Words with erasures.
abbrev pub ErasedHold : Type 0
ErasedHold = AllHold 13 erased

-- How many positions are tried.
abbrev pub CountedHold : Type 0
CountedHold = AllHold 13 counted

-- Words of edition 18.
abbrev pub In18Hold : Type 0
In18Hold = AllHold 18 in18

-- Choices of line rule 2, in each edition.
abbrev pub LeastPeaksHold : Type 0
LeastPeaksHold = AllHold 13 least_peaks13 × AllHold 18 least_peaks18

-- Numbers that are no edition's.
abbrev pub NoEditionHolds : Type 0
NoEditionHolds = AllHold 12 no_edition × AllHold 0 no_edition

pub record Claims : Type 0 where
  pub balance_exists : BalanceExists
  pub balance_of_pair : BalanceOfPair
  pub peaks_told : PeaksTold
  pub least_peak_exists : LeastPeakExists
  pub least_peak_of_pair_lem : LeastPeakOfPair
  pub rule_one : RuleOne
  pub rule_numbers : RuleNumbers
  pub one_component : OneComponent
  pub choice_carries : ChoiceCarries
  pub encoded_carries : EncodedCarries
  pub one_pair : OnePair
  pub carried_messages : CarriedMessages
  pub parity_sums : ParitySums
  pub checks_balanced : ChecksBalanced
  pub apart_by_units : ApartByUnits
  pub differences_invertible : DifferencesInvertible
  pub apart : Apart
  pub near_is_one : NearIsOne
  pub reading_is : ReadingIs
  pub reading_corrects : ReadingCorrects
  pub error_carried : ErrorCarried
  pub errors_told : ErrorsTold
  pub received_symbols : ReceivedSymbols
  pub erasures_filled : ErasuresFilled
  pub whole_reading : WholeReading
  pub erased_by_filling : ErasedByFilling
  pub counts_told : CountsTold
  pub most_tried : MostTried
  pub edition_numbers : EditionNumbers
  pub profiles_fit : ProfilesFit
  pub starred_hold : StarredHold
  pub erased_hold : ErasedHold
  pub counted_hold : CountedHold
  pub in_18_hold : In18Hold
  pub least_peaks_hold : LeastPeaksHold
  pub no_edition_holds : NoEditionHolds
