-- The starred cases of document 01 ("Checked by hand"), words with erased symbols (02, T-01), how many positions are tried (02, T-08),
-- words of edition 18 (02, T-03), and choices of line rule 2 (02, T-06): a row each.
-- Assumes nothing.
use Rattle.std.specs.Prelude.{◌≡◌, List, [], ◌∷◌, ◌++◌, ℕ, replicate, set, pos, negsuc}
use Rattle.modular_theory.specs.Sum.{weight}
use Rattle.code_theory.specs.Parameters.{edition_of, Parameters, in_edition, message_length}
use Rattle.code_theory.specs.Component.{component}
use Rattle.code_theory.specs.Balance.{earliest_s, earliest_v, balanced}
use Rattle.code_theory.specs.Codeword.{with_checks, interleaved, encoded}
use Rattle.code_theory.specs.RunningSum.{peak}
use Rattle.code_theory.specs.LineRule.{rule2, chosen_s, chosen_v, balanced_by}
use Rattle.code_theory.specs.Reading.{Change, change, corrected, filled, Reading, read, unreadable, received_reading}
use Rattle.code_theory.specs.TriedPositions.{tried_positions}
use Rattle.code_theory.specs.Profiles.{row, profile_in}
use Rattle.code_theory.specs.Operations.{decode_answer, report, report_number}

pub data Case : Type 0 where
  -- q, x; s, v, w and its weight
  balancing : ℕ → List ℕ → ℕ → ℕ → List ℕ → ℕ → Case
  -- profile, pair; line word
  encoding : ℕ → List ℕ → List ℕ → List ℕ → Case
  -- profile, pair; s, v, line word
  choosing : ℕ → List ℕ → List ℕ → ℕ → ℕ → List ℕ → Case
  -- q, x; s, v by line rule 2, line word and its peak
  least_peak_of : ℕ → List ℕ → ℕ → ℕ → List ℕ → ℕ → Case
  -- profile, pair; the same
  least_peak_of_pair : ℕ → List ℕ → List ℕ → ℕ → ℕ → List ℕ → ℕ → Case
  -- profile, user word; half
  checking : ℕ → List ℕ → List ℕ → Case
  -- profile, received word; its reading
  decoding : ℕ → List ℕ → Reading → Case
  -- profile, received word; the number that refuses it
  refusing : ℕ → List ℕ → ℕ → Case
  -- profile, received word; how many positions are tried
  counting : ℕ → List ℕ → ℕ → Case

-- parameters of q levels in edition e, for a case that gives no r and no n: to balancing they do not matter
abbrev pub levels_only : ℕ → ℕ → Parameters
levels_only e q = in_edition (edition_of e) (row q 0 0)

-- line rule 2's choice for x, the line word that it makes, and the peak of that
abbrev pub LeastPeakIs : Parameters → List ℕ → ℕ → ℕ → List ℕ → ℕ → Type 0
LeastPeakIs p x s v u n =
    (chosen_s rule2 p x ≡ s) × (chosen_v rule2 p x ≡ v) × (with_checks p.q (balanced_by rule2 p x) ≡ u) × (peak p.q u ≡ n)

-- the case in edition e
abbrev pub Holds : ℕ → Case → Type 0
Holds e (balancing q x s v w sum) =
    (earliest_s (levels_only e q) x ≡ s) × (earliest_v (levels_only e q) x ≡ v) × (balanced (levels_only e q) x ≡ w) × (weight w ≡ sum)
Holds e (encoding i a b u) = encoded (profile_in e i) a b ≡ u
Holds e (choosing i a b s v u) =
    (earliest_s (profile_in e i) (interleaved (profile_in e i) a b) ≡ s)
    × (earliest_v (profile_in e i) (interleaved (profile_in e i) a b) ≡ v)
    × (encoded (profile_in e i) a b ≡ u)
Holds e (least_peak_of q x s v u n) = LeastPeakIs (levels_only e q) x s v u n
Holds e (least_peak_of_pair i a b s v u n) = LeastPeakIs (profile_in e i) (interleaved (profile_in e i) a b) s v u n
Holds e (checking i a c) = component (profile_in e i) a ≡ c
Holds e (decoding i u d) = received_reading (profile_in e i) u ≡ d
Holds e (refusing i u n) =
    let k : ℕ = message_length (profile_in e i) in
    report_number (report (decode_answer e i u k k)) ≡ n
Holds e (counting i u n) = tried_positions (profile_in e i) u ≡ n

abbrev pub AllHold : ℕ → List Case → Type 0
AllHold e [] = Unit {0}
AllHold e (c ∷ cs) = Holds e c × AllHold e cs

abbrev pub zeros : ℕ → List ℕ
zeros k = replicate k 0

-- the line word of profile 1 that two of the rows start from
abbrev pub shown : List ℕ
shown = 1 ∷ 2 ∷ 0 ∷ 0 ∷ 0 ∷ replicate 10 1 ++ (2 ∷ 2 ∷ 2 ∷ 0 ∷ [])

abbrev pub starred : List Case
starred =
    balancing 5 (4 ∷ 2 ∷ 1 ∷ 0 ∷ 0 ∷ 0 ∷ []) 2 5 (1 ∷ 3 ∷ 4 ∷ 4 ∷ 0 ∷ 0 ∷ []) 12
    ∷ encoding 1 (zeros 5) (zeros 5) (replicate 17 1 ++ (0 ∷ 2 ∷ []))
    ∷ encoding 3 (zeros 21) (zeros 21) (replicate 49 2 ++ (1 ∷ 3 ∷ []))
    ∷ encoding 4 (zeros 45) (zeros 45) (replicate 97 3 ++ (2 ∷ 4 ∷ []))
    ∷ checking 1 (1 ∷ 0 ∷ 0 ∷ 0 ∷ 0 ∷ []) (1 ∷ 2 ∷ 2 ∷ 1 ∷ 0 ∷ 0 ∷ 0 ∷ 0 ∷ [])
    ∷ checking 1 (0 ∷ 0 ∷ 0 ∷ 0 ∷ 1 ∷ []) (1 ∷ 0 ∷ 1 ∷ 0 ∷ 0 ∷ 0 ∷ 0 ∷ 1 ∷ [])
    ∷ choosing 1 (0 ∷ 0 ∷ 0 ∷ 0 ∷ 1 ∷ []) (zeros 5) 1 3 shown
    ∷ decoding 1 (set shown 5 2) (read (corrected (record { position = 6; symbol = 1; error = pos 1 })) (0 ∷ 0 ∷ 0 ∷ 0 ∷ 1 ∷ []) (zeros 5))
    ∷ decoding 1 (replicate 17 1 ++ (0 ∷ 1 ∷ []))
    (read (corrected (record { position = 19; symbol = 2; error = negsuc 0 })) (zeros 5) (zeros 5))
    ∷ refusing 1 (replicate 17 1 ++ (1 ∷ 1 ∷ [])) 4
    ∷ refusing 1 (2 ∷ 2 ∷ replicate 15 1 ++ (0 ∷ 2 ∷ [])) 4
    ∷ []

-- u with the symbol at index i erased
abbrev pub erase : List ℕ → ℕ → List ℕ
erase u i = set u i 255

-- what `shown` is read as once these are filled
abbrev pub shown_filled : List Change → Reading
shown_filled cs = read (filled cs) (0 ∷ 0 ∷ 0 ∷ 0 ∷ 1 ∷ []) (zeros 5)

abbrev pub erased : List Case
erased =
    -- one: in w, and as a check symbol
    decoding 1 (erase shown 5) (shown_filled (change 6 1 ∷ []))
    ∷ decoding 1 (erase shown 17) (shown_filled (change 18 2 ∷ []))
    -- two: of unlike parity, of like parity, w's last and α, α and β
    ∷ decoding 1 (erase (erase shown 0) 1) (shown_filled (change 1 1 ∷ change 2 2 ∷ []))
    ∷ decoding 1 (erase (erase shown 0) 2) (shown_filled (change 1 1 ∷ change 3 0 ∷ []))
    ∷ decoding 1 (erase (erase shown 16) 17) (shown_filled (change 17 2 ∷ change 18 2 ∷ []))
    ∷ decoding 1 (erase (erase shown 17) 18) (shown_filled (change 18 2 ∷ change 19 0 ∷ []))
    -- one, and a symbol changed that is not erased
    ∷ decoding 1 (erase (set shown 5 2) 3) unreadable
    -- two of like parity, far apart, in the zero pair's word of profile 4
    ∷ decoding 4 (erase (erase (replicate 97 3 ++ (2 ∷ 4 ∷ [])) 0) 96)
    (read (filled (change 1 3 ∷ change 97 3 ∷ [])) (zeros 45) (zeros 45))
    -- three, and three beside a symbol that is no level
    ∷ refusing 1 (erase (erase (erase shown 0) 1) 2) 11
    ∷ refusing 1 (erase (erase (erase (set shown 3 3) 0) 1) 2) 3
    ∷ []

-- the zero pair's word of profile 1 with two symbols replaced
abbrev pub two_replaced : ℕ → ℕ → ℕ → ℕ → List ℕ
two_replaced i x j y = set (set (replicate 17 1 ++ (0 ∷ 2 ∷ [])) i x) j y

abbrev pub counted : List Case
counted =
    -- found: the third of the even positions, and the last of the odd ones
    counting 1 (set shown 5 2) 3
    ∷ counting 1 (replicate 16 1 ++ (2 ∷ 0 ∷ 2 ∷ [])) 9
    -- none fits: of the odd ones, of the even ones
    ∷ counting 1 (two_replaced 0 2 2 2) 9
    ∷ counting 1 (two_replaced 1 2 3 2) 8
    -- nor where the check sum is off by something else than the weight, or the weight by q or more
    ∷ counting 1 (two_replaced 0 2 17 2) 9
    ∷ counting 1 (two_replaced 1 2 18 1) 8
    ∷ counting 1 (set (set (two_replaced 1 2 3 2) 5 2) 7 2) 8
    -- both check sums disagree, neither does, the weight is right, a symbol is erased
    ∷ counting 1 (two_replaced 0 2 1 2) 0
    ∷ counting 1 (two_replaced 0 2 17 1) 0
    ∷ counting 1 (replicate 17 1 ++ (0 ∷ 1 ∷ [])) 0
    ∷ counting 1 (erase (set shown 5 2) 3) 0
    -- found where δ is not 0
    ∷ counting 3 (2 ∷ 2 ∷ 4 ∷ replicate 46 2 ++ (1 ∷ 3 ∷ [])) 2
    ∷ counting 4 (3 ∷ 3 ∷ 6 ∷ replicate 94 3 ++ (2 ∷ 4 ∷ [])) 2
    ∷ []

-- edition 18's word of profile 1 for the pair of `shown`
abbrev pub shown18 : List ℕ
shown18 = 1 ∷ 0 ∷ 2 ∷ 2 ∷ 2 ∷ replicate 10 1 ++ (0 ∷ 0 ∷ 1 ∷ 1 ∷ [])

-- balancing and words of edition 18, worked from 02's text
abbrev pub in18 : List Case
in18 =
    -- x of 002's example 1, one that balances as it stands, where nothing is added, and one where both s and v are above 0
    balancing 5 (4 ∷ 2 ∷ 1 ∷ 0 ∷ 0 ∷ 0 ∷ []) 1 0 (3 ∷ 4 ∷ 2 ∷ 1 ∷ 1 ∷ 1 ∷ []) 12
    ∷ balancing 5 (0 ∷ 0 ∷ 0 ∷ 0 ∷ 0 ∷ 2 ∷ []) 0 0 (replicate 6 2) 12
    ∷ balancing 5 (0 ∷ 0 ∷ 0 ∷ 1 ∷ 0 ∷ 0 ∷ []) 1 2 (3 ∷ 3 ∷ 2 ∷ 2 ∷ 1 ∷ 1 ∷ []) 12
    ∷ choosing 1 (0 ∷ 0 ∷ 0 ∷ 0 ∷ 1 ∷ []) (zeros 5) 0 2 shown18
    ∷ choosing 1 (zeros 5) (zeros 5) 1 0 (replicate 17 1 ++ (0 ∷ 2 ∷ []))
    ∷ choosing 3 (zeros 20 ++ (1 ∷ [])) (1 ∷ zeros 20) 0 48
    (1 ∷ 1 ∷ 0 ∷ 2 ∷ 4 ∷ 4 ∷ 3 ∷ 3 ∷ 3 ∷ replicate 38 2 ++ (1 ∷ 0 ∷ 0 ∷ 4 ∷ []))
    -- corrected in w, and filled
    ∷ decoding 1 (set shown18 5 2)
    (read (corrected (record { position = 6; symbol = 1; error = pos 1 })) (0 ∷ 0 ∷ 0 ∷ 0 ∷ 1 ∷ []) (zeros 5))
    ∷ decoding 1 (erase (erase shown18 0) 2) (shown_filled (change 1 1 ∷ change 3 2 ∷ []))
    ∷ counting 1 (set shown18 5 2) 3
    ∷ []

-- choices of line rule 2, worked from 02's text
abbrev pub least_peaks13 : List Case
least_peaks13 =
    -- x of 002's example 1
    least_peak_of 5 (4 ∷ 2 ∷ 1 ∷ 0 ∷ 0 ∷ 0 ∷ []) 4 2 (3 ∷ 1 ∷ 2 ∷ 2 ∷ 2 ∷ 2 ∷ 4 ∷ 0 ∷ []) 4
    -- others are chosen where the largest peak is taken, v before s, the last s or v of equal peaks, w's peak without the check symbols, or
    -- the size of one sign alone
    ∷ least_peak_of 5 (2 ∷ 2 ∷ 4 ∷ 3 ∷ 4 ∷ 2 ∷ 2 ∷ []) 1 2 (3 ∷ 1 ∷ 0 ∷ 3 ∷ 2 ∷ 4 ∷ 1 ∷ 1 ∷ 3 ∷ []) 4
    -- and here where the first position is left out
    ∷ least_peak_of 5 (0 ∷ 2 ∷ 4 ∷ 3 ∷ 0 ∷ 4 ∷ 4 ∷ []) 1 2 (1 ∷ 4 ∷ 3 ∷ 1 ∷ 1 ∷ 0 ∷ 4 ∷ 4 ∷ 0 ∷ []) 4
    -- rule 1 chooses s = 0, v = 13, with a peak of 8
    ∷ least_peak_of_pair 1 (2 ∷ 0 ∷ 0 ∷ 0 ∷ 0 ∷ []) (0 ∷ 0 ∷ 0 ∷ 0 ∷ 1 ∷ []) 1 9
    (1 ∷ 0 ∷ 1 ∷ 2 ∷ 2 ∷ 0 ∷ 1 ∷ 0 ∷ replicate 8 1 ++ (2 ∷ 2 ∷ 0 ∷ [])) 2
    ∷ []

abbrev pub least_peaks18 : List Case
least_peaks18 =
    least_peak_of 5 (4 ∷ 2 ∷ 1 ∷ 0 ∷ 0 ∷ 0 ∷ []) 1 5 (4 ∷ 0 ∷ 3 ∷ 2 ∷ 2 ∷ 1 ∷ 1 ∷ 3 ∷ []) 4
    ∷ least_peak_of 5 (3 ∷ 1 ∷ 2 ∷ 1 ∷ 3 ∷ 2 ∷ 3 ∷ []) 0 1 (1 ∷ 2 ∷ 1 ∷ 4 ∷ 3 ∷ 0 ∷ 3 ∷ 3 ∷ 1 ∷ []) 4
    ∷ least_peak_of 3 (2 ∷ 2 ∷ 0 ∷ 2 ∷ 1 ∷ 2 ∷ 2 ∷ []) 1 0 (0 ∷ 1 ∷ 2 ∷ 2 ∷ 0 ∷ 2 ∷ 0 ∷ 0 ∷ 2 ∷ []) 2
    -- rule 1 chooses s = 0, v = 2, with a peak of 4
    ∷ least_peak_of_pair 1 (2 ∷ 0 ∷ 0 ∷ 0 ∷ 0 ∷ []) (0 ∷ 0 ∷ 0 ∷ 0 ∷ 1 ∷ []) 0 8
    (1 ∷ 2 ∷ 1 ∷ 0 ∷ 0 ∷ 2 ∷ 1 ∷ 2 ∷ replicate 8 1 ++ (0 ∷ 1 ∷ 1 ∷ [])) 2
    ∷ []

-- 02: 12 comes before 1, 2 and 3
abbrev pub no_edition : List Case
no_edition = refusing 1 shown 12 ∷ refusing 5 [] 12 ∷ refusing 1 [] 12 ∷ refusing 1 (set shown 3 3) 12 ∷ []
