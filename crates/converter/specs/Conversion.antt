-- Conversion of a word from one edition to the other (02, T-04): the refusals in their order, then the word.
-- Assumes nothing.
use Rattle.std.specs.Prelude.{Bool, true, false, ◌&&◌, List, [], ◌∷◌, ◌++◌, ℕ, eqb, leb, length}
use Rattle.code_theory.specs.Refusal.{Test, asks, first_refusal, on_success}
use Rattle.code_theory.specs.Parameters.{Parameters, codeword_length}
use Rattle.code_theory.specs.Component.{is_received}
use Rattle.code_theory.specs.Codeword.{encoded, carried}
use Rattle.code_theory.specs.Erasures.{erasures, most_erasures}
use Rattle.code_theory.specs.Reading.{clean, corrected, filled, Reading, read, unreadable, received_reading}
use Rattle.code_theory.specs.Profiles.{profile_in}
use Rattle.code_theory.specs.Operations.{call_tests}

-- the number of the other edition; 18 also where the number is none's
abbrev pub other_edition : ℕ → ℕ
other_edition k = elim (eqb k 18) [ true ↦ 13 | false ↦ 18 ]

-- a codeword is found
abbrev pub is_read : Reading → Bool
is_read (read f a b) = true
is_read unreadable = false

-- and it is the word that arrived; 02, number 13: "the word reads but as mended or filled"
abbrev pub is_clean : Reading → Bool
is_clean (read clean a b) = true
is_clean (read (corrected c) a b) = false
is_clean (read (filled cs) a b) = false
is_clean unreadable = false

-- what is tested, in this order: edition and profile, received word u, an output of l symbols; 02: "The order of reading applies, with 2
-- also for an output not N long", and 13 "after 4"
abbrev pub convert_tests : ℕ → ℕ → List ℕ → ℕ → List Test
convert_tests e i u l =
    let p : Parameters = profile_in e i in
    call_tests e i
    ++ (asks (eqb (length u) (codeword_length p) && eqb l (codeword_length p)) 2
    ∷ asks (is_received p u) 3
    ∷ asks (leb (erasures u) (most_erasures p)) 11
    ∷ asks (is_read (received_reading p u)) 4
    ∷ asks (is_clean (received_reading p u)) 13
    ∷ [])

-- the number of the refusal, or 0
unfoldable pub convert_refusal : ℕ → ℕ → List ℕ → ℕ → ℕ
convert_refusal e i u l = first_refusal (convert_tests e i u l)

-- 02: "the word the other edition's writer makes for the same pair"
unfoldable pub converted : ℕ → ℕ → List ℕ → List ℕ
converted e i u =
    let p : Parameters = profile_in e i in
    encoded (profile_in (other_edition e) i) (carried p true u) (carried p false u)

-- the output afterwards: that word, or what it held where the call is refused
unfoldable pub convert_output : ℕ → ℕ → List ℕ → List ℕ → List ℕ
convert_output e i u out = on_success (convert_refusal e i u (length out)) (converted e i u) out
