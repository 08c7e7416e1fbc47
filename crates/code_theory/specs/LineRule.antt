-- The line rules (02, T-06): which of the balancing choices the encoder takes.
-- Assumes nothing.
use Rattle.std.specs.Prelude.{Bool, true, false, ◌||◌, List, ℕ, eqb, leb, length}
use Rattle.modular_theory.specs.Search.{all_below}
use Rattle.code_theory.specs.Parameters.{Parameters}
use Rattle.code_theory.specs.Balance.{choice, chosen, balances, first_s, first_v}
use Rattle.code_theory.specs.Codeword.{with_checks, interleaved}
use Rattle.code_theory.specs.RunningSum.{peak}

-- 02: the version of the line rule
pub data LineRule : Type 0 where
  rule1 rule2 : LineRule

-- the number is a line rule's
abbrev pub is_line_rule : ℕ → Bool
is_line_rule k = eqb k 1 || eqb k 2

-- the line rule of that number; 1 also where the number is none's
abbrev pub line_rule_of : ℕ → LineRule
line_rule_of k = elim (eqb k 2) [ true ↦ rule2 | false ↦ rule1 ]

-- the peak of the line word of the choice s, v, check symbols included
unfoldable pub choice_peak : Parameters → List ℕ → ℕ → ℕ → ℕ
choice_peak p x s v = peak p.q (with_checks p.q (chosen p x s v))

-- the choice does not balance x, or its peak is n at least
unfoldable pub peaks_from : Parameters → List ℕ → ℕ → ℕ → ℕ → Bool
peaks_from p x n s v = elim (balances p x s v) [ true ↦ leb n (choice_peak p x s v) | false ↦ true ]

-- so it is with every choice
unfoldable pub all_peak_from : Parameters → List ℕ → ℕ → Bool
all_peak_from p x n = all_below (λ s. all_below (λ i. peaks_from p x n s (choice p i)) (length x)) p.q

-- 02: of all balancing choices one with the least peak
unfoldable pub has_least_peak : Parameters → List ℕ → ℕ → ℕ → Bool
has_least_peak p x s v = elim (balances p x s v) [ true ↦ all_peak_from p x (choice_peak p x s v) | false ↦ false ]

-- what a rule asks of the choice that it takes: it balances x (01); 02: under rule 2 with the least peak
abbrev pub admits : LineRule → Parameters → List ℕ → ℕ → ℕ → Bool
admits rule1 p x s v = balances p x s v
admits rule2 p x s v = has_least_peak p x s v

-- 02: "then the lowest s, then the lowest v", which is also 01's order of trying
unfoldable pub chosen_s : LineRule → Parameters → List ℕ → ℕ
chosen_s r p x = first_s p (length x) (admits r p x)

unfoldable pub chosen_v : LineRule → Parameters → List ℕ → ℕ
chosen_v r p x = first_v p (length x) (admits r p x)

-- w of the choice that a rule takes
unfoldable pub balanced_by : LineRule → Parameters → List ℕ → List ℕ
balanced_by r p x = chosen p x (chosen_s r p x) (chosen_v r p x)

-- the line word that the writer makes from a pair under a rule
unfoldable pub encoded_by : LineRule → Parameters → List ℕ → List ℕ → List ℕ
encoded_by r p a b = with_checks p.q (balanced_by r p (interleaved p a b))
