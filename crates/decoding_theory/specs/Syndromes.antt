-- Syndromes as lists of r numbers below q: when two of them are those of near components, the position that one names, and how one changed
-- symbol of the word moves them.
-- Assumes nothing.
use Rattle.std.specs.Prelude.{Bool, true, false, ◌&&◌, ◌||◌, List, [], ◌∷◌, ℕ, zero, suc, ◌+◌, ◌-◌, ◌*◌, ◌%◌, eqb, leb, ltb, get_or}
use Rattle.modular_theory.specs.Search.{all_below}
use Rattle.code_theory.specs.Parameters.{Parameters}
use Rattle.code_theory.specs.Component.{check_row, syndrome}
use Rattle.code_theory.specs.Codeword.{lowered}

-- f 0, f 1, .., f (k - 1)
abbrev pub tabulate : (ℕ → ℕ) → ℕ → List ℕ
tabulate f zero = []
tabulate f (suc k) = f 0 ∷ tabulate (λ i. f (suc i)) k

-- the syndrome of a component, row by row
abbrev pub syndromes : Parameters → List ℕ → List ℕ
syndromes p c = tabulate (syndrome p c) p.r

-- every row is 0
unfoldable pub zero_syndrome : Parameters → List ℕ → Bool
zero_syndrome p S = all_below (λ j. eqb (get_or S j 0) 0) p.r

-- the number whose k lowest digits in base q the list begins with
abbrev pub from_digits : ℕ → ℕ → List ℕ → ℕ
from_digits q zero l = 0
from_digits q (suc k) [] = 0
from_digits q (suc k) (x ∷ xs) = from_digits q k xs * q + x

-- the position that the digits name
unfoldable pub column_position : Parameters → List ℕ → ℕ
column_position p S = from_digits p.q (p.r - 1) S

-- the last row is 1 and the digits name a position from 1 to n
unfoldable pub column_syndrome : Parameters → List ℕ → Bool
column_syndrome p S = eqb (get_or S (p.r - 1) 0) 1 && leb 1 (column_position p S) && leb (column_position p S) p.n

-- zero or a column: the syndrome of a component near the code
unfoldable pub near_syndrome : Parameters → List ℕ → Bool
near_syndrome p S = zero_syndrome p S || column_syndrome p S

-- one is zero, and the other is zero or a column
unfoldable pub near_syndromes : Parameters → List ℕ → List ℕ → Bool
near_syndromes p S S' = zero_syndrome p S && near_syndrome p S' || near_syndrome p S && zero_syndrome p S'

-- the component c, of which S is the syndrome, restored
unfoldable pub restored_by : Parameters → List ℕ → List ℕ → List ℕ
restored_by p S c = elim (zero_syndrome p S) [ true ↦ c | false ↦ lowered p.q c (column_position p S - 1) ]

-- row j of column a; there are no columns 0 and past n, and their rows are 0
abbrev pub column_entry : Parameters → ℕ → ℕ → ℕ
column_entry p j zero = 0
column_entry p j (suc a) = elim (ltb a p.n) [ true ↦ check_row p j a | false ↦ 0 ]

-- e times column a added
unfoldable pub moved : Parameters → ℕ → ℕ → List ℕ → List ℕ
moved p e a S = tabulate (λ j. (get_or S j 0 + e * column_entry p j a) % p.q) p.r

-- index k of the odd positions (true) or of the even ones (false), in the word
abbrev pub index : Bool → ℕ → ℕ
index true k = 2 * k
index false k = 2 * k + 1

-- the column of the first component (true) or of the second that the symbol at index k of the parity b meets
abbrev pub column_of : Bool → Bool → ℕ → ℕ
column_of true b k = suc k
column_of false true k = k
column_of false false k = suc k

-- how often that column comes in by e more of the symbol, mod q: in the first component less at the odd positions, in the second at the
-- even ones
abbrev pub times : Parameters → Bool → Bool → ℕ → ℕ
times p true true e = p.q - e
times p true false e = e
times p false true e = e
times p false false e = p.q - e

-- component c's syndrome after e was added mod q at that index of the word
unfoldable pub moved_of : Parameters → Bool → Bool → ℕ → ℕ → List ℕ → List ℕ
moved_of p c b k e S = moved p (times p c b e) (column_of c b k) S
