-- The line word that the encoder makes, and which words are lawful (01: How a word is made, 6, and Lawful word).
-- Assumes nothing.
use Rattle.std.specs.Prelude.{Bool, true, false, ◌&&◌, ◌||◌, List, [], ◌∷◌, ◌++◌, ℕ, ◌+◌, ◌%◌, eqb, length, get_or, take, set}
use Rattle.modular_theory.specs.Search.{least, any_below}
use Rattle.modular_theory.specs.Sum.{weight}
use Rattle.modular_theory.specs.Residue.{minus}
use Rattle.code_theory.specs.Parameters.{Parameters, balanced_length, codeword_length, balancing_value, delta}
use Rattle.code_theory.specs.Component.{is_word, in_code, message, component}
use Rattle.code_theory.specs.Balance.{interleave, with_zero, differences, balanced}

-- every other symbol, from the first on (true) or from the second (false)
abbrev pub alternate : Bool → List ℕ → List ℕ
alternate b [] = []
alternate true (x ∷ xs) = x ∷ alternate false xs
alternate false (x ∷ xs) = alternate true xs

-- 01: α, over the odd places
unfoldable pub alpha : ℕ → List ℕ → ℕ
alpha q w = (weight (alternate true w) + delta q (length w)) % q

-- 01: β, over the even places
unfoldable pub beta : ℕ → List ℕ → ℕ
beta q w = weight (alternate false w) % q

-- w, α, β
unfoldable pub with_checks : ℕ → List ℕ → List ℕ
with_checks q w = w ++ (alpha q w ∷ beta q w ∷ [])

-- 01: x of a pair of user words
unfoldable pub interleaved : Parameters → List ℕ → List ℕ → List ℕ
interleaved p a b = with_zero p (interleave (component p a) (component p b))

-- 01: line word, the word that the writer makes from a pair
unfoldable pub encoded : Parameters → List ℕ → List ℕ → List ℕ
encoded p a b = with_checks p.q (balanced p (interleaved p a b))

-- w of a received word
unfoldable pub body : Parameters → List ℕ → List ℕ
body p u = take (balanced_length p) u

-- 01: the halves obtained by differencing w: the first half (true) and the second (false)
abbrev pub differenced : Parameters → Bool → List ℕ → List ℕ
differenced p b w = alternate b (differences p w)

-- those of a received word
unfoldable pub received : Parameters → Bool → List ℕ → List ℕ
received p b u = differenced p b (body p u)

-- 1 taken mod q from the symbol at index i
abbrev pub lowered : ℕ → List ℕ → ℕ → List ℕ
lowered q c i = set c i (minus q (get_or c i 0) 1)

-- in code, or so when 1 is taken mod q from one symbol
unfoldable pub near_code : Parameters → List ℕ → Bool
near_code p c = in_code p c || any_below (λ i. in_code p (lowered p.q c i)) (length c)

-- the half so restored
unfoldable pub restored : Parameters → List ℕ → List ℕ
restored p c =
    elim (in_code p c)
    [ true ↦ c | false ↦ lowered p.q c (least (λ i. in_code p (lowered p.q c i)) (length c)) ]

-- w has weight middle
unfoldable pub is_balanced : Parameters → List ℕ → Bool
is_balanced p u = eqb (weight (body p u)) (balancing_value p.q (balanced_length p))

-- the check symbol is as in step 6: α, by the odd places (true), or β, by the even ones (false); 02: the check sum agrees
unfoldable pub check_sum_agrees : Parameters → Bool → List ℕ → Bool
check_sum_agrees p true u = eqb (get_or u (balanced_length p) 0) (alpha p.q (body p u))
check_sum_agrees p false u = eqb (get_or u (balanced_length p + 1) 0) (beta p.q (body p u))

-- both are
unfoldable pub has_checks : Parameters → List ℕ → Bool
has_checks p u = check_sum_agrees p true u && check_sum_agrees p false u

-- at least one of two halves is in code, and the other is too or becomes so
unfoldable pub near_components : Parameters → List ℕ → List ℕ → Bool
near_components p c d = in_code p c && near_code p d || near_code p c && in_code p d

-- so it is with those of a received word
unfoldable pub has_components : Parameters → List ℕ → Bool
has_components p u = near_components p (received p true u) (received p false u)

-- 01: lawful word
unfoldable pub codeword : Parameters → List ℕ → Bool
codeword p u = is_word p.q (codeword_length p) u && is_balanced p u && has_checks p u && has_components p u

-- 01: the pair that a lawful word carries
unfoldable pub carried : Parameters → Bool → List ℕ → List ℕ
carried p b u = message p (restored p (received p b u))
