-- All that is printed for an input (01: The line program), as a function of its bytes.
-- Assumes nothing.
use Rattle.std.specs.Prelude.{true, false, List, [], ◌∷◌, ◌++◌, ℕ, eqb}
use Rattle.lines_theory.specs.Line.{line_answer}

-- 01: the end of input ends a line, and straight after a byte 10 it is not a line
abbrev pub last_answer : List ℕ → List ℕ
last_answer [] = []
last_answer (b ∷ l) = line_answer (b ∷ l)

-- the output still to come, where l is the line so far and s the input still to come
abbrev pub output_after : List ℕ → List ℕ → List ℕ
output_after l [] = last_answer l
output_after l (b ∷ s) = elim (eqb b 10) [ true ↦ line_answer l ++ output_after [] s | false ↦ output_after (l ++ b ∷ []) s ]

unfoldable pub stream_output : List ℕ → List ℕ
stream_output s = output_after [] s
