-- What of an answer goes by how the symbol that changed is found: the count of positions tried.
-- Assumes nothing.
use Rattle.std.specs.Prelude.{ℕ}
use Rattle.code_theory.specs.Operations.{Answer, refused, answered}

-- an answer with its count as it is said
abbrev pub answer_by : (ℕ → ℕ) → Answer → Answer
answer_by f (refused k) = refused k
answer_by f (answered d t) = answered d (f t)
