-- Writes to a cell of any bytes, made only where the cell lies in them.
-- Assumes nothing.
use Rattle.std.specs.Prelude.{Bool, true, false, ◌&&◌, List, ℕ, ◌+◌, ◌*◌, eqb, leb, length}
use Rattle.queue_theory.specs.Layout.{cell_size, next_cell}
use Rattle.queue_theory.specs.Operations.{shown_cell, dequeued}

-- cell i lies in the bytes
abbrev pub has_cell : List ℕ → ℕ → Bool
has_cell s i = leb ((i + 1) * cell_size) (length s)

-- a buffer at exit: written where the test holds
abbrev pub written_if : Bool → List ℕ → List ℕ → List ℕ
written_if true written before = written
written_if false written before = before

-- the output with cell i shown
unfoldable pub shown_at : List ℕ → ℕ → List ℕ → List ℕ
shown_at s i out = written_if (has_cell s i && eqb (length out) cell_size) (shown_cell s i) out

-- the bytes with the first used cell freed
unfoldable pub released : List ℕ → List ℕ
released s = written_if (has_cell s (next_cell s 0)) (dequeued s) s
