-- A multiple added to a syndrome, row by row.
-- Assumes nothing.
use Rattle.std.specs.Prelude.{ℕ, ◌+◌, ◌*◌}
use Rattle.modular.specs.Remainder.{residue}
use Rattle.symbols.specs.declared.sums.Syndrome.{Syndrome}

-- y times e added to a syndrome s, row by row
abbrev pub syndrome_plus : ℕ → ℕ → Syndrome → Syndrome → Syndrome
syndrome_plus q y e s =
    record {
      low = residue q (s.low + y * e.low);
      mid = residue q (s.mid + y * e.mid);
      high = residue q (s.high + y * e.high);
      ones = residue q (s.ones + y * e.ones);
    }
