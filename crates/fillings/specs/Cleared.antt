-- A word with 0 at its erased positions, in an array of 99 symbols.
-- Assumes nothing.
use Rattle.std.specs.Prelude.{true, false, List, ◌++◌, ℕ, eqb, take, replicate}
use Rattle.code_theory.specs.Component.{erasure}
use Rattle.decoding_theory.specs.Filled.{cleared}

-- a symbol, and 0 for an erasure
unfoldable pub unless_erased : ℕ → ℕ
unless_erased x = elim (eqb x erasure) [ true ↦ 0 | false ↦ x ]

-- the first 99 symbols, and zeros after them
unfoldable pub cleared_array : List ℕ → List ℕ
cleared_array word = take 99 (cleared word ++ replicate 99 0)
