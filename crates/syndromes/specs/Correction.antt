-- What is said of a corrected symbol, as the code has it.
-- Assumes nothing.
use Rattle.code_theory.specs.Reading.{Correction}
use Rattle.syndromes.specs.declared.correction.Correction as declared

-- the code's struct, as the model has it
abbrev pub correction_of : declared.Correction → Correction
correction_of c = record { position = c.position; symbol = c.symbol; error = c.error }
