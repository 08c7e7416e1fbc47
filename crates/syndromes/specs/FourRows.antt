-- The tests of crate decoding_theory on syndromes of four rows.
-- Assumes nothing.
use Rattle.std.specs.Prelude.{Bool, List, ℕ, eqb, get_or}
use Rattle.modular_theory.specs.Search.{all_below}

-- each of the four is 0: a zero syndrome whatever q and n are
unfoldable pub zero_rows : List ℕ → Bool
zero_rows S = all_below (λ j. eqb (get_or S j 0) 0) 4
