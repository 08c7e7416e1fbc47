-- What is found of the symbol that changed: the first index that fits, with the syndromes once it is corrected.
-- Assumes nothing.
use Rattle.std.specs.Prelude.{◌≡◌, List, ℕ, Option, Some, None}
use Rattle.symbols.specs.declared.sums.Syndromes.{Syndromes}
use Rattle.decoder.specs.declared.search.Search.{Search}
use Rattle.decoder.specs.declared.method.ChangedSymbol.{ChangedSymbol}
use Rattle.decoder.specs.Search.{After}
use Rattle.decoder.specs.Locate.{FirstFit}

-- the first index of the word that fits and the syndromes after it, or that there is none
abbrev pub FoundSymbol : Search → List ℕ → Option (ℕ × Syndromes) → Type 0
FoundSymbol x word (Some (k, y)) = FirstFit x word (Some k) × After x k y
FoundSymbol x word None = FirstFit x word None

-- such is found, and n is said to be how many positions are tried
pub record ChangedWith (x : Search) (word : List ℕ) (n : ℕ) (r : ChangedSymbol) : Type 0 where
  pub found : FoundSymbol x word r.found
  pub tried : r.tried ≡ n
