-- What is found among the positions of a parity, against the first index that a definition gives.
-- Assumes nothing.
use Rattle.std.specs.Prelude.{◌≡◌, List, ℕ, ◌<◌, Option, Some, None}
use Rattle.decoding_theory.specs.Decoded.{position_count, first_fit}
use Rattle.decoding_theory.specs.TriedPositions.{tried_body}
use Rattle.locating_theory.specs.ErrorPosition.{error_position}
use Rattle.locator.specs.Location.{location_of}
use Rattle.decoder.specs.declared.search.Search.{Search}
use Rattle.decoder.specs.Totals.{WholeWord}
use Rattle.decoder.specs.Search.{parameters_of, sums_in, parity_of}

-- the first index of the word that fits is found, or that there is none
abbrev pub FirstFit : Search → List ℕ → Option ℕ → Type 0
FirstFit x word (Some k) =
    (first_fit (parameters_of x) (sums_in x) (parity_of x) word ≡ k) × (k < position_count (parameters_of x) (parity_of x))
FirstFit x word None = first_fit (parameters_of x) (sums_in x) (parity_of x) word ≡ position_count (parameters_of x) (parity_of x)

-- how many positions of the word are tried
abbrev pub tried_in : Search → List ℕ → ℕ
tried_in x word = tried_body (parameters_of x) (sums_in x) (parity_of x) word

-- index k of the word is the first that fits
pub record FitsFirst (x : Search) (word : List ℕ) (k : ℕ) : Type 0 where
  pub is : WholeWord x.row word
  pub first : first_fit (parameters_of x) (sums_in x) (parity_of x) word ≡ k
  pub within : k < position_count (parameters_of x) (parity_of x)

-- l is the position of the error by the syndromes (02, T-09)
abbrev pub ErrorLocated : Search → Option ℕ → Type 0
ErrorLocated x l =
    location_of l ≡ error_position (parameters_of x) (parity_of x) x.s.excess (sums_in x).first (sums_in x).second
