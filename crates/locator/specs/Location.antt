-- The code's location, as the model has it, and what is said of the answer.
-- Assumes nothing.
use Rattle.std.specs.Prelude.{◌≡◌, Bool, ℕ, ℤ, Option, Some, None}
use Rattle.code_theory.specs.Parameters.{Edition, in_edition}
use Rattle.code_theory.specs.Profiles.{profile}
use Rattle.locating_theory.specs.ErrorPosition as model
use Rattle.locating_theory.specs.ErrorPosition.{at, nowhere, error_position}
use Rattle.symbols.specs.declared.sums.Syndrome.{Syndrome}
use Rattle.symbols.specs.Syndromes.{rows}
use Rattle.syndromes.specs.Rows.{rows_among}

-- a position of w, from 1, or none
abbrev pub location_of : Option ℕ → model.Location
location_of (Some i) = at i
location_of None = nowhere

-- what error_position may answer in the edition o and the profile i, where the check sum over the odd positions (true) or over the even
-- ones disagrees, to the error e and the syndromes s and s'
abbrev pub ErrorPositionAllows : Edition → ℕ → Bool → ℤ → Syndrome → Syndrome → Option ℕ → Type 0
ErrorPositionAllows o i odd e s s' r =
    location_of r ≡ error_position (in_edition o (profile i)) odd e (rows_among (profile i).r (rows s)) (rows_among (profile i).r (rows s'))
