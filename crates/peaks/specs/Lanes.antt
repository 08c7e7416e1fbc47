-- Eight numbers side by side, in lanes 0 to 7: one for each shift.
-- Assumes nothing.
use Rattle.std.specs.Prelude.{◌≡◌, List, [], ◌∷◌, ℕ, ◌+◌, ◌-◌, ◌*◌, ◌/◌, ◌%◌, ◌<◌, length, get_or}

-- those that f gives
abbrev pub lanes_of : (ℕ → ℕ) → List ℕ
lanes_of f = f 0 ∷ f 1 ∷ f 2 ∷ f 3 ∷ f 4 ∷ f 5 ∷ f 6 ∷ f 7 ∷ []

-- they are in l
pub record LanesAre (f : ℕ → ℕ) (l : List ℕ) : Type 0 where
  pub size : length l ≡ 8
  pub at : (t : ℕ) → t < 8 → get_or l t 0 ≡ f t

-- each is below q
abbrev pub LanesBelow : ℕ → List ℕ → Type 0
LanesBelow q l = (t : ℕ) → t < 8 → get_or l t 0 < q

-- the first n rows are those that f gives
pub record RowsAre (f : ℕ → ℕ → ℕ) (n : ℕ) (rows : List (List ℕ)) : Type 0 where
  pub at : (y : ℕ) → y < n → LanesAre (f y) (get_or rows y [])

-- twice a symbol that is `first` in lane 0 and `step` more in each next one, with y added
abbrev pub raised_lane : ℕ → ℕ → ℕ → ℕ → ℕ → ℕ
raised_lane q first step y t = 2 * ((first + t * step + y) % q)

-- the y of the check symbol for index i: each odd position before i takes 1 mod q
abbrev pub taken_off : ℕ → ℕ → ℕ
taken_off q i = (i + 1) / 2 * (q - 1) % q
