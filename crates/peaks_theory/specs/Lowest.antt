-- Of the indices below m that pass a test t, one with the least cost f, and the first of those.
-- Assumes nothing.
use Rattle.std.specs.Prelude.{◌≡◌, Bool, true, false, ◌&&◌, ℕ, ◌≤◌, ◌<◌, T, eqb}
use Rattle.modular_theory.specs.Search.{least, any_below}

-- above every cost, and what stands for none
abbrev pub no_cost : ℕ
no_cost = 65535

-- the least cost below that; it where there is none
unfoldable pub lowest_cost : (ℕ → Bool) → (ℕ → ℕ) → ℕ → ℕ
lowest_cost t f m = least (λ c. any_below (λ i. t i && eqb (f i) c) m) no_cost

-- the first index that has it; m where there is none
unfoldable pub lowest_index : (ℕ → Bool) → (ℕ → ℕ) → ℕ → ℕ
lowest_index t f m = least (λ i. t i && eqb (f i) (lowest_cost t f m)) m

-- of the indices below m that pass, the one at `index` has the least cost, which is `cost`, and none before it has the same
pub record Lowest (t : ℕ → Bool) (f : ℕ → ℕ) (m cost index : ℕ) : Type 0 where
  pub inside : index < m
  pub passes : T (t index)
  pub is : f index ≡ cost
  pub least : (j : ℕ) → j < m → T (t j) → cost ≤ f j
  pub first : (j : ℕ) → j < index → T (t j) → cost < f j

-- x where a test passes, and y where it does not
abbrev pub pick : Bool → ℕ → ℕ → ℕ
pick b x y = elim b [ true ↦ x | false ↦ y ]
