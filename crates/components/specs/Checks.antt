-- The check symbols of a component word, and where they go.
-- Assumes nothing.
use Rattle.std.specs.Prelude.{◌≡◌, true, false, List, [], ◌∷◌, ℕ, zero, suc, ◌+◌, ◌-◌, ◌*◌, ◌^◌, ◌≤◌, ◌<◌, get_or, set}
use Rattle.modular_theory.specs.Residue.{Congruent}
use Rattle.code_theory.specs.Component.{check_at, merge}
use Rattle.profiles.specs.declared.row.Row.{Row}
use Rattle.profiles.specs.Row.{parameters}
use Rattle.symbols.specs.Syndromes.{part}
use Rattle.components.specs.declared.component.CheckSymbols.{CheckSymbols}

-- the check symbols in the order of their positions below
abbrev pub check_symbols : CheckSymbols → List ℕ
check_symbols e = e.two ∷ e.one ∷ e.mid ∷ e.high ∷ []

-- 01: check place k: 2, then 1, q, q², ..
abbrev pub check_position : ℕ → ℕ → ℕ
check_position q zero = 2
check_position q (suc j) = q ^ j

-- the first k check symbols of e put at their positions
abbrev pub checked : ℕ → List ℕ → List ℕ → ℕ → List ℕ
checked q e c zero = c
checked q e c (suc k) = set (checked q e c k) (check_position q k - 1) (get_or e k 0)

-- x with a and b as the components' symbols at a position
abbrev pub set_at : List ℕ → ℕ → ℕ → ℕ → List ℕ
set_at x position a b = set (set x (2 * position - 1) a) (2 * position) b

-- with the check symbols e the row sums s, the row of ones last, become 0: column 2 has 2 in the lowest row, and each column ends in 1
pub record Solves (q : ℕ) (s e : List ℕ) : Type 0 where
  pub below : (k : ℕ) → k < 4 → get_or e k 0 < q
  pub two : Congruent q (get_or e 0 0 + (get_or s 0 0 + get_or s 1 0 + get_or s 2 0)) (get_or s 3 0)
  pub one : Congruent q (get_or e 1 0 + (get_or s 0 0 + 2 * get_or e 0 0)) 0
  pub powers : (j : ℕ) → 1 < suc j → j < 3 → Congruent q (get_or e (suc j) 0 + get_or s j 0) 0

-- x holds both messages, with 0 at the check positions and outside the components
pub record Placed (t : Row) (first second x : List ℕ) : Type 0 where
  pub head : get_or x 0 0 ≡ 0
  pub first_part : part true t.n x ≡ merge (check_at (parameters t)) t.n [] first
  pub second_part : part false t.n x ≡ merge (check_at (parameters t)) t.n [] second
  pub past : (i : ℕ) → 2 * t.n + 1 ≤ i → get_or x i 0 ≡ 0

-- y is x with the check symbols of its components set
pub record Filled (t : Row) (x first second y : List ℕ) : Type 0 where
  pub head : get_or y 0 0 ≡ get_or x 0 0
  pub first_part : part true t.n y ≡ checked t.q first (part true t.n x) t.r
  pub second_part : part false t.n y ≡ checked t.q second (part false t.n x) t.r
  pub past : (i : ℕ) → 2 * t.n + 1 ≤ i → get_or y i 0 ≡ get_or x i 0
