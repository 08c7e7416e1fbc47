-- What an erased symbol adds to the syndromes, by the columns that it meets.
-- Assumes nothing.
use mathlib.Core.Path.{◌≡◌, refl, sym, ap, ◌∙◌}
use mathlib.Core.Logic.{◌⊎◌, inl, inr}
use mathlib.Core.Bool.{Bool, true, false}
use mathlib.Core.List.{List, [], ◌∷◌}
use Prim.Native.Nat.{ℕ, zero, suc, ◌+◌, ◌-◌, ◌*◌, ◌/◌, ◌%◌, ◌<◌}
use native.Mathlib.Omega.{arith}
use lib.Dec.{eqb}
use lib.ListN.{get_or}
use borrow.Author.Tests.{lt-ltb, le-ltb, eq-eqb, ne_eqb}
use Rattle.code_theory.specs.Parameters.{Parameters, balanced_length}
use Rattle.code_theory.proofs.Columns.{q_positive}
use Rattle.decoding_theory.specs.Syndromes.{moved, column_entry, column_of, times}
use Rattle.decoding_theory.specs.Decoded.{gain_by}
use Rattle.decoding_theory.specs.Filled.{added_by_one, in_body, as_check, erased_at}
use Rattle.decoding_theory.proofs.Value.{tabulate_same}
use Rattle.profiles.specs.declared.row.Row.{Row}
use Rattle.profiles.specs.Row.{parameters, Valid}
use Rattle.symbols.specs.declared.sums.Syndrome.{Syndrome}
use Rattle.symbols.specs.declared.sums.Syndromes.{Syndromes}
use Rattle.symbols.specs.Syndromes.{rows}
use Rattle.syndromes.specs.Rows.{FourRows, rows_of, Moved}
use Rattle.decoder.specs.Search.{Moves}
use Rattle.decoder.specs.Erased.{SameRows, SameErased, in_body_lem, as_check_lem, OneMore}
use Rattle.syndromes.proofs.FourRows.{row_cases, rows_digit, rows_last}
use Rattle.decoder.proofs.Gaining.{first_column, moved_by}

-- the four rows of a word of zeros
abbrev pub zero_row : List ℕ
zero_row = 0 ∷ 0 ∷ 0 ∷ 0 ∷ []

zero_at : (j : ℕ) → get_or zero_row j 0 ≡ 0
zero_at zero = refl
zero_at (suc zero) = refl
zero_at (suc (suc zero)) = refl
zero_at (suc (suc (suc zero))) = refl
zero_at (suc (suc (suc (suc j)))) = refl

module _ (t : Row) (v : Valid t) where
  abbrev p : Parameters
  p = parameters t

  -- they are levels
  pub zero_rows_lem : FourRows t zero_row
  zero_rows_lem =
      record { below = λ j h. rw (zero_at j) (q_positive p v.sized); unused = λ j h l. zero_at j }

  rows_zero : (j : ℕ) → j < t.r → get_or (rows_of t zero_row) j 0 ≡ 0
  rows_zero j h = at (row_cases t v j h)
    where
      at : (j ≡ t.r - 1) ⊎ (j < t.r - 1) → get_or (rows_of t zero_row) j 0 ≡ 0
      at (inl e) = ap (λ (i : ℕ). get_or (rows_of t zero_row) i 0) e ∙ rows_last t v zero_row
      at (inr l) = rows_digit t v zero_row j l ∙ zero_at j

  moved_zero : (f a : ℕ) → moved p f a (rows_of t zero_row) ≡ moved p f a []
  unfolding moved
  moved_zero f a =
      tabulate_same (λ j. (get_or (rows_of t zero_row) j 0 + f * column_entry p j a) % t.q) (λ j. (0 + f * column_entry p j a) % t.q) t.r
      (λ j h. ap (λ (x : ℕ). (x + f * column_entry p j a) % t.q) (rows_zero j h))

  -- zeros moved by one more of a symbol
  more_rows : (c b : Bool) (k : ℕ) {f a : ℕ} {s : Syndrome} → f ≡ times p c b (gain_by p 1) % t.q → a ≡ column_of c b k
      → Moved t f a zero_row (rows s) → SameRows t (rows s) (added_by_one p c b k)
  unfolding added_by_one
  more_rows c b k {f} {a} {s} f-is a-is m =
      record { four = s; levels = m.levels; is = refl; are = sym (m.are ∙ moved_zero f a ∙ moved_by p c b k (gain_by p 1) f-is a-is []) }

  -- what one more of a symbol of the body adds
  pub added_one : (i : ℕ) {b : Bool} {a : ℕ} {F G : List ℕ} (y : Syndromes) → b ≡ eqb (i % 2) 0 → a ≡ column_of false b (i / 2)
      → Moves t b 1 F G → Moved t (get_or F 1 0) (i / 2 + 1) zero_row (rows y.first) → Moved t (get_or G 1 0) a zero_row (rows y.second)
      → OneMore t i y
  added_one i {b} y is a-is w m m' =
      record {
        first = rw (← is) (more_rows true b (i / 2) w.first_by (first_column b (i / 2)) m);
        second = rw (← is) (more_rows false b (i / 2) w.second_by a-is m');
      }

  -- The erased symbol at an index.

  pub here_alpha : (i : ℕ) → i ≡ t.balanced → SameErased t (as_check true) (erased_at p i)
  unfolding erased_at
  here_alpha i e =
      let f : i ≡ balanced_length p = e ∙ v.balanced in
      rw (le-ltb i (balanced_length p) (omega arith), erased_at, eq-eqb i (balanced_length p) f) (as_check_lem true)

  pub here_beta : (i : ℕ) → t.balanced < i → SameErased t (as_check false) (erased_at p i)
  unfolding erased_at
  here_beta i l =
      let m : balanced_length p < i = omega (arith, v.balanced) in
      rw (le-ltb i (balanced_length p) (omega arith), erased_at, ne_eqb i (balanced_length p) (λ e. omega arith)) (as_check_lem false)

  pub here_body : (i : ℕ) (y : Syndromes) (b : Bool) → i < t.balanced → eqb (i % 2) 0 ≡ b → OneMore t i y
      → SameErased t (in_body b (rows y.first) (rows y.second)) (erased_at p i)
  unfolding erased_at
  here_body i y b l e m =
      let f : i < balanced_length p = omega (arith, v.balanced) in
      rw (lt-ltb i (balanced_length p) f, erased_at, ← e) (in_body_lem (eqb (i % 2) 0) m.first m.second)
