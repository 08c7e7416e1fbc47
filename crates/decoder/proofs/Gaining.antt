-- The multiples by which a symbol that gains something moves the syndromes: those of what it gains or of the negative, by the component,
-- the parity and the edition.
-- Assumes nothing.
use mathlib.Core.Path.{◌≡◌, sym, ap, ◌∙◌}
use mathlib.Core.Bool.{Bool, true, false}
use mathlib.Core.List.{List}
use Prim.Native.Nat.{ℕ, ◌+◌, ◌-◌, ◌%◌, ◌≤◌, ◌<◌}
use native.Mathlib.Nat.{zero-add}
use native.Mathlib.Numerals.{add-one}
use native.Mathlib.Omega.{arith}
use lib.ListN.{get_or}
use Rattle.std.specs.Prelude.{if◌then◌else◌}
use Rattle.modular_theory.specs.Residue.{minus}
use Rattle.modular_theory.proofs.Residue.{of_eq, ◌then◌, reduce, minus_is, already_reduced}
use Rattle.code_theory.specs.Parameters.{Edition, edition13, edition18, Parameters, in_edition}
use Rattle.decoding_theory.specs.Syndromes.{moved, column_of, times, moved_of}
use Rattle.decoding_theory.specs.Decoded.{gain_by}
use Rattle.profiles.specs.declared.row.Row.{Row}
use Rattle.profiles.specs.Row.{parameters}
use Rattle.decoder.specs.Multiples.{Multiples}
use Rattle.decoder.specs.Direction.{first_loses}
use Rattle.decoder.specs.Search.{FactorsOf, Moves}
use Rattle.syndromes.proofs.Moving.{moved_congruent}

-- A symbol of the parity b gains e.
module _ (p : Parameters) {e : ℕ} (small : e < p.q) (b : Bool) where
  -- whether the first component loses it: the factors of the columns are then the negative and e, or e and the negative
  abbrev Factors : Parameters → Bool → Bool → Type 0
  Factors r a d =
      (elim d [ true ↦ minus p.q 0 e | false ↦ e ] ≡ times r true a (gain_by r e) % p.q)
      × (elim d [ true ↦ e | false ↦ minus p.q 0 e ] ≡ times r false a (gain_by r e) % p.q)

  negative : minus p.q 0 e ≡ (p.q - e) % p.q
  negative =
      let some : 1 ≤ p.q = omega arith in
      let upto : e ≤ p.q = omega arith in
      sym (minus_is p.q 0 e some upto) ∙ ap (λ (x : ℕ). x % p.q) (zero-add (p.q - e))

  itself : e ≡ e % p.q
  itself = (already_reduced small).0

  twice : e ≡ (p.q - (p.q - e)) % p.q
  twice = let back : e ≡ p.q - (p.q - e) = omega arith in itself ∙ ap (λ (x : ℕ). x % p.q) back

  pub factors : Factors p b (first_loses p b)
  factors = go p.edition b
    where
      go : (o : Edition) (a : Bool) → let r : Parameters = in_edition o p in Factors r a (first_loses r a)
      go edition13 true = (negative, itself)
      go edition13 false = (itself, negative)
      go edition18 true = (twice, negative)
      go edition18 false = (negative, twice)

-- e and its negative, so used
module _ (t : Row) {e : ℕ} (small : e < t.q) (b : Bool) {less : ℕ} (less-is : less ≡ minus t.q 0 e) where
  abbrev loses : Bool
  loses = first_loses (parameters t) b

  pub factors_sides : {f g : ℕ} → f ≡ (if loses then less else e) → g ≡ (if loses then e else less) → FactorsOf t b e f g
  factors_sides {f} {g} f-is g-is = go loses (factors (parameters t) small b) f-is g-is
    where
      go : (d : Bool) → Factors (parameters t) small b (parameters t) b d → f ≡ (if d then less else e) → g ≡ (if d then e else less)
          → FactorsOf t b e f g
      go true (x, y) h k = record { first_is = h ∙ less-is ∙ x; second_is = k ∙ y }
      go false (x, y) h k = record { first_is = h ∙ x; second_is = k ∙ less-is ∙ y }

  -- and the tables of their multiples
  pub moves_sides : {M L F G : List ℕ} → Multiples t.q M × (get_or M 1 0 ≡ e) → Multiples t.q L × (get_or L 1 0 ≡ less)
      → F ≡ (if loses then L else M) → G ≡ (if loses then M else L) → Moves t b e F G
  moves_sides {M} {L} {F} {G} m l F-is G-is = go loses (factors (parameters t) small b) F-is G-is
    where
      go : (d : Bool) → Factors (parameters t) small b (parameters t) b d → F ≡ (if d then L else M) → G ≡ (if d then M else L)
          → Moves t b e F G
      go true (x, y) h k =
          rw (h, k) (record { first_table = l.0; second_table = m.0; first_by = l.1 ∙ less-is ∙ x; second_by = m.1 ∙ y })
      go false (x, y) h k =
          rw (h, k) (record { first_table = m.0; second_table = l.0; first_by = m.1 ∙ x; second_by = l.1 ∙ less-is ∙ y })

-- The columns that a symbol at index k of a parity meets.

pub first_column : (b : Bool) (k : ℕ) → k + 1 ≡ column_of true b k
first_column b k = add-one k

-- a syndrome with a multiple of such a column added is the one after the gain
pub moved_by : (p : Parameters) (c b : Bool) (k g : ℕ) {f a : ℕ} → f ≡ times p c b g % p.q → a ≡ column_of c b k → (S : List ℕ)
    → moved p f a S ≡ moved_of p c b k g S
unfolding moved_of
moved_by p c b k g {f} f-is a-is S =
    ap (λ (a : ℕ). moved p f a S) a-is
    ∙ moved_congruent p (column_of c b k) S (of_eq f-is then reduce p.q (times p c b g))
