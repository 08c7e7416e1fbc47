-- The tests of a position, and the search for the first that passes them.
-- Assumes nothing.
use mathlib.Core.Path.{◌≡◌, ap, ◌∙◌}
use mathlib.Core.Logic.{⊎_elim}
use mathlib.Core.Bool.{Bool, true, false}
use mathlib.Core.List.{List}
use Prim.Native.Nat.{ℕ, ◌+◌, ◌%◌, ◌≤◌, ◌<◌}
use native.Mathlib.Omega.{arith}
use lib.Dec.{eqb}
use lib.ListN.{get_or}
use Rattle.modular_theory.specs.Search.{least}
use Rattle.modular_theory.proofs.Search.{least_is, least_le, least_hit, le_or_lt, holds}
use Rattle.code_theory.specs.Parameters.{Parameters}
use Rattle.code_theory.proofs.Merge.{cases}
use Rattle.decoding_theory.specs.Syndromes.{near_syndromes, index, moved, column_of, moved_of}
use Rattle.decoding_theory.specs.Decoded.{Sums, gain_by, gain, in_range, off_by_lack, near_after, fits, position_count, first_fit}
use Rattle.decoding_theory.proofs.Tests.{false_test}
use Rattle.decoder.specs.declared.search.Search.{Search}
use Rattle.decoder.specs.declared.parity.Parity.TheVariants.{Odd, Even}
use Rattle.decoder.specs.Search.{parameters_of, sums_in, parity_of, FactorsOf, Tries, after}
use Rattle.decoder.proofs.Gaining.{first_column, moved_by}

-- the check symbol of the parity
module _ (x : Search) {y : ℕ} where
  pub off_odd : x.parity ≡ Odd → y ≡ (x.s.asked.alpha + x.s.lack) % x.row.q
      → eqb y x.s.arrived.alpha ≡ off_by_lack (parameters_of x) (sums_in x) (parity_of x)
  unfolding off_by_lack
  off_odd z e = rw (z, ← x.totalled.lacks, e)

  pub off_even : x.parity ≡ Even → y ≡ (x.s.asked.beta + x.s.lack) % x.row.q
      → eqb y x.s.arrived.beta ≡ off_by_lack (parameters_of x) (sums_in x) (parity_of x)
  unfolding off_by_lack
  off_even z e = rw (z, ← x.totalled.lacks, e)

-- A syndrome with a multiple of its column added is the one after the correction.
module _ (x : Search) {f g : ℕ} (fs : FactorsOf x.row (parity_of x) x.s.lack f g) (k : ℕ) (S : List ℕ) where
  -- component c's, where what the symbol lacks is as it was summed up
  lacking : (c : Bool) → moved_of (parameters_of x) c (parity_of x) k (gain_by (parameters_of x) x.s.lack) S ≡ after x k c S
  lacking c =
      ap (λ (e : ℕ). moved_of (parameters_of x) c (parity_of x) k (gain_by (parameters_of x) e) S) x.totalled.lacks

  pub first_after : moved (parameters_of x) f (k + 1) S ≡ after x k true S
  first_after = moved_by _ true (parity_of x) k _ fs.first_is (first_column (parity_of x) k) S ∙ lacking true

  pub second_after : {a : ℕ} → a ≡ column_of false (parity_of x) k → moved (parameters_of x) g a S ≡ after x k false S
  second_after a-is = moved_by _ false (parity_of x) k _ fs.second_is a-is S ∙ lacking false

-- so it is by the tables
module _ {x : Search} {columns : List (List ℕ)} {F G : List ℕ} (a : Tries x columns F G) (k : ℕ) (S : List ℕ) where
  factors_by : FactorsOf x.row (parity_of x) x.s.lack (get_or F 1 0) (get_or G 1 0)
  factors_by = record { first_is = a.moves.first_by; second_is = a.moves.second_by }

  pub first_moved : moved (parameters_of x) (get_or F 1 0) (k + 1) S ≡ after x k true S
  first_moved = first_after x factors_by k S

  pub second_moved : {b : ℕ} → b ≡ column_of false (parity_of x) k → moved (parameters_of x) (get_or G 1 0) b S ≡ after x k false S
  second_moved = second_after x factors_by k S

-- A position fits where it passes the three tests.
module _ (p : Parameters) (S : Sums) (b : Bool) (k x : ℕ) where
  fits_off : off_by_lack p S b ≡ false → fits p S b k x ≡ false
  unfolding fits
  fits_off e = cases (in_range p S x) (λ f. rw (f, e)) (λ f. rw f)

  pub fits_all : in_range p S x ≡ true → off_by_lack p S b ≡ true → near_after p S b k ≡ true → fits p S b k x ≡ true
  unfolding fits
  fits_all e f g = rw (e, f, g)

pub near_after_lem : (p : Parameters) (S : Sums) (b : Bool) (k : ℕ) {c : Bool} {F G : List ℕ} → c ≡ near_syndromes p F G
    → F ≡ moved_of p true b k (gain p S) S.first → G ≡ moved_of p false b k (gain p S) S.second → c ≡ near_after p S b k
unfolding near_after
near_after_lem p S b k g h i = rw (← h, ← i) g

-- The search.

least_none : (test : ℕ → Bool) (n : ℕ) → ((i : ℕ) → i < n → test i ≡ false) → least test n ≡ n
least_none test n f =
    ⊎_elim (λ (h : n ≤ least test n). omega (arith, least_le test n))
    (λ (h : least test n < n). absurd (false_test (f (least test n) h) (least_hit test n h))) (le_or_lt n (least test n))

module _ (p : Parameters) (S : Sums) (word : List ℕ) (b : Bool) where
  -- the test of index k
  abbrev test : ℕ → Bool
  test k = fits p S b k (get_or word (index b k) 0)

  abbrev first : ℕ
  first = first_fit p S b word

  abbrev count : ℕ
  count = position_count p b

  pub first_found : (k : ℕ) → k < count → ((j : ℕ) → j < k → test j ≡ false) → test k ≡ true → (first ≡ k) × (k < count)
  unfolding first_fit
  first_found k l f e = (least_is test count k l (holds _ e) (λ j i. false_test (f j i)), l)

  pub none_found : ((j : ℕ) → j < count → test j ≡ false) → first ≡ count
  unfolding first_fit
  none_found f = least_none test count f

  -- nothing fits where the check symbol is off by something else than the weight
  pub none_off : off_by_lack p S b ≡ false → first ≡ count
  none_off e = none_found (λ j i. fits_off p S b j (get_or word (index b j) 0) e)
