-- The table of cells seen holds the count of each cell on the lists that were walked.
-- Assumes nothing.
use mathlib.Core.Path.{◌≡◌, refl, sym, ap, subst, ◌∙◌}
use mathlib.Core.Logic.{◌≢◌, ⊎_elim}
use mathlib.Core.Bool.{Bool}
use mathlib.Core.List.{List, [], ◌∷◌, ◌++◌}
use Prim.Native.Nat.{ℕ, zero, suc, ◌+◌, ◌≤◌, ◌<◌}
use native.Mathlib.Omega.{arith}
use lib.Dec.{T, eqb}
use lib.ListN.{length, get_or, set, length-set, length-replicate}
use lib.Seq.{get_or-set_same, get_or-set_other}
use Rattle.modular_theory.specs.Search.{all_below}
use Rattle.modular_theory.proofs.Search.{same_test, all_at, all_of}
use Rattle.code_theory.proofs.Distance.{equal_or_not}
use Rattle.queue_theory.specs.Lists.{zeros, bit, count}
use Rattle.queue_theory.specs.Layout.{next_cell}
use Rattle.queue_theory.specs.Chains.{chain}
use Rattle.queue_theory.specs.Sound.{each_once}
use Rattle.queue_theory.proofs.Counts.{bit_same, bit_other, count_append}
use Rattle.queue_theory.proofs.Format.{get_d_zeros}
use Rattle.soundness.specs.Tally.{tallied, AtMost}
use Rattle.soundness.proofs.Walks.{tally_one}

-- one cell met
met : (t : List ℕ) (c i : ℕ) → i < length t → get_or (set t c (get_or t c 0 + 1)) i 0 ≡ get_or t i 0 + bit (eqb i c)
met t c i h =
    ⊎_elim
    (λ (e : i ≡ c).
    let k : c < length t = omega arith in
    let more = get_or t c 0 + 1 in
    let same : get_or t c 0 ≡ get_or t i 0 = ap (λ (x : ℕ). get_or t x 0) (sym e) in
    let there : get_or (set t c more) i 0 ≡ more = ap (λ (x : ℕ). get_or (set t c more) x 0) e ∙ get_or-set_same t c more 0 k in
    omega (arith, bit_same e))
    (λ (d : i ≢ c). omega (arith, bit_other d, get_or-set_other t c i (get_or t c 0 + 1) 0 d))
    (equal_or_not i c)

tally_count : (l t : List ℕ) (i : ℕ) → i < length t → get_or (tallied t l) i 0 ≡ get_or t i 0 + count i l
tally_count [] t i h = omega arith
tally_count (c ∷ l) t i h =
    omega (arith, met t c i h, tally_count l (set t c (get_or t c 0 + 1)) i (omega (arith, length-set t c (get_or t c 0 + 1))))

length_tallied : (l t : List ℕ) → length (tallied t l) ≡ length t
length_tallied [] t = refl
length_tallied (c ∷ l) t = length_tallied l (set t c (get_or t c 0 + 1)) ∙ length-set t c (get_or t c 0 + 1)

tally_le : (l t : List ℕ) (i : ℕ) → get_or (tallied t l) i 0 ≤ get_or t i 0 + length l
tally_le [] t i = omega arith
tally_le (c ∷ l) t i = omega (arith, tally_one t c i, tally_le l (set t c (get_or t c 0 + 1)) i)

length_chain : (s : List ℕ) (n i : ℕ) → length (chain s n i) ≤ n
length_chain s zero i = omega arith
length_chain s (suc n) zero = omega arith
length_chain s (suc n) (suc i) = omega (arith, length_chain s n (next_cell s (suc i)))

-- the table before any cell has been met
unfoldable pub none_seen : List ℕ
none_seen = zeros 256

none_at : (i : ℕ) → get_or none_seen i 0 ≡ 0
unfolding none_seen
none_at i = get_d_zeros 256 i

none_length : length none_seen ≡ 256
unfolding none_seen
none_length = length-replicate {A = ℕ} 256 0

pub none_seen_lem : AtMost 255 none_seen
none_seen_lem i = omega (arith, none_at i)

-- after one list
pub few_seen : (s : List ℕ) (n i : ℕ) → n ≤ 255 → AtMost 255 (tallied none_seen (chain s n i))
few_seen s n i h k = omega (arith, tally_le (chain s n i) none_seen k, none_at k, length_chain s n i)

-- after both
abbrev both_seen : List ℕ → List ℕ → List ℕ
both_seen u f = tallied (tallied none_seen u) f

-- cell i + 1 has been met once, by the table and by the lists
abbrev once_seen : List ℕ → List ℕ → ℕ → Bool
once_seen u f i = eqb (get_or (both_seen u f) (suc i) 0) 1

abbrev once_listed : List ℕ → List ℕ → ℕ → Bool
once_listed u f i = eqb (count (suc i) (u ++ f)) 1

pub both_seen_lem : (n : ℕ) (u f : List ℕ) → n ≤ 255 → all_below (once_seen u f) n ≡ each_once n (u ++ f)
unfolding each_once
both_seen_lem n u f h = same_test _ _ there back
  where
    same : (i : ℕ) → i < n → get_or (both_seen u f) (suc i) 0 ≡ count (suc i) (u ++ f)
    same i k =
        omega (
          arith,
          tally_count f (tallied none_seen u) (suc i) (omega (arith, length_tallied u none_seen, none_length)),
          tally_count u none_seen (suc i) (omega (arith, none_length)),
          none_at (suc i),
          count_append (suc i) u f,
        )

    there : T (all_below (once_seen u f) n) → T (all_below (once_listed u f) n)
    there a = all_of (once_listed u f) n (λ i k. subst (λ (x : ℕ). T (eqb x 1)) (same i k) (all_at (once_seen u f) n a i k))

    back : T (all_below (once_listed u f) n) → T (all_below (once_seen u f) n)
    back a = all_of (once_seen u f) n (λ i k. subst (λ (x : ℕ). T (eqb x 1)) (sym (same i k)) (all_at (once_listed u f) n a i k))
