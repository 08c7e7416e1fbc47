-- A formatted queue: nothing used, and the free list is 1, 2, up to R.
-- Assumes nothing.
use mathlib.Core.Path.{◌≡◌, refl, sym, ap, subst, ◌∙◌}
use mathlib.Core.Logic.{◌≢◌, ◌⊎◌, inl, inr, ⊎_elim}
use mathlib.Core.Bool.{Bool, false}
use mathlib.Core.List.{List, [], ◌∷◌, map}
use Prim.Native.Nat.{ℕ, zero, suc, ◌+◌, ◌-◌, ◌*◌, ◌≤◌, ◌<◌}
use native.Mathlib.Nat.{not-suc-le-zero}
use native.Mathlib.Omega.{arith}
use lib.Dec.{T, eqb}
use lib.ListN.{length, get_or, take, drop, length-set, length-replicate}
use Rattle.modular_theory.proofs.Search.{and_left, and_right, and_intro}
use Rattle.code_theory.proofs.Distance.{equal_or_not}
use Rattle.queue_theory.specs.Lists.{all, all_zero, zeros, count, up_from}
use Rattle.queue_theory.specs.Layout.{Size, cell_size, body_size, header_size, capacity, next_cell, first_free, cell_body, header, set_next}
use Rattle.queue_theory.specs.Layout.{set_first_free}
use Rattle.queue_theory.specs.Chains.{From, records}
use Rattle.queue_theory.specs.Sound.{is_header}
use Rattle.queue_theory.specs.Operations.{linked, formatted}
use Rattle.queue_theory.specs.Claims.{FormatLaw}
use Rattle.queue_theory.proofs.Counts.{bit_same, bit_other}
use Rattle.queue_theory.proofs.Writes.{next_set, next_set_other, body_set_next, first_free_set}
use Rattle.queue_theory.proofs.Writes.{next_set_free, body_set_free, header_same}
use Rattle.queue_theory.proofs.Writes.{header_set_free}
use Rattle.queue_theory.proofs.Record.{zeros_zero}
use Rattle.queue_theory.proofs.Lists.{size_of, Cell, Lists, used_is, free_is, queue_is}

pub all_take : (t : ℕ → Bool) (n : ℕ) (l : List ℕ) → T (all t l) → T (all t (take n l))
all_take t zero l h = tt
all_take t (suc n) [] h = tt
all_take t (suc n) (x ∷ l) h =
    and_intro (t x) (all t (take n l)) (and_left (t x) (all t l) h) (all_take t n l (and_right (t x) (all t l) h))

pub all_drop : (t : ℕ → Bool) (n : ℕ) (l : List ℕ) → T (all t l) → T (all t (drop n l))
all_drop t zero l h = h
all_drop t (suc n) [] h = tt
all_drop t (suc n) (x ∷ l) h = all_drop t n l (and_right (t x) (all t l) h)

pub get_d_zeros : (n k : ℕ) → get_or (zeros n) k 0 ≡ 0
get_d_zeros zero k = refl
get_d_zeros (suc n) zero = refl
get_d_zeros (suc n) (suc k) = get_d_zeros n k

-- Cells linked each to the one after it.
pub length_linked : (s : List ℕ) (i n : ℕ) → length (linked s i n) ≡ length s
length_linked s i zero = refl
length_linked s i (suc n) = length_linked (set_next s i (suc i)) (suc i) n ∙ length-set s (i * cell_size) (suc i)

body_linked : (s : List ℕ) (i n j : ℕ) → cell_body (linked s i n) j ≡ cell_body s j
body_linked s i zero j = refl
body_linked s i (suc n) j = body_linked (set_next s i (suc i)) (suc i) n j ∙ body_set_next s i (suc i) j

next_linked_out : (s : List ℕ) (i n j : ℕ) → (j < i) ⊎ (i + n ≤ j) → next_cell (linked s i n) j ≡ next_cell s j
next_linked_out s i zero j h = refl
next_linked_out s i (suc n) j h =
    next_linked_out (set_next s i (suc i)) (suc i) n j
    (⊎_elim (λ (k : j < i). inl (omega arith)) (λ (k : i + suc n ≤ j). inr (omega arith)) h)
    ∙ next_set_other s i (suc i) j (⊎_elim (λ (k : j < i). omega arith) (λ (k : i + suc n ≤ j). omega arith) h)

next_linked_in : (s : List ℕ) (i n j : ℕ) → (i + n) * cell_size ≤ length s → i ≤ j → j < i + n → next_cell (linked s i n) j ≡ suc j
next_linked_in s i zero j f h k = let z : ⊥ = omega arith in absurd z
next_linked_in s i (suc n) j f h k =
    ⊎_elim
    (λ (e : j ≡ i).
    next_linked_out (set_next s i (suc i)) (suc i) n j (inl (omega arith))
    ∙ subst (λ (z : ℕ). next_cell (set_next s i (suc i)) z ≡ suc z) (sym e) (next_set s i (suc i) (omega arith)))
    (λ (d : j ≢ i).
    next_linked_in (set_next s i (suc i)) (suc i) n j (omega (arith, length-set s (i * cell_size) (suc i))) (omega arith) (omega arith))
    (equal_or_not j i)

-- The numbers from i up.
from_up : (s : List ℕ) (n i : ℕ) → 1 ≤ i → ((j : ℕ) → i ≤ j → j < i + n → next_cell s j ≡ suc j) → next_cell s (i + n) ≡ 0
    → From s i (up_from i (suc n))
from_up s zero i h f e = (refl, omega arith, subst (λ (k : ℕ). next_cell s k ≡ 0) (omega arith) e)
from_up s (suc n) i h f e =
    let link : next_cell s i ≡ suc i = f i (omega arith) (omega arith) in
    let rest : From s (suc i) (up_from (suc i) (suc n)) =
    from_up s n (suc i) (omega arith) (λ j k m. f j (omega arith) (omega arith)) (subst (λ (k : ℕ). next_cell s k ≡ 0) (omega arith) e) in
    (refl, omega arith, subst (λ (k : ℕ). From s k (up_from (suc i) (suc n))) (sym link) rest)

up_in : (n i x : ℕ) → 1 ≤ count x (up_from i n) → (i ≤ x) × (x < i + n)
up_in zero i x h = absurd (not-suc-le-zero h)
up_in (suc n) i x h = go (equal_or_not x i) (up_in n (suc i) x)
  where
    go : (x ≡ i) ⊎ (x ≢ i) → (1 ≤ count x (up_from (suc i) n) → (suc i ≤ x) × (x < suc i + n)) → (i ≤ x) × (x < i + suc n)
    go (inl e) f = omega arith
    go (inr d) f = let k : (suc i ≤ x) × (x < suc i + n) = f (omega (arith, bit_other d)) in omega arith

up_below : (n i x : ℕ) → x < i → count x (up_from i n) ≡ 0
up_below zero i x h = refl
up_below (suc n) i x h = omega (arith, bit_other {x = x} {y = i} (omega arith), up_below n (suc i) x (omega arith))

up_once : (n i x : ℕ) → i ≤ x → x < i + n → count x (up_from i n) ≡ 1
up_once zero i x h k = let z : ⊥ = omega arith in absurd z
up_once (suc n) i x h k =
    ⊎_elim
    (λ (e : x ≡ i). omega (arith, bit_same e, up_below n (suc i) x (omega arith)))
    (λ (d : x ≢ i). omega (arith, bit_other d, up_once n (suc i) x (omega arith) (omega arith)))
    (equal_or_not x i)

-- n + 1 is R
module _ (s : List ℕ) (n : ℕ) (z : Size s (suc n)) where
  abbrev s₀ : List ℕ
  s₀ = zeros (length s)

  abbrev s₁ : List ℕ
  s₁ = linked s₀ 1 n

  abbrev s' : List ℕ
  s' = set_first_free s₁ 1

  long₀ : length s₀ ≡ length s
  long₀ = length-replicate {A = ℕ} (length s) 0

  pub long' : length s' ≡ length s
  long' = length-set s₁ 1 1 ∙ length_linked s₀ 1 n ∙ long₀

  zero_part : (n k : ℕ) → T (all_zero (take n (drop k s₀)))
  zero_part n k = all_take (λ x. eqb x 0) n (drop k s₀) (all_drop (λ x. eqb x 0) k s₀ (zeros_zero (length s)))

  zero₁ : (j : ℕ) → T (all_zero (cell_body s₁ j))
  zero₁ j = subst (λ (b : List ℕ). T (all_zero b)) (sym (body_linked s₀ 1 n j)) (zero_part body_size (j * cell_size + 1))

  header_is : header s' ≡ header s₀
  header_is = header_set_free s₁ 1 ∙ header_same s₀ s₁ (body_linked s₀ 1 n 0)

  header_good : T (is_header (header s'))
  unfolding is_header
  header_good = subst (λ (h : List ℕ). T (is_header h)) (sym header_is) (zero_part header_size 2)

  next_out : (j : ℕ) → (j < 1) ⊎ (1 + n ≤ j) → next_cell s' j ≡ 0
  next_out j h = next_set_free s₁ 1 j ∙ next_linked_out s₀ 1 n j h ∙ get_d_zeros (length s) (j * cell_size)

  next_in : (j : ℕ) → 1 ≤ j → j < 1 + n → next_cell s' j ≡ suc j
  next_in j h k = next_set_free s₁ 1 j ∙ next_linked_in s₀ 1 n j (omega (arith, long₀, z.long)) h k

  first : first_free s' ≡ 1
  first = first_free_set s₁ 1 (omega (arith, length_linked s₀ 1 n, long₀, z.long))

  free_good : (x : ℕ) → 1 ≤ count x (up_from 1 (suc n)) → Cell s' (suc n) false x
  free_good x h =
      let k : (1 ≤ x) × (x < 1 + suc n) = up_in (suc n) 1 x h in
      record {
        below = omega arith;
        good = subst (λ (b : List ℕ). T (all_zero b)) (sym (body_set_free s₁ 1 x (omega arith))) (zero₁ x);
      }

  pub lists_formatted : Lists s' (suc n) [] (up_from 1 (suc n))
  lists_formatted =
      record {
        size = record { long = long' ∙ z.long; some = z.some; few = z.few };
        in_header = header_good;
        used_from = next_out 0 (inl (omega arith));
        free_from =
            subst (λ (i : ℕ). From s' i (up_from 1 (suc n))) (sym first)
            (from_up s' n 1 (omega arith) next_in (next_out (1 + n) (inr (omega arith))));
        used_cells = λ x h. absurd (not-suc-le-zero h);
        free_cells = free_good;
        once = λ x h k. up_once (suc n) 1 x h (omega arith);
      }

pub formatted_lists : (s : List ℕ) (R : ℕ) → Size s R → capacity s ≡ R
    → (length (formatted s) ≡ length s) × Lists (formatted s) R [] (up_from 1 R)
unfolding formatted
formatted_lists s zero z e = let a : ⊥ = omega (arith, z.some) in absurd a
formatted_lists s (suc n) z e =
    let k : capacity s - 1 ≡ n = omega arith in
    rw k (long' s n z, lists_formatted s n z)

pub format_law : FormatLaw
unfolding records
format_law s h =
    let both = formatted_lists s (capacity s) (size_of s h) refl in
    let ls = both.1 in
    record {
      kept_length = both.0;
      queue = queue_is ls;
      no_used = used_is ls;
      all_free = free_is ls;
      no_records = ap (map (cell_body (formatted s))) (used_is ls);
    }
