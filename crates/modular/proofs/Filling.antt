-- An array that is filled from its start, an element at a time.
-- Assumes nothing.
use Rattle.std.proofs.Common.{◌≡◌, ℕ, ◌+◌, ◌<◌, ◌≤◌, List, length, get_or, take, set, sym, ◌∙◌, not-suc-le-zero, arith, length-set, length-take-le, get_or-set_other, get_or-take, get_or-set_same, ext_get_or}
use native.Mathlib.Decide.{ℕ_discrete}

-- the first i of n elements are those that f gives
pub record FilledTo (f : ℕ → ℕ) (n : ℕ) (array : List ℕ) (i : ℕ) : Type 0 where
  pub size : length array ≡ n
  pub at : (k : ℕ) → k < i → get_or array k 0 ≡ f k

pub filled_none : (f : ℕ → ℕ) {n : ℕ} (array : List ℕ) → length array ≡ n → FilledTo f n array 0
filled_none f array e = record { size = e; at = λ k h. absurd (not-suc-le-zero h) }

pub filled_more : {f : ℕ → ℕ} {n : ℕ} {array : List ℕ} {i : ℕ} → FilledTo f n array i → i < n
    → {y : ℕ} → y ≡ f i → FilledTo f n (set array i y) (i + 1)
filled_more {f} {n} {array} {i} a l {y} e = record { size = length-set array i y ∙ a.size; at = λ k h. at k h (ℕ_discrete k i) }
  where
    at : (k : ℕ) → k < i + 1 → Dec (k ≡ i) → get_or (set array i y) k 0 ≡ f k
    at k h (yes z) = let o : i < length array = omega (arith, a.size) in rw z (get_or-set_same array i y 0 o ∙ e)
    at k h (no z) = get_or-set_other array i k y 0 z ∙ a.at k (omega (arith, z))

-- so m of them are the first m of a list that f gives too
pub filled_take : {f : ℕ → ℕ} {n : ℕ} {array : List ℕ} {i : ℕ} → FilledTo f n array i → (m : ℕ) → m ≤ i → m ≤ n
    → (l : List ℕ) → m ≤ length l → ((k : ℕ) → k < m → f k ≡ get_or l k 0) → take m array ≡ take m l
filled_take {array = array} a m upto room l long same =
    let e : length (take m array) ≡ m = length-take-le m array (omega (arith, a.size)) in
    let g : length (take m l) ≡ m = length-take-le m l long in
    ext_get_or 0 (take m array) (take m l) (e ∙ sym g)
    (λ k h.
    let j : k < m = omega arith in
    get_or-take m array k 0 j ∙ a.at k (omega arith) ∙ same k j ∙ sym (get_or-take m l k 0 j))
