-- Pending bytes: what the methods of src/pending.rt leave.
-- Assumes nothing.
use Rattle.std.proofs.Common.{◌≡◌, ℕ, ◌<◌, true, false, List, [], ◌∷◌, min, length, take, drop, refl, sym, arith, take_at}
use Rattle.std.proofs.lemmas.List.{length-take, take_min, drop_min}
use Rattle.lines_theory.specs.Feed.{is_empty, overwritten}

-- indices past the array's end, or out of order, mean what the nearest ones mean
pub clamped : (answer : List ℕ) (from to : ℕ) {from' to' : ℕ} → length answer ≡ 128 → to' ≡ min to 128 → from' ≡ min from to'
    → drop from' (take to' answer) ≡ drop from (take to answer)
clamped answer from to {from'} {to'} long a b =
    let t : to' ≡ min to (length answer) = rw long a in
    let u : from' ≡ min from (length (take to answer)) = rw (length-take to answer, ← t) b in
    rw (t, take_min to answer, u) (drop_min from (take to answer))

-- an answer at the front of its buffer
pub answered : (bytes old : List ℕ) {new : List ℕ} {n : ℕ} → n ≡ length bytes → new ≡ overwritten bytes old → take n new ≡ bytes
unfolding overwritten
answered bytes old e t = rw t (take_at bytes (drop (length bytes) old) _ (sym e))

pub empty_is : (l : List ℕ) → is_empty l ≡ true → l ≡ []
empty_is [] e = refl
empty_is (b ∷ l) e = cc

pub some_is : (l : List ℕ) → is_empty l ≡ false → 0 < length l
some_is [] e = cc
some_is (b ∷ l) e = omega arith
