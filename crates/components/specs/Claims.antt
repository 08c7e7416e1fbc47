-- What is claimed of the sums that form the check symbols (02, T-05), by what the step's contract allows, all of it fields of one record.
-- proofs/Claims.antt has a term of it.
-- Assumes nothing.
use Rattle.std.specs.Prelude.{◌≡◌, List, ℕ, suc, ◌+◌, ◌*◌, ◌≤◌, ◌<◌, length, get_or, take}
use Rattle.modular_theory.specs.Sum.{dot}
use Rattle.components.specs.PartialSums.{PartialSum}

-- 02: after each symbol what is carried is below q and equal mod q to the sum so far. That is so after every prefix of any word c, with any
-- digits f, whatever numbers s are carried: the first is 0, and each other one is what a step allows after the one before
abbrev pub EveryPrefix : Type 0
EveryPrefix =
    (q : ℕ) → 1 ≤ q → (f : ℕ → ℕ) (c : List ℕ) (s : ℕ → ℕ) → s 0 ≡ 0
    → ((i : ℕ) → i < length c → PartialSum q (s i + f i * get_or c i 0) (s (suc i)))
    → (i : ℕ) → i ≤ length c → PartialSum q (dot f (take i c)) (s i)

-- and it is one number
abbrev pub OneNumber : Type 0
OneNumber = (q sum s t : ℕ) → PartialSum q sum s → PartialSum q sum t → s ≡ t

-- 02: nothing on the way passes 255. With nine levels a product is 8 · 8 at most, and 8 · 8 + 8 where it is added before it is reduced.
-- That each operation of the code fits a byte is asked of its own proof
abbrev pub RoomForNine : Type 0
RoomForNine = (q s digit x : ℕ) → q ≤ 9 → s < q → digit < q → x < q → (digit * x ≤ 64) × (s + digit * x ≤ 72)

pub record Claims : Type 0 where
  pub every_prefix : EveryPrefix
  pub one_number : OneNumber
  pub room_for_nine : RoomForNine
