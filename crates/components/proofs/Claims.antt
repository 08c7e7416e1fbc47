-- Every claim of specs/Claims.antt, proved: a step takes what is carried from one prefix to the next.
-- Assumes nothing.
use Prim.Native.Nat.{ℕ, zero, suc, ◌*◌, ◌≤◌}
use native.Mathlib.Nat.{le_of_suc-le}
use native.Mathlib.Omega.{arith}
use lib.ListN.{length, get_or, take}
use Rattle.modular_theory.specs.Sum.{dot}
use Rattle.modular_theory.proofs.Residue.{same, symm, ◌then◌, small}
use Rattle.symbols.proofs.Words.{dot_take}
use Rattle.components.specs.PartialSums.{PartialSum}
use Rattle.components.specs.Claims.{EveryPrefix, OneNumber, RoomForNine, Claims}
use Rattle.components.proofs.PartialSums.{continued, product_room}

every_prefix : EveryPrefix
every_prefix q some f c s begun step i = go i
  where
    go : (i : ℕ) → i ≤ length c → PartialSum q (dot f (take i c)) (s i)
    go zero h = rw begun (record { below = some; same = same 0 })
    go (suc i) h = rw (dot_take f i c) (continued (f i * get_or c i 0) (go i (le_of_suc-le h)) (step i h))

one_number : OneNumber
one_number q sum s t a b = small a.below b.below (a.same then symm b.same)

room_for_nine : RoomForNine
room_for_nine q s digit x h a b c =
    let room = product_room h b c in
    (room.0, omega (arith, room.0))

pub claims : Claims
claims = record { every_prefix = every_prefix; one_number = one_number; room_for_nine = room_for_nine }
