-- Which symbols a received word of a profile may have, from the profile's row.
-- Assumes nothing.
use mathlib.Core.Path.{◌≡◌, ap}
use mathlib.Core.List.{List}
use Prim.Native.Nat.{ℕ}
use Rattle.code_theory.specs.Parameters.{Edition}
use Rattle.code_theory.specs.Component.{levels_or_erasures, is_received}
use Rattle.code_theory.specs.Profiles.{profile}
use Rattle.profiles.specs.declared.row.Row.{Row}
use Rattle.profiles.specs.Row.{RowOf}
use Rattle.profiles.proofs.Table.{levels_are}

pub received_is : {o : Edition} {p : ℕ} {t : Row} → RowOf o p t → (w : List ℕ) → levels_or_erasures t.q w ≡ is_received (profile p) w
received_is of w = ap (λ (q : ℕ). levels_or_erasures q w) (levels_are of)
