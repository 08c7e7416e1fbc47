-- `is_word` meets its contract: each arm asks for its own profile, and any other number is no profile's.
-- Assumes nothing.
use native.Mathlib.Omega.{arith}
use Rattle.modular_theory.proofs.Search.{fails}
use Rattle.code_theory.specs.Profiles.{is_profile}
use Rattle.profiles.proofs.Table.{in_range_lem}
use Rattle.queue_theory.specs.Sound.{is_padded}
use Rattle.soundness.proofs.Conditions.{off}
use Rattle.soundness.proofs.cell.is_word.Goals as goal

pub returns-in_default : goal.returns-in_default
unfolding is_padded
returns-in_default c =
    let p = c.args.profile in
    off (is_profile p) _ (fails (λ h. let (from, upto) = in_range_lem p h in omega arith))
