-- `codec_cases::run` is safe: the whole input is lent.
-- Assumes nothing.
use mathlib.Core.Path.{sym}
use lib.ListN.{length-replicate}
use Prim.Native.Nat.{ℕ}
use Rattle.codec_cases.proofs.run.Goals as goal

pub slice_bounds-run_within-end : goal.slice_bounds-run_within-end
slice_bounds-run_within-end g c = sym (length-replicate {A = ℕ} 2097152 0)
