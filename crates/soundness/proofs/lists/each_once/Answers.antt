-- `each_once` meets its contract. The invariant: `once` says it of the cells passed.
-- Assumes nothing.
use mathlib.Core.Path.{ap, ◌∙◌}
use mathlib.Core.Bool.{◌&&◌}
use Prim.Native.Nat.{ℕ}
use native.Mathlib.Omega.{arith}
use lib.Dec.{eqb}
use Rattle.soundness.proofs.Walks.{once_more, part_at}
use Rattle.soundness.proofs.lists.each_once.Goals as goal

pub loop-met-preserved : goal.loop-met-preserved
loop-met-preserved c =
    let l = c.loop-met in
    let t = c.args.seen.now in
    ap (λ (x : ℕ). l.once && eqb x 1) (part_at t c.args.n l.met-index (omega arith)) ∙ once_more t l.met-index l.once l.invariant
