-- `encoder::balance::Integral::raised` meets its contract. The invariant: the symbols passed are raised, and the others are as they were.
-- Assumes nothing.
use mathlib.Core.Path.{ap₂, ◌∙◌}
use Prim.Native.Nat.{ℕ, ◌+◌, ◌%◌, ◌≤◌, ◌<◌}
use lib.ListN.{get_or}
use native.Mathlib.Omega.{arith}
use Rattle.modular.proofs.Bytes.{byte_sum_lem}
use Rattle.encoder.proofs.Changing.{changed_next, changed_more}
use Rattle.encoder.proofs.Raising.{rise_upto}
use Rattle.encoder.proofs.balance.Integral.raised.Goals as goal

pub loop-i-preserved : goal.loop-i-preserved
loop-i-preserved c =
    let a = c.args in
    let q : ℕ = a.self.now.row.q in
    let i : ℕ = c.loop-i.i in
    let next = changed_next c.loop-i.invariant in
    let below : get_or c.loop-i.y-items i 0 < q = rw next (c.args.self.now.levels.below i c.loop-i-test.true) in
    let small : c.rise.result ≤ q = omega (arith, c.rise.ensures, rise_upto a.from a.s i q c.requires) in
    let sum = byte_sum_lem below small (omega (arith, c.args.self.now.levels.levels)) c.add.ensures in
    changed_more c.loop-i.invariant (omega (arith, c.loop-i.invariant.size, c.args.self.now.levels.size, c.loop-i-test.true))
    (sum.0 ∙ ap₂ (λ (x y : ℕ). (x + y) % q) next c.rise.ensures)
