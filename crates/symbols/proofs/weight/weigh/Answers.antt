-- `symbols::weight::weigh` meets its contract. The invariant: what is summed and what is left of the symbols that are weighed make the
-- whole.
-- Assumes nothing.
use mathlib.Core.Path.{◌≡◌, ap, ◌∙◌}
use mathlib.Core.List.{List}
use Prim.Native.Nat.{ℕ, min, ◌≤◌}
use native.Mathlib.Omega.{arith}
use lib.ListN.{length, take}
use Rattle.std.proofs.lemmas.Int.{ints}
use Rattle.std.proofs.lemmas.List.{take_min}
use Rattle.symbols.specs.Weight.{weights_of}
use Rattle.symbols.proofs.Weighing.{weighing_none, weighing_all}
use Rattle.symbols.proofs.weight.weigh.Goals as goal

pub loop-index-init : goal.loop-index-init
loop-index-init c = weighing_none _

pub returns : goal.returns
returns c =
    let word : List ℕ = c.args.word.now in
    let first : take c.available.result word ≡ take (min c.args.m 97) word =
    ap (λ (k : ℕ). take k word) c.available.ensures ∙ take_min (min c.args.m 97) word in
    let passed : length (take c.available.result word) ≤ c.loop-index.index = omega arith in
    weighing_all c.loop-index.invariant passed c.args.target (omega (arith, ints)) ∙ ap (weights_of c.args.target) first
