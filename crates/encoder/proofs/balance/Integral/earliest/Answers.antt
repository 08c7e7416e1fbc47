-- `encoder::balance::Integral::earliest` meets its contract. The invariants: no choice with a smaller s balances, and none with this s's shift and a
-- smaller v; the excess is that of the choice tried. A balancing choice exists, so some s below q has it.
-- Assumes nothing.
use mathlib.Core.Path.{◌≡◌, sym, ap, ap₂, ◌∙◌}
use mathlib.Core.List.{List}
use Prim.Native.Nat.{ℕ, suc, ◌-◌, ◌≤◌, ◌<◌}
use native.Mathlib.Nat.{min-eq_left}
use native.Mathlib.Omega.{arith}
use lib.IntN.{pos, ◌-ℤ◌}
use lib.ListN.{length, get_or, take, set, replicate}
use lib.Seq.{get_or-take}
use mir.Syntax.{w32}
use mir.Val.{SFits, to_z, of_z}
use mir.Facts.{of_z-to_z, to_z-of_z}
use mathlib.Core.Logic.{◌≢◌}
use borrow.Author.Rules.{rules}
use Rattle.modular_theory.specs.Sum.{weight}
use Rattle.code_theory.specs.Parameters.{balancing_value}
use Rattle.code_theory.proofs.Walk.{shift_below}
use Rattle.modular.proofs.Signed.{read, asked, held}
use Rattle.profiles.specs.Row.{parameters}
use Rattle.symbols.specs.declared.weight.Weight.{Weight}
use Rattle.encoder.proofs.Raising.{raised_is}
use Rattle.encoder.proofs.Stepping.{weight_next, weight_small, excess_at, Stepping}
use Rattle.encoder.proofs.Stepping.{excess_gained, excess_next}
use Rattle.encoder.proofs.Searching.{trying_first, trying_next, trying_all, row_size, s_left}
use Rattle.encoder.proofs.Searching.{all_found}
use Rattle.encoder.proofs.balance.Integral.earliest.Goals as goal
use Rattle.encoder.proofs.balance.Integral.earliest.Goals.{After-shift_of-shift, After-weigh-excess, After-from-in-loop-v-2, Start}

-- the symbols that are raised
abbrev word : Start → List ℕ
word c = take c.args.self.now.row.balanced c.args.self.now.symbols

size : (c : Start) → length (word c) ≡ c.args.self.now.row.balanced
size c = row_size c.args.self.now.row c.args.self.now.valid c.args.self.now.symbols c.args.self.now.levels.size

target : (c : Start) → c.args.self.now.row.target ≡ balancing_value c.args.self.now.row.q (length (word c))
target c = c.args.self.now.valid.target ∙ ap (balancing_value c.args.self.now.row.q) (sym (size c))

room : (c : Start) → c.args.self.now.row.balanced ≤ 97
room c = omega (arith, c.args.self.now.valid.balanced, c.args.self.now.valid.length)

-- the shift of an s
shift_small : (c : After-shift_of-shift) → c.shift_of-shift.result < c.args.self.now.row.q
shift_small c = rw c.shift_of-shift.ensures (shift_below (parameters c.args.self.now.row) c.args.self.now.levels.some c.loop-s.s c.loop-s-test.true)

-- the symbol at v
module _ (c : After-from-in-loop-v-2) where
  abbrev start : Start
  start = (goal.at.After-from-in-loop-v-2 c).Start

  abbrev q : ℕ
  q = c.args.self.now.row.q

  abbrev t : ℕ
  t = c.shift_of-shift.result

  abbrev i : ℕ
  i = c.loop-v.v - 1

  inside : i < c.args.self.now.row.balanced
  inside = omega (arith, c.loop-v.invariant.from, c.loop-v-test.true)

  is-symbol : get_or (word start) i 0 ≡ get_or c.args.self.now.symbols i 0
  is-symbol = get_or-take c.args.self.now.row.balanced c.args.self.now.symbols i 0 inside

  symbol : get_or (word start) i 0 < q
  symbol = rw is-symbol (c.args.self.now.levels.below i (omega (arith, inside, room start)))

  -- the excess, and what the weight gains there
  stepping : Stepping q (word start) t i c.loop-v.excess-bits (of_z w32 c.from-in-loop-v-2.result)
  stepping =
      let levels = c.args.self.now.levels.levels in
      record {
        is = c.loop-v.invariant.is;
        gained =
            weight_next q t (word start) i levels (shift_small (goal.at.After-from-in-loop-v-2 c).After-shift_of-shift) (rw (size start) inside) symbol
            (ap (of_z w32) c.from-in-loop-v-2.ensures
            ∙ ap₂ (λ (j y : ℕ). get_or (set (replicate 16 0) j q) y 0) c.from.ensures (c.from-in-loop-v.ensures ∙ sym is-symbol));
        small = weight_small q c.args.self.now.levels.some (word start) t (suc i) levels (rw (size start) (room start));
        narrow = omega (arith, target start);
      }

pub overflow_sub-row-in-loop-s : goal.overflow_sub-row-in-loop-s
overflow_sub-row-in-loop-s c = omega (arith, shift_small (goal.at.overflow_sub-row-in-loop-s c).After-shift_of-shift)

pub raised-w-requires : goal.raised-w-requires
raised-w-requires c = shift_small (goal.at.raised-w-requires c).After-shift_of-shift

-- the word of the choice s, 1 is weighed
first : (c : After-weigh-excess) →
    c.weigh-excess.result.excess ≡ excess_at c.args.self.now.row.q (word (goal.at.After-weigh-excess c).Start) c.shift_of-shift.result 0
first c =
    let start = (goal.at.After-weigh-excess c).Start in
    let w : List ℕ = c.raised-w.result in
    let long : length w ≡ 97 = search rules in
    let word_is = raised_is c.args.self.now.row.balanced c.args.self.now.levels (room start) c.raised-w.ensures long in
    let is = ap (λ (k : ℕ). take k w) (min-eq_left (room start)) ∙ word_is in
    ap (λ (r : Weight). r.excess) c.weigh-excess.ensures ∙ ap₂ (λ (l : List ℕ) (g : ℕ). pos (weight l) -ℤ pos g) is (target start)

pub loop-v-init : goal.loop-v-init
loop-v-init c =
    let fits : SFits w32 c.weigh-excess.result.excess = search rules in
    trying_first (omega (arith, size (goal.at.loop-v-init c).Start, c.args.self.now.valid.balanced))
    (to_z-of_z fits ∙ first (goal.at.loop-v-init c).After-weigh-excess)

pub overflow_add-excess : goal.overflow_add-excess
overflow_add-excess c = asked (excess_gained (stepping (goal.at.overflow_add-excess c).After-from-in-loop-v-2))

pub overflow_sub-excess : goal.overflow_sub-excess
overflow_sub-excess c = asked (excess_next (stepping (goal.at.overflow_sub-excess c).After-from-in-loop-v-2))

pub loop-v-preserved : goal.loop-v-preserved
loop-v-preserved c =
    let start = (goal.at.loop-v-preserved c).Start in
    let inside : c.loop-v.v ≤ length (word start) = omega (arith, size start, c.loop-v-test.true) in
    let other : to_z w32 c.loop-v.excess-bits ≢ pos 0 =
    λ e. c.if-excess-eq0.false (sym (of_z-to_z c.loop-v.auto.excess-fits) ∙ ap (of_z w32) e) in
    trying_next c.loop-v.invariant inside other (read (held (excess_next (stepping (goal.at.loop-v-preserved c).After-from-in-loop-v-2))))

pub loop-s-preserved : goal.loop-s-preserved
loop-s-preserved c =
    trying_all c.loop-v.invariant c.shift_of-shift.ensures
    (omega (arith, size (goal.at.loop-s-preserved c).Start, c.loop-v-test.false)) c.loop-s.invariant

pub unreachable-requires : goal.unreachable-requires
unreachable-requires c =
    let left = s_left c.args.self.now.row c.args.self.now.valid (size (goal.at.unreachable-requires c).Start) c.requires c.loop-s.invariant in
    omega (arith, left, c.loop-s-test.false)

pub returns-then-excess-eq0 : goal.returns-then-excess-eq0
returns-then-excess-eq0 c =
    let start = (goal.at.returns-then-excess-eq0 c).Start in
    all_found c.args.self.now.row c.args.self.now.valid (size start) c.requires c.loop-s.invariant
    c.shift_of-shift.ensures c.loop-v.invariant (omega (arith, size start, c.loop-v-test.true))
    (ap (to_z w32) c.if-excess-eq0.true)
