-- `decoder::erased::erased_at` meets its contract: an index is α's, β's, or one of the body, of the parity that it has.
-- Assumes nothing.
use mathlib.Core.Logic.{◌≢◌}
use mathlib.Core.Bool.{true, false}
use Prim.Native.Nat.{◌≤◌, ◌<◌}
use native.Mathlib.Omega.{arith}
use mathlib.Core.Path.{sym, ap, ◌∙◌}
use Rattle.decoder.specs.Parity.{is_odd}
use Rattle.decoder.proofs.Erasing.{here_alpha, here_beta, here_body}
use Rattle.decoder.proofs.erased.erased_at.Goals as goal
use Rattle.decoder.proofs.erased.erased_at.Goals.{Else-row-i, Start}

-- the start, where the index is of the body
abbrev start : Else-row-i → Start
start c = (goal.at.Else-row-i c).Start

within : (c : Else-row-i) → (start c).args.i < (start c).args.row.balanced
within c =
    let other : (start c).args.i ≢ (start c).args.row.balanced = c.if-i-row.false in
    let upto : (start c).args.i ≤ (start c).args.row.balanced = c.if-row-i.false in
    omega arith

pub returns-then-i-row : goal.returns-then-i-row
returns-then-i-row c = here_alpha _ c.requires.0 _ c.if-i-row.true

pub returns-then-row-i : goal.returns-then-row-i
returns-then-row-i c = here_beta _ c.requires.0 _ c.if-row-i.true

pub one_more-adds-requires : goal.one_more-adds-requires
one_more-adds-requires c = ((start (goal.at.one_more-adds-requires c).Else-row-i).requires.0, (start (goal.at.one_more-adds-requires c).Else-row-i).requires.1, within (goal.at.one_more-adds-requires c).Else-row-i)

pub returns-in-Odd : goal.returns-in-Odd
returns-in-Odd c =
    let start = (goal.at.returns-in-Odd c).Else-row-i in
    here_body _ c.requires.0 _ _ true (within start) (sym c.of.ensures ∙ ap is_odd c.in-Odd.is) c.one_more-adds.ensures

pub returns-in-Even : goal.returns-in-Even
returns-in-Even c =
    let start = (goal.at.returns-in-Even c).Else-row-i in
    here_body _ c.requires.0 _ _ false (within start) (sym c.of.ensures ∙ ap is_odd c.in-Even.is) c.one_more-adds.ensures
