-- `encoder::balance::balanced` meets its contract: the choices of both editions shift the integral, the choice is the line rule's, and its
-- shift gives its word.
-- Assumes nothing.
use mathlib.Core.Path.{◌≡◌, sym, ap, ◌∙◌}
use mathlib.Core.List.{List}
use Prim.Native.Nat.{ℕ}
use lib.ListN.{take, drop}
use borrow.Author.Rules.{rules}
use Rattle.code_theory.specs.Balance.{integrate, with_zero}
use Rattle.code_theory.specs.Walk.{walked, unwalked}
use Rattle.code_theory.proofs.Walk.{walked_zero_first}
use Rattle.profiles.specs.Row.{parameters}
use Rattle.encoder.proofs.Raising.{raised_is}
use Rattle.encoder.proofs.Complementing.{take_unwalked}
use Rattle.encoder.proofs.balance.balanced.Goals as goal
use Rattle.encoder.proofs.balance.balanced.Goals.{Start}

-- the symbols that are balanced
abbrev word : Start → List ℕ
word c = take c.args.row.balanced c.args.x.now

-- with the zero where the edition has it
abbrev zeroPut : Start → List ℕ
zeroPut c = with_zero (parameters c.args.row) (drop 1 (word c))

walks : (c : Start) → walked (parameters c.args.row) (zeroPut c) ≡ integrate c.args.row.q 0 (word c)
walks c =
    walked_zero_first (parameters c.args.row) c.requires.2.some (drop 1 (word c)) c.requires.3.sum
    ∙ ap (integrate c.args.row.q 0) (sym c.requires.3.zero)

pub choose-choice-requires : goal.choose-choice-requires
choose-choice-requires c =
    let a = (goal.at.choose-choice-requires c).Start in
    let integral = c.integrated-symbols.ensures in
    record { of = zeroPut a; is = integral.0 ∙ sym (walks a) }

pub returns : goal.returns
returns c =
    let a = (goal.at.returns c).Start in
    let integral = c.integrated-symbols.ensures in
    let p = parameters c.args.row in
    let m = c.args.row.balanced in
    let shifted = raised_is m integral.1 c.requires.2.room c.raised-w.ensures (search rules) in
    ap (take m) c.word_of_shift.ensures
    ∙ take_unwalked p m c.raised-w.result
    ∙ ap (unwalked p) shifted
    ∙ c.choose-choice.ensures.word (zeroPut a) (integral.0 ∙ sym (walks a))
