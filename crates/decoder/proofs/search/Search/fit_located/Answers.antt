-- `decoder::search::Search::fit_located` meets its contract: an index that fits explains the syndromes, and at most one does, the one located.
-- Assumes nothing.
use Rattle.std.specs.Bool.{then_some}
use mathlib.Core.Bool.{Bool, true, false}
use mathlib.Core.Path.{◌≡◌, refl, sym, ◌∙◌}
use mathlib.Core.List.{List}
use Prim.Native.Nat.{ℕ, ◌-◌, ◌/◌, ◌≤◌, ◌<◌}
use native.Mathlib.Omega.{arith}
use Rattle.code_theory.specs.Parameters.{balanced_length}
use Rattle.locating_theory.specs.ErrorPosition as model
use Rattle.locating_theory.specs.ErrorPosition.{at, error_position}
use Rattle.locating_theory.proofs.Located.{fit_none_off, fit_nowhere, fit_out_of_range, fit_at}
use Rattle.locator.proofs.Answering.{row_prime}
use Rattle.decoder.specs.declared.search.Search.{Search}
use Rattle.decoder.specs.Search.{parameters_of, sums_in, parity_of}
use Rattle.decoder.specs.Locate.{FirstFit}
use Rattle.decoder.proofs.Locating.{word_levels, position_within}
use Rattle.decoder.proofs.search.Search.fit_located.Goals as goal
use Rattle.decoder.proofs.search.Search.fit_located.Goals.{In_ok-i, Start}

-- the call
module _ (start : Start) where
  abbrev x : Search
  x = start.args.self

  abbrev word : List ℕ
  word = start.args.word.now

  -- the position that the syndromes name
  abbrev position : model.Location
  position = error_position (parameters_of x) (parity_of x) x.s.excess (sums_in x).first (sums_in x).second

-- a position is named
module _ (c : In_ok-i) where
  abbrev begun : Start
  begun = (goal.at.In_ok-i c).Start

  abbrev named : ℕ
  named = c.in_ok-i.field-0

  is_at : position begun ≡ at named
  is_at = sym c.in_ok-i.ensures

  within : (1 ≤ named) × (named - 1 < balanced_length (parameters_of (x begun)))
  within = position_within (parameters_of (x begun)) _ _ _ _ named is_at

pub returns-then-not-off_by_lack : goal.returns-then-not-off_by_lack
returns-then-not-off_by_lack c = fit_none_off _ _ _ _ (sym c.off_by_lack.ensures ∙ c.if-not-off_by_lack.true)

pub returns-in_err-i : goal.returns-in_err-i
returns-in_err-i c =
    let start = (goal.at.returns-in_err-i c).Start in
    let (whole, excess, _) = c.requires in
    rw c.from_residual.ensures
    (fit_nowhere (parameters_of (x start)) (sums_in (x start)) (parity_of (x start)) (word start) excess (word_levels whole)
    (sym c.in_err-i.ensures))

pub overflow_sub-i : goal.overflow_sub-i
overflow_sub-i c = (within (goal.at.overflow_sub-i c).In_ok-i).0

pub bounds-word-i : goal.bounds-word-i
bounds-word-i c = omega (arith, (within (goal.at.bounds-word-i c).In_ok-i).1, c.requires.0.long)

pub returns : goal.returns
returns c = rw c.then_some.ensures (go c.in_range.result refl)
  where
    at : In_ok-i
    at = (goal.at.returns c).In_ok-i

    start : Start
    start = begun at

    go : (b : Bool) → c.in_range.result ≡ b → FirstFit (x start) (word start) (then_some b ((named at - 1) / 2))
    go true e =
        let by_lack = sym c.off_by_lack.ensures ∙ c.if-not-off_by_lack.false in
        fit_at (parameters_of (x start)) (sums_in (x start)) (parity_of (x start)) (word start) (named at) (is_at at) by_lack
        (sym c.in_range.ensures ∙ e)
    go false e =
        fit_out_of_range (parameters_of (x start)) (sums_in (x start)) (parity_of (x start)) (word start) (named at) (is_at at)
        (x start).valid.sized (row_prime c.requires.2) (sym c.in_range.ensures ∙ e)
