-- `converter::convert` meets its contract: 12, 1 and an output of another length are refused first, and what they let through is rewritten
-- by way of two arrays of k symbols.
-- Assumes nothing.
use mathlib.Core.Path.{sym, subst, ◌∙◌}
use native.Mathlib.Omega.{arith}
use lib.Dec.{T}
use lib.Seq.{length-take-le}
use Rattle.std.proofs.lemmas.Result.{err_from_is_err_and}
use Rattle.code_theory.specs.Parameters.{is_edition, edition_of}
use Rattle.profiles.specs.Row.{RowOf}
use Rattle.profiles.proofs.Editions.{edition_known, edition_is_lem, edition_none}
use Rattle.profiles.proofs.Table.{row_found, none_found, message_is, message_short, codeword_is}
use Rattle.encoder.proofs.Refusing.{none_refused}
use Rattle.converter.proofs.Rewriting.{no_edition_lem, no_profile, other_length}
use Rattle.converter.proofs.convert.Goals as goal
use Rattle.converter.proofs.convert.Goals.{In_ok-row, In_ok-known}

-- the edition is known
is_edition_lem : (c : In_ok-known) → T (is_edition c.args.edition)
is_edition_lem c = subst T (sym (edition_known _ c.edition_of.ensures c.in_ok-known.ensures.ok_part)) tt

known : (c : In_ok-row) → T (is_edition c.args.edition)
known c = is_edition_lem (goal.at.In_ok-row c).In_ok-known

-- the row is the profile's
of : (c : In_ok-row) → RowOf (edition_of c.args.edition) c.args.profile c.in_ok-row.row
of c =
    rw (← edition_is_lem _ c.edition_of.ensures c.in_ok-known.ensures.ok_part)
    (row_found _ _ c.row_in.ensures c.in_ok-row.ensures.ok_part)

pub returns-in_err-known : goal.returns-in_err-known
returns-in_err-known c =
    let none = c.in_err-known.ensures.ok_part in
    let p = err_from_is_err_and c.from_residual.result c.from_residual.ensures.1 in
    rw (p.1, p.2, none_refused none c.in_err-known.ensures.value)
    (no_edition_lem _ _ _ _ (edition_none _ c.edition_of.ensures none))

pub returns-in_err-row : goal.returns-in_err-row
returns-in_err-row c =
    let none = c.in_err-row.ensures.ok_part in
    let p = err_from_is_err_and c.from_residual-in_err-row.result c.from_residual-in_err-row.ensures.1 in
    rw (p.1, p.2, none_refused none c.in_err-row.ensures.value)
    (no_profile _ _ _ _ (is_edition_lem (goal.at.returns-in_err-row c).In_ok-known) (none_found _ _ c.row_in.ensures none))

pub returns-then-out-row : goal.returns-then-out-row
returns-then-out-row c =
    let found = (goal.at.returns-then-out-row c).In_ok-row in
    other_length _ _ _ _ (known found) (of found).known (λ e. omega (arith, c.if-out-row.true, e, codeword_is (of found)))

pub slice_bounds-first-end : goal.slice_bounds-first-end
slice_bounds-first-end c = message_short (of (goal.at.slice_bounds-first-end c).In_ok-row)

pub slice_bounds-rewrite-end : goal.slice_bounds-rewrite-end
slice_bounds-rewrite-end c = sym (length-take-le _ _ (message_short (of (goal.at.slice_bounds-rewrite-end c).In_ok-row)))

pub slice_bounds-second-end : goal.slice_bounds-second-end
slice_bounds-second-end c = message_short (of (goal.at.slice_bounds-second-end c).In_ok-row)

pub slice_bounds-rewrite-end-2 : goal.slice_bounds-rewrite-end-2
slice_bounds-rewrite-end-2 c = sym (length-take-le _ _ (message_short (of (goal.at.slice_bounds-rewrite-end-2 c).In_ok-row)))

pub rewrite-requires : goal.rewrite-requires
rewrite-requires c =
    let found = (goal.at.rewrite-requires c).In_ok-row in
    let long = length-take-le _ _ (message_short (of found)) ∙ message_is (of found) in
    record {
      edition = known found;
      known = (of found).known;
      first_long = long;
      second_long = long;
      out_long = omega (arith, c.if-out-row.false, codeword_is (of found));
    }
