-- `encoder::encode` meets its contract: what the steps refuse is what the definition refuses, before any byte is written; what they let
-- through is encoded, and the word fills the output.
-- Assumes nothing.
use mathlib.Core.Path.{◌≡◌, ap, ◌∙◌}
use native.Mathlib.Omega.{arith}
use lib.ListN.{length}
use mathlib.Core.Bool.{true}
use Rattle.code_theory.specs.Parameters.{is_edition, edition_of}
use Rattle.code_theory.specs.Operations.{encode_refusal}
use Rattle.profiles.specs.Row.{RowOf}
use Rattle.profiles.specs.Refusal.{encode_number}
use Rattle.std.proofs.lemmas.Result.{err_from_is_err_and}
use Rattle.refusals.specs.Number.{number_of}
use Rattle.profiles.proofs.Editions.{edition_known, edition_is_lem, edition_none}
use Rattle.profiles.proofs.Table.{row_found, none_found}
use Rattle.profiles.proofs.Refusing.{accepted, encode_edition_refused, encode_profile_refused, encode_by_row}
use Rattle.encoder.proofs.Refusing.{none_refused, refused_allows, done_allows}
use Rattle.encoder.proofs.Editions.{of_own, encoded_in}
use Rattle.encoder.proofs.encode.Goals as goal
use Rattle.encoder.proofs.encode.Goals.{In_ok-known, In_ok-row}

-- the edition is known
is-edition : (c : In_ok-known) → is_edition c.args.edition ≡ true
is-edition c = edition_known _ c.edition_of.ensures c.in_ok-known.ensures.ok_part

-- the row is the profile's
of : (c : In_ok-row) → RowOf (edition_of c.args.edition) c.args.profile c.in_ok-row.row
of c =
    rw (← edition_is_lem _ c.edition_of.ensures c.in_ok-known.ensures.ok_part)
    (row_found _ _ c.row_in.ensures c.in_ok-row.ensures.ok_part)

pub returns-in_err-known : goal.returns-in_err-known
returns-in_err-known c =
    let none = c.in_err-known.ensures.ok_part in
    let is = none_refused none c.in_err-known.ensures.value in
    let refused = ap number_of is ∙ encode_edition_refused _ _ _ _ _ _ (edition_none _ c.edition_of.ensures none) in
    let p = err_from_is_err_and c.from_residual.result c.from_residual.ensures.1 in
    rw (p.1, p.2) (refused_allows _ _ _ _ _ _ refused)

pub returns-in_err-row : goal.returns-in_err-row
returns-in_err-row c =
    let none = c.in_err-row.ensures.ok_part in
    let is = none_refused none c.in_err-row.ensures.value in
    let known = is-edition (goal.at.returns-in_err-row c).In_ok-known in
    let refused = ap number_of is ∙ encode_profile_refused _ _ _ _ _ _ known (none_found _ _ c.row_in.ensures none) in
    let p = err_from_is_err_and c.from_residual-in_err-row.result c.from_residual-in_err-row.ensures.1 in
    rw (p.1, p.2) (refused_allows _ _ _ _ _ _ refused)

-- that by the row is the definition's
by_row : (c : In_ok-row) →
    encode_number c.in_ok-row.row c.args.rule c.args.first.now c.args.second.now (length c.args.out.now)
    ≡ encode_refusal c.args.edition c.args.profile c.args.rule c.args.first.now c.args.second.now (length c.args.out.now)
by_row c = encode_by_row _ _ _ _ _ _ (is-edition (goal.at.In_ok-row c).In_ok-known) (of c)

pub returns-in_err-encode_refusal : goal.returns-in_err-encode_refusal
returns-in_err-encode_refusal c =
    let refused = c.in_err-encode_refusal.ensures ∙ by_row (goal.at.returns-in_err-encode_refusal c).In_ok-row in
    let p = err_from_is_err_and c.from_residual-in_err-encode_refusal.result c.from_residual-in_err-encode_refusal.ensures.1 in
    rw (p.1, p.2) (refused_allows _ _ _ _ _ _ refused)

pub write-requires : goal.write-requires
write-requires c =
    let row = (goal.at.write-requires c).In_ok-row in
    let none : encode_number c.in_ok-row.row c.args.rule c.args.first.now c.args.second.now (length c.args.out.now) ≡ 0 = omega arith in
    let a = accepted _ _ _ _ _ _ (is-edition (goal.at.In_ok-row row).In_ok-known) (of row) none in
    (of_own (of row), a.first, a.second, a.room)

pub returns : goal.returns
returns c =
    let row = (goal.at.returns c).In_ok-row in
    done_allows _ _ _ _ _ _ (c.in_ok-encode_refusal.ensures ∙ by_row row) (c.write.ensures ∙ encoded_in (of row) _ _ _)
