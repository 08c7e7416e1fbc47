-- `admit` meets its contract, test by test.
-- Assumes nothing.
use mathlib.Core.Path.{◌≡◌, sym, ap, ◌∙◌}
use mathlib.Core.List.{[], ◌∷◌}
use lib.Dec.{eqb}
use lib.ListN.{length}
use borrow.Author.Tests.{ne_eqb}
use Rattle.modular_theory.proofs.Search.{eq_test, holds}
use Rattle.refusals.specs.declared.Refusal.TheVariants.{Profile}
use Rattle.refusals.specs.Number.{number_of}
use Rattle.code_theory.specs.Refusal.{Test, asks}
use Rattle.code_theory.proofs.Refusal.{AllPass, past, stops}
use Rattle.code_theory.specs.Parameters.{edition13, codeword_length}
use Rattle.code_theory.specs.Component.{is_received}
use Rattle.code_theory.specs.Profiles.{is_profile, profile}
use Rattle.profiles.specs.Row.{RowOf}
use Rattle.profiles.proofs.Table.{row_found, none_found, codeword_is}
use Rattle.queue_theory.specs.Sound.{is_box}
use Rattle.queue_theory.specs.Operations.{record_tests}
use Rattle.soundness.proofs.Rows.{received_is}
use Rattle.queue.proofs.Told.{handed_on, none_of}
use Rattle.queue.proofs.admit.admit.Goals as goal
use Rattle.queue.proofs.admit.admit.Goals.{After-is_received, Else-not-boxno, Else-word-row, In_ok-row, Start}

-- the row is the profile's
of : (c : In_ok-row) → RowOf edition13 c.args.profile c.in_ok-row.row
of c = row_found _ _ c.row_of.ensures c.in_ok-row.ensures.ok_part

-- the tests of the record, in their order
abbrev box_test : Start → Test
box_test a = asks (is_box a.args.boxno) 7

abbrev profile_test : Start → Test
profile_test a = asks (is_profile a.args.profile) 1

abbrev length_test : Start → Test
length_test a = asks (eqb (length a.args.word.now) (codeword_length (profile a.args.profile))) 2

abbrev symbols_test : Start → Test
symbols_test a = asks (is_received (profile a.args.profile) a.args.word.now) 3

symbols_is : (c : After-is_received) → c.is_received.result ≡ (symbols_test (goal.at.After-is_received c).Start).passes
symbols_is c = c.is_received.ensures ∙ received_is (of (goal.at.After-is_received c).In_ok-row) c.args.word.now

-- and what passes, one by one
box_passes : (c : Else-not-boxno) → AllPass (box_test (goal.at.Else-not-boxno c).Start ∷ [])
box_passes c = (holds (is_box c.args.boxno) c.if-not-boxno.false, tt)

profile_passes : (c : In_ok-row) → let a = (goal.at.In_ok-row c).Start in AllPass (box_test a ∷ profile_test a ∷ [])
profile_passes c = ((box_passes (goal.at.In_ok-row c).Else-not-boxno).0, ((of c).known, tt))

length_passes : (c : Else-word-row)
    → let a = (goal.at.Else-word-row c).Start in
    AllPass (box_test a ∷ profile_test a ∷ length_test a ∷ [])
length_passes c =
    let f = (goal.at.Else-word-row c).In_ok-row in
    let (box, (profile, none)) = profile_passes f in
    (box, (profile, (eq_test (c.if-word-row.false ∙ codeword_is (of f)), tt)))

pub returns-in_err-row : goal.returns-in_err-row
returns-in_err-row c =
    let p = goal.at.returns-in_err-row c in
    let a = p.Start in
    let (none, is) = none_of c.row_of.result Profile _ (sym c.ok_or.ensures.value ∙ c.in_err-row.was) in
    handed_on _ _ c.from_residual.ensures.1
    ∙ ap number_of is
    ∙ sym
    (stops (box_test a ∷ []) (profile_test a) (length_test a ∷ symbols_test a ∷ []) (box_passes p.Else-not-boxno)
    (none_found _ _ c.row_of.ensures none))

pub returns-then-word-row : goal.returns-then-word-row
returns-then-word-row c =
    let p = goal.at.returns-then-word-row c in
    let a = p.Start in
    sym
    (stops (box_test a ∷ profile_test a ∷ []) (length_test a) (symbols_test a ∷ []) (profile_passes p.In_ok-row)
    (ne_eqb _ _ (λ e. c.if-word-row.true (e ∙ sym (codeword_is (of p.In_ok-row))))))

pub returns-then-not-is_received : goal.returns-then-not-is_received
returns-then-not-is_received c =
    let p = goal.at.returns-then-not-is_received c in
    let a = p.Start in
    sym
    (stops (box_test a ∷ profile_test a ∷ length_test a ∷ []) (symbols_test a) [] (length_passes p.Else-word-row)
    (sym (symbols_is p.After-is_received) ∙ c.if-not-is_received.true))

pub returns : goal.returns
returns c =
    let p = goal.at.returns c in
    let a = p.Start in
    let (box, (profile, (long, none))) = length_passes p.Else-word-row in
    let symbols = holds (symbols_test a).passes (sym (symbols_is p.After-is_received) ∙ c.if-not-is_received.false) in
    sym (past (record_tests a.args.boxno a.args.profile a.args.word.now) [] (box, (profile, (long, (symbols, tt)))))
