-- `answers::form::parse` meets its contract: its tests are those of the form.
-- Assumes nothing.
use Rattle.std.proofs.Common.{◌≤◌, length, sym, ◌∙◌, arith, length-drop}
use Rattle.std.proofs.lemmas.List.{take_rest}
use Rattle.answers.proofs.Forms.{has_length, parsed_bad, bad_length, bad_profile, bad_space, bad_symbols, parsed_good}
use Rattle.answers.proofs.form.parse.Goals as goal
use Rattle.answers.proofs.form.parse.Goals.{Else-not-has_length, then-profile-gt9-via-then-profile-gt9, then-profile-gt9-via-else-profile-gt9+then-line-ne32, then-profile-gt9-via-else-profile-gt9+else-line-ne32+then-symbol_values-gt9}

long_enough : (c : Else-not-has_length) → (3 ≤ length c.args.line.now) × (length c.args.line.now ≤ 101)
long_enough c = has_length c.args.line.now (sym c.has_length.ensures ∙ c.if-not-has_length.false)

pub returns-then-not-has_length : goal.returns-then-not-has_length
returns-then-not-has_length c =
    let l = c.args.line.now in
    parsed_bad l _ (bad_length l (sym c.has_length.ensures ∙ c.if-not-has_length.true))

pub returns-then-profile-gt9 : goal.returns-then-profile-gt9
returns-then-profile-gt9 c =
    let l = c.args.line.now in
    parsed_bad l _
    (elim c.then-profile-gt9.branch [
      | then-profile-gt9-via-then-profile-gt9 w ↦ bad_profile l _ c.digit_value-profile.ensures w.if-profile-gt9.true
      | then-profile-gt9-via-else-profile-gt9+then-line-ne32 w ↦ bad_space l w.if-line-ne32.true
      | then-profile-gt9-via-else-profile-gt9+else-line-ne32+then-symbol_values-gt9 w ↦
          bad_symbols l _ _ (rw take_rest at w.symbol_values.ensures) w.if-symbol_values-gt9.true
    ])

pub symbol_values-requires : goal.symbol_values-requires
symbol_values-requires c =
    let (few, most) = long_enough (goal.at.symbol_values-requires c).Else-not-has_length in
    rw take_rest (omega (arith, most, c.requires, length-drop 2 c.args.line.now))

pub returns : goal.returns
returns c =
    let fits = sym c.has_length.ensures ∙ c.if-not-has_length.false in
    rw c.from.ensures
    (parsed_good c.args.line.now _ _ _ fits c.digit_value-profile.ensures c.if-profile-gt9.false c.if-line-ne32.false
    (rw take_rest at c.symbol_values.ensures) c.if-symbol_values-gt9.false)
