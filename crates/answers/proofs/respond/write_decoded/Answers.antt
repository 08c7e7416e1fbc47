-- `answers::respond::write_decoded` meets its contract: an arm for each case of the report.
-- Assumes nothing.
use Rattle.std.proofs.Common.{◌≡◌, ◌≤◌, ℤ, nat_abs, w16, to_z, of_z, rules}
use Rattle.modular.proofs.Signed.{fits_within, value, read}
use Rattle.answers.proofs.Answers.{shown_refused}
use Rattle.answers.proofs.respond.write_decoded.Goals as goal

-- what is read from the field of a correction's error
error_read : (z : ℤ) → nat_abs z ≤ 9 → to_z w16 (of_z w16 z) ≡ z
error_read z h = read {w = w16} (value {w = w16} (fits_within 9 tt h))

pub reading_line-requires : goal.reading_line-requires
reading_line-requires c =
    let sizes = c.requires.profile_bound in
    let e = c.fields-kind.ensures in
    let ((changes, error), first, second) = rw c.in-Ok.is at c.requires.small in
    record {
      small = (sizes.0, rw e.changes changes, rw (e.error, error_read _ error) error);
      words = search rules;
      room = c.requires.room;
    }

pub returns-in-Ok : goal.returns-in-Ok
returns-in-Ok c =
    let e = c.fields-kind.ensures in
    let ((changes, error), first, second) = rw c.in-Ok.is at c.requires.small in
    rw c.in-Ok.is (rw (e.kind, e.changes, e.error, error_read _ error) at c.reading_line.ensures)

pub returns-in-Err : goal.returns-in-Err
returns-in-Err c =
    let r = c.in-Err.refusal in
    rw c.in-Err.is (rw (shown_refused c.args.profile r c.args.first.now c.args.second.now) at c.refusal_line.ensures)
