-- `answers::text::Writer::signed_decimal` meets its contract: the sign, then the size.
-- Assumes nothing.
use Rattle.std.proofs.Common.{ap, w16, of_z}
use Rattle.std.proofs.lemmas.Int.{to_z-of_z}
use Rattle.answers.proofs.Writing.{minus_written, plus_written}
use Rattle.answers.proofs.text.Writer.signed_decimal.Goals as goal
use Rattle.answers.proofs.text.Writer.signed_decimal.Goals.{then-z-lt0, else-z-lt0}

pub returns-clause-text : goal.returns-clause-text
returns-clause-text c =
    let z = c.args.z in
    let same = to_z-of_z w16 z c.ranges.z in
    let number = rw (c.from-size.ensures, c.unsigned_abs.ensures.value, same) at c.decimal-2.ensures.text in
    elim c.if-z-lt0.branch [
      | then-z-lt0 w ↦ minus_written z w.byte-is (rw same at w.if-z-lt0.true) c.byte.ensures number
      | else-z-lt0 w ↦
          plus_written z w.byte-is (λ e. c.if-z-eq0.false (ap (of_z w16) e)) (rw same at w.if-z-lt0.false) c.byte.ensures number
    ]
