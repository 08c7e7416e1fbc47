-- `answers::text::Writer::word` meets its contract: after i turns the digits of the first i symbols are written.
-- Assumes nothing.
use Rattle.std.proofs.Common.{refl, arith}
use Rattle.answers.proofs.Writing.{◌followed_by◌, filled_length, digit_put, filled_all}
use Rattle.answers.proofs.text.Writer.word.Goals as goal

pub loop-i-preserved : goal.loop-i-preserved
loop-i-preserved c =
    let inv = c.loop-i.invariant in
    record {
      within = omega arith;
      still = inv.still;
      same = inv.same;
      text = digit_put _ _ _ _ _ _ inv.still c.loop-i-test.true (omega (arith, filled_length inv, c.requires.0)) inv.text;
    }

pub returns : goal.returns
returns c = filled_all c.loop-i.invariant c.loop-i-test.false refl refl refl followed_by c.byte.ensures
