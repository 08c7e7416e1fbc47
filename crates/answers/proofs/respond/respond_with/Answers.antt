-- `answers::respond::respond_with` meets its contract: what decoding reports and leaves is what the definition prints, and small enough for
-- the line.
-- Assumes nothing.
use Rattle.std.proofs.Common.{arith}
use Rattle.answers.proofs.Answers.{small_shown, shown_answer}
use Rattle.answers.proofs.respond.respond_with.Goals as goal

pub write_decoded-requires : goal.write_decoded-requires
write_decoded-requires c =
    let small = c.requires.profile_bound in
    let a = c.args in
    let e = c.syndrome_decode-decoded.ensures in
    let auto = c.syndrome_decode-decoded.auto in
    record {
      profile_bound = (
        small.0,
        omega (arith, auto.first, small.1, c.requires.first_len),
        omega (arith, auto.second, small.1, c.requires.second_len),
      );
      small = small_shown a.profile a.word.now a.first.now a.second.now _ _ _ e.answer e.first_out e.second_out;
      room = c.requires.room;
    }

pub returns : goal.returns
returns c =
    let a = c.args in
    let e = c.syndrome_decode-decoded.ensures in
    let shown =
    shown_answer a.profile a.word.now a.first.now a.second.now _ _ _ e.answer e.first_out e.second_out
    c.requires.first_len c.requires.second_len in
    rw shown at c.write_decoded.ensures
