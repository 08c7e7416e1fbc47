-- `decoder::word::decode_by` meets its contract: of a word that no refusal keeps out, the theorems of crate decoding_theory say that what its
-- sums lead to is the reading.
-- Assumes nothing.
use mathlib.Core.Path.{refl}
use native.Mathlib.Omega.{arith}
use Rattle.decoder.proofs.Locating.{row_own}
use Rattle.decoder.proofs.Answering.{answers_as, answers_read}
use Rattle.decoder.proofs.Admitting.{whole_known, word_known, outputs_known, decoded_answer}
use Rattle.decoder.proofs.Admitting.{one_known, two_known, erased_known, filled_answer}
use Rattle.decoder.proofs.word.decode_by.Goals as goal

pub decode_word-requires : goal.decode_word-requires
decode_word-requires g c =
    let m = c.in-Ok in
    let known = whole_known _ _ _ _ _ m.admitted.1 m.ensures g.M.Method.count c.in-Whole.is in (
      word_known _ _ _ _ _ m.admitted.1 m.ensures g.M.Method.count c.in-Whole.is,
      outputs_known _ _ _ _ _ m.admitted.1 m.ensures g.M.Method.count known,
      row_own m.ensures.1,
    )

pub returns-in-Whole : goal.returns-in-Whole
returns-in-Whole g c =
    let m = c.in-Ok in
    answers_as (decoded_answer _ _ _ _ _ m.admitted.1 m.ensures g.M.Method.count c.in-Whole.is) c.decode_word.ensures

pub decode_one-answer-requires : goal.decode_one-answer-requires
decode_one-answer-requires g c =
    let m = c.in-Ok in
    let (known, erased) = one_known _ _ _ _ _ m.admitted.1 m.ensures g.M.Method.count c.in-One.is in (
      erased_known _ _ _ _ _ m.admitted.1 m.ensures g.M.Method.count known erased (omega arith),
      outputs_known _ _ _ _ _ m.admitted.1 m.ensures g.M.Method.count known,
    )

pub decode_two-answer-requires : goal.decode_two-answer-requires
decode_two-answer-requires g c =
    let m = c.in-Ok in
    let (known, erased) = two_known _ _ _ _ _ m.admitted.1 m.ensures g.M.Method.count c.in-Two.is in (
      erased_known _ _ _ _ _ m.admitted.1 m.ensures g.M.Method.count known erased (omega arith),
      outputs_known _ _ _ _ _ m.admitted.1 m.ensures g.M.Method.count known,
    )

pub returns-in-One : goal.returns-in-One
returns-in-One g c =
    let m = c.in-Ok in
    let (known, erased) = one_known _ _ _ _ _ m.admitted.1 m.ensures g.M.Method.count c.in-One.is in
    answers_as (filled_answer _ _ _ _ _ m.admitted.1 m.ensures g.M.Method.count known erased (omega arith) g.met.M.Method.none)
    (answers_read c.decode_one-answer.ensures refl)

pub returns-in-Two : goal.returns-in-Two
returns-in-Two g c =
    let m = c.in-Ok in
    let (known, erased) = two_known _ _ _ _ _ m.admitted.1 m.ensures g.M.Method.count c.in-Two.is in
    answers_as (filled_answer _ _ _ _ _ m.admitted.1 m.ensures g.M.Method.count known erased (omega arith) g.met.M.Method.none)
    (answers_read c.decode_two-answer.ensures refl)
