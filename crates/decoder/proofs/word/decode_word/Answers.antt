-- `decoder::word::decode_word` meets its contract: the word's sums are those of the definition, and decide whether it is balanced.
-- Assumes nothing.
use mathlib.Core.Path.{sym, ap}
use mathlib.Core.List.{List}
use Prim.Native.Nat.{ℕ}
use mir.Syntax.{w32}
use mir.Val.{of_z}
use Rattle.modular.proofs.Signed.{Holds, fits_within, value, zero_read, other_read}
use Rattle.profiles.specs.declared.row.Row.{Row}
use Rattle.decoder.specs.declared.totals.Totals.{Totals}
use Rattle.decoder.specs.Totals.{SummedWord}
use Rattle.decoder.specs.Method.{answer_by}
use Rattle.decoder.proofs.Differencing.{zero_array}
use Rattle.decoder.proofs.Totalling.{row_columns}
use Rattle.decoder.proofs.Answering.{answers_as, answers_read}
use Rattle.decoder.proofs.Admitting.{balanced_answer, unbalanced_answer}
use Rattle.decoder.proofs.word.decode_word.Goals as goal

-- the excess, as its bits are tested
excess : {t : Row} {word x : List ℕ} {s : Totals} → SummedWord t word x s → Holds w32 (of_z w32 s.excess) s.excess
excess summed = value (fits_within 1358 tt summed.totalled.light)

pub sums_of-s-requires : goal.sums_of-s-requires
sums_of-s-requires g c =
    let word = c.requires.0 in
    (word, row_columns word.valid c.columns-matrix.ensures, zero_array word.valid)

pub decode_unbalanced-requires : goal.decode_unbalanced-requires
decode_unbalanced-requires g c =
    let word = c.requires.0 in (
      word,
      row_columns word.valid c.columns-matrix.ensures,
      c.sums_of-s.ensures.totalled,
      c.sums_of-s.ensures.held,
      c.requires.1,
      other_read (excess c.sums_of-s.ensures) c.if-s-ne0.true,
      c.requires.2,
    )

pub returns-then-s-ne0 : goal.returns-then-s-ne0
returns-then-s-ne0 g c =
    let answer = unbalanced_answer _ c.args.word.now c.sums_of-s.result c.sums_of-s.ensures.are
    (other_read (excess c.sums_of-s.ensures) c.if-s-ne0.true) in
    answers_as (ap (answer_by g.M.Method.count) answer) c.decode_unbalanced.ensures

pub returns : goal.returns
returns g c =
    let answer = balanced_answer _ c.args.word.now c.sums_of-s.result c.sums_of-s.ensures.are
    (zero_read (excess c.sums_of-s.ensures) c.if-s-ne0.false) in
    answers_as (ap (answer_by g.M.Method.count) answer)
    (answers_read (c.decode_balanced.ensures.to c.args.word.now c.sums_of-s.ensures.held.parts) (sym g.met.M.Method.none))
