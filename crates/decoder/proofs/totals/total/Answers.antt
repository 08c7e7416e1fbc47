-- `decoder::totals::total` meets its contract: each sum is that of its definition.
-- Assumes nothing.
use mathlib.Core.Path.{refl}
use mathlib.Core.Bool.{true, false}
use Prim.Native.Nat.{◌+◌}
use lib.ListN.{get_or}
use mir.Syntax.{w32}
use Rattle.modular.proofs.Signed.{fits_within, value, read}
use Rattle.decoder.specs.declared.totals.Totals.{Totals}
use Rattle.decoder.proofs.Totalling.{excess_is, excess_light, asked_are, rows_of_part, totals_are, totalled}
use Rattle.decoder.proofs.totals.total.Goals as goal

pub returns : goal.returns
returns c =
    let (is, held, table) = c.requires in
    let u = c.args.word.now in
    let m = c.args.row.balanced in
    let k = c.weigh-weight in
    let s : Totals =
    record {
      excess = k.result.excess;
      lack = c.negative.result;
      asked = c.checks_of.result;
      arrived = record { alpha = get_or u m 0; beta = get_or u (m + 1) 0 };
      syndromes = c.syndromes_of.result;
    } in
    let e = excess_is is held k.ensures in
    let g = asked_are is held k.ensures c.checks_of.ensures in
    let f = rows_of_part is held table true c.syndromes_of.ensures.0 in
    let h = rows_of_part is held table false c.syndromes_of.ensures.1 in
    let light = excess_light is held k.ensures in
    let back = read (value {w = w32} {z = k.result.excess} (fits_within 1358 tt light)) in
    rw back (totalled is held s e g (rw back at c.negative.ensures) f.0 h.0, totals_are is held s e g refl refl f.1 h.1)
