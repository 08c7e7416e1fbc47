-- `modular::sum::negative` meets its contract: -e fits, and is reduced.
-- Assumes nothing.
use Rattle.std.proofs.Common.{pos, ◌-ℤ◌, neg_ℤ, ap, ◌∙◌, arith, w64, SFits}
use lib.IntN.{+ℤ_idl}
use lib.Signed.{nat_abs-le}
use mir.Facts.{sfits_widen}
use Rattle.modular.specs.Remainder.{residue_of_integer, residue_of_negative}
use Rattle.modular.proofs.Signed.{read, value, literal, difference_of_lem, difference_fits, held}
use Rattle.modular.proofs.sum.negative.Goals as goal

pub returns : goal.returns
unfolding residue_of_negative
returns c =
    let is = c.from.ensures ∙ read (value c.ranges.e) in
    let fits : SFits w64 (pos 0 -ℤ c.args.e) =
    difference_fits (pos 0) c.args.e 0 2147483648 tt (omega arith) (nat_abs-le c.args.e c.ranges.e.sfits) in
    let wide : SFits w64 c.args.e = sfits_widen tt c.ranges.e in
    rw is at c.level.ensures
    ∙ ap (residue_of_integer c.args.q) (read (held (difference_of_lem (literal (pos 0) tt) (value wide) fits)) ∙ +ℤ_idl (neg_ℤ c.args.e))
