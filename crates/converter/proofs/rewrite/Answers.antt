-- `converter::rewrite` meets its contract: a word that decoding does not find clean is refused by what keeps it, and of a clean one encoding
-- writes the messages in the other edition.
-- Assumes nothing.
use mathlib.Core.Path.{sym}
use Rattle.std.proofs.lemmas.Result.{err_from_is_err_and}
use Rattle.converter.proofs.Rewriting.{refuses, writes}
use Rattle.converter.proofs.rewrite.Goals as goal

pub returns-in_err-doubt_of : goal.returns-in_err-doubt_of
returns-in_err-doubt_of c =
    let p = err_from_is_err_and c.from_residual.result c.from_residual.ensures.1 in
    rw (p.1, p.2) (refuses _ _ _ _ c.decode-read.ensures c.requires c.in_err-doubt_of.ensures)

pub returns : goal.returns
returns c =
    let answer = rw c.other_edition.ensures at c.encode.ensures in
    writes _ _ _ _ c.decode-read.ensures c.requires (sym (c.in_ok-doubt_of.ensures)) answer
