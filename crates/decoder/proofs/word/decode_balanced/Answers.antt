-- `decoder::word::decode_balanced` meets its contract: what is judged readable is written.
-- Assumes nothing.
use mathlib.Core.Bool.{true, false}
use Rattle.std.proofs.lemmas.Result.{err_from_is_err_and}
use Rattle.decoder.proofs.Answering.{messages_of, judged_none, judged_read}
use Rattle.decoder.proofs.word.decode_balanced.Goals as goal

pub returns-in_err-found : goal.returns-in_err-found
returns-in_err-found c =
    let (y, is, same) = err_from_is_err_and c.from_residual.result c.from_residual.ensures.1 in
    rw (is, same) (record { to = λ v p. judged_none _ _ c.in_err-found.ensures v _ _ })

pub returns : goal.returns
returns c =
    record { to = λ v p. judged_read _ _ c.in_ok-found.ensures v (messages_of (p true) (p false) c.write_pair.ensures) }
