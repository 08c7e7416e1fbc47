-- `decoder::message::write_pair` meets its contract: two near syndromes are near each, and restoring one component leaves the other.
-- Assumes nothing.
use native.Mathlib.Omega.{arith}
use Rattle.decoding_theory.proofs.Components.{near_parts}
use Rattle.decoder.proofs.Restoring.{written_by}
use Rattle.decoder.proofs.message.write_pair.Goals as goal

pub restore-requires : goal.restore-requires
restore-requires c =
    let (body, near, outputs) = c.requires in
    (body, near.first_rows, (near_parts _ _ _ near.near).0, omega arith)

pub restore-requires-2 : goal.restore-requires-2
restore-requires-2 c =
    let (body, near, outputs) = c.requires in
    (c.restore.ensures.levels, near.second_rows, (near_parts _ _ _ near.near).1, omega arith)

pub extract-requires : goal.extract-requires
extract-requires c =
    let outputs = c.requires.2 in
    (c.restore-2.ensures.levels, record { first_long = outputs.first_long; second_long = outputs.second_long })

pub returns : goal.returns
returns c =
    written_by c.restore.ensures c.restore-2.ensures c.extract.ensures
