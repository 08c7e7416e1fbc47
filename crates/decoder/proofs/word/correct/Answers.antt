-- `decoder::word::correct` meets its contract: the index fits, so its symbol is a level and the moved syndromes are near.
-- Assumes nothing.
use mathlib.Core.Path.{ap}
use mathlib.Core.Bool.{true, false}
use Rattle.code_theory.specs.Reading.{Correction, corrected}
use Rattle.decoder.proofs.Answering.{read_found, messages_of}
use Rattle.decoder.proofs.Finding.{fit_level, fit_near, fit_read}
use Rattle.decoder.proofs.word.correct.Goals as goal

pub correct_components-requires : goal.correct_components-requires
correct_components-requires c =
    let (found, _, held, _) = c.requires in
    (found.is, held, fit_level found c.index-i.ensures c.balancing_symbol-y.ensures)

pub write_pair-requires : goal.write_pair-requires
write_pair-requires c =
    let (found, after, _, outputs) = c.requires in (
      c.correct_components.ensures.levels,
      record { first_rows = after.first_rows; second_rows = after.second_rows; near = fit_near found after },
      outputs,
    )

pub returns : goal.returns
returns c =
    let (found, after, _, _) = c.requires in
    let parts = c.correct_components.ensures.parts in
    read_found _ _ (fit_read found c.index-i.ensures after c.balancing_symbol-y.ensures) (messages_of (parts true) (parts false) c.write_pair.ensures)
    (ap (λ (x : Correction). corrected x) c.corrected.ensures)
