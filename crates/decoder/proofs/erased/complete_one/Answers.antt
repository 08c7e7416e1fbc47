-- `decoder::erased::complete_one` meets its contract: the symbol found is a level, and the syndromes are then near.
-- Assumes nothing.
use mathlib.Core.Path.{refl}
use mathlib.Core.Bool.{true, false}
use mathlib.Core.List.{[], ◌∷◌}
use native.Mathlib.Omega.{arith}
use Rattle.decoder.proofs.Differencing.{zero_array}
use Rattle.decoder.proofs.Answering.{read_found, messages_of}
use Rattle.decoder.proofs.Completing.{Completed, one_completed, one_read}
use Rattle.decoder.proofs.erased.complete_one.Goals as goal
use Rattle.decoder.proofs.erased.complete_one.Goals.{In_ok-filling, Start}

abbrev start : In_ok-filling → Start
start c = (goal.at.In_ok-filling c).Start

-- what is known of the symbol
known : (c : In_ok-filling)
    → Completed (start c).args.row (start c).args.word.now ((start c).args.i ∷ []) c.in_ok-filling.filling.symbols c.in_ok-filling.filling.syndromes
known c = one_completed _ _ _ c.find_one.ensures c.in_ok-filling.ensures.ok_part

pub find_one-requires : goal.find_one-requires
find_one-requires c = (c.requires.0, zero_array c.requires.0.valid, c.requires.1)

pub correct_components-requires : goal.correct_components-requires
correct_components-requires c =
    (c.requires.0, c.find_one.ensures.held, (known (goal.at.correct_components-requires c).In_ok-filling).levels 0 (omega arith))

pub write_pair-requires : goal.write_pair-requires
write_pair-requires c =
    let near = (known (goal.at.write_pair-requires c).In_ok-filling).near in
    (c.correct_components.ensures.levels, near, c.requires.2)

pub returns : goal.returns
returns c =
    let parts = c.correct_components.ensures.parts in
    read_found _ _ (one_read (known (goal.at.returns c).In_ok-filling)) (messages_of (parts true) (parts false) c.write_pair.ensures) refl
