-- `decoder::erased::complete_two` meets its contract: the symbols found are levels, and the syndromes are then near.
-- Assumes nothing.
use mathlib.Core.Path.{refl}
use mathlib.Core.Bool.{true, false}
use mathlib.Core.List.{[], ◌∷◌}
use native.Mathlib.Omega.{arith}
use Rattle.decoder.proofs.Differencing.{zero_array, word_set}
use Rattle.decoder.proofs.Answering.{read_found, messages_of}
use Rattle.decoder.proofs.Completing.{Completed, two_completed, two_read}
use Rattle.decoder.proofs.erased.complete_two.Goals as goal
use Rattle.decoder.proofs.erased.complete_two.Goals.{In_ok-filling, Start}

abbrev start : In_ok-filling → Start
start c = (goal.at.In_ok-filling c).Start

-- what is known of the symbols
known : (c : In_ok-filling)
    → Completed (start c).args.row (start c).args.word.now ((start c).args.i ∷ (start c).args.j ∷ []) c.in_ok-filling.filling.symbols
    c.in_ok-filling.filling.syndromes
known c = two_completed _ _ _ _ c.find_two.ensures c.in_ok-filling.ensures.ok_part

pub find_two-requires : goal.find_two-requires
find_two-requires c = (c.requires.0, zero_array c.requires.0.valid, c.requires.1, c.requires.2)

pub correct_components-requires : goal.correct_components-requires
correct_components-requires c =
    (c.requires.0, c.find_two.ensures.held, (known (goal.at.correct_components-requires c).In_ok-filling).levels 0 (omega arith))

pub correct_components-requires-2 : goal.correct_components-requires-2
correct_components-requires-2 c =
    let levels = (known (goal.at.correct_components-requires-2 c).In_ok-filling).levels in
    (word_set c.requires.0 _ (levels 0 (omega arith)), c.correct_components.ensures, levels 1 (omega arith))

pub write_pair-requires : goal.write_pair-requires
write_pair-requires c =
    let near = (known (goal.at.write_pair-requires c).In_ok-filling).near in
    (c.correct_components-2.ensures.levels, near, c.requires.3)

pub returns : goal.returns
returns c =
    let parts = c.correct_components-2.ensures.parts in
    read_found _ _ (two_read (known (goal.at.returns c).In_ok-filling)) (messages_of (parts true) (parts false) c.write_pair.ensures) refl
