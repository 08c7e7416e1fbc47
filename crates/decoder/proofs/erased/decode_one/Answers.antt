-- `decoder::erased::decode_one` meets its contract: the word with 0 at the erased position is one of levels.
-- Assumes nothing.
use Rattle.decoder.proofs.Answering.{read_as}
use Rattle.decoder.proofs.Clearing.{cleared_size, cleared_received, erased_is, one_within}
use Rattle.decoder.proofs.erased.decode_one.Goals as goal

pub slice_bounds-complete_one-end : goal.slice_bounds-complete_one-end
slice_bounds-complete_one-end c =
    cleared_size c.requires.0 c.cleared-known.ensures

pub complete_one-requires : goal.complete_one-requires
complete_one-requires c =
    let (erased, outputs) = c.requires in (
      cleared_received erased c.cleared-known.ensures,
      one_within erased,
      record { first_long = outputs.first_long; second_long = outputs.second_long },
    )

pub returns : goal.returns
returns c =
    let erased = c.requires.0 in
    read_as (erased_is erased c.cleared-known.ensures) c.complete_one.ensures
