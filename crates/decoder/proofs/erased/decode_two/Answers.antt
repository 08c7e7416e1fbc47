-- `decoder::erased::decode_two` meets its contract: the word with 0 at the erased positions is one of levels.
-- Assumes nothing.
use Rattle.decoder.proofs.Answering.{read_as}
use Rattle.decoder.proofs.Clearing.{cleared_size, cleared_received, erased_is, two_within}
use Rattle.decoder.proofs.erased.decode_two.Goals as goal

pub slice_bounds-complete_two-end : goal.slice_bounds-complete_two-end
slice_bounds-complete_two-end c =
    cleared_size c.requires.0 c.cleared-known.ensures

pub complete_two-requires : goal.complete_two-requires
complete_two-requires c =
    let (erased, outputs) = c.requires in
    let (first, second) = two_within erased in (
      cleared_received erased c.cleared-known.ensures,
      first,
      second,
      record { first_long = outputs.first_long; second_long = outputs.second_long },
    )

pub returns : goal.returns
returns c =
    let erased = c.requires.0 in
    read_as (erased_is erased c.cleared-known.ensures) c.complete_two.ensures
