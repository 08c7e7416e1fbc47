-- `profiles::erased::screen_erasures` meets its contract: one erased symbol after the other is looked for, until none is left or
-- a third is found.
-- Assumes nothing.
use Rattle.profiles.proofs.Screening.{screens_none, screens_one, screens_two, screens_more}
use Rattle.profiles.proofs.erased.screen_erasures.Goals as goal

pub returns-in_default : goal.returns-in_default
returns-in_default c = screens_none c.args.word.now c.in_default.ensures

pub returns-in_default-next_erased : goal.returns-in_default-next_erased
returns-in_default-next_erased c = screens_one c.args.word.now c.in-Some.ensures c.in_default-next_erased.ensures

pub returns-in_default-next_erased-2 : goal.returns-in_default-next_erased-2
returns-in_default-next_erased-2 c =
    screens_two c.args.word.now c.in-Some.ensures c.in-Some-next_erased.ensures c.in_default-next_erased-2.ensures

pub returns : goal.returns
returns c =
    screens_more c.args.word.now c.in-Some.ensures c.in-Some-next_erased.ensures c.in-Some-next_erased-2.ensures
