-- `answers::respond::message_length` meets its contract: the row is the profile's, where there is one.
-- Assumes nothing.
use Rattle.profiles.proofs.Table.{row_found, none_found, message_is, message_short}
use Rattle.answers.proofs.Answers.{message_none}
use Rattle.answers.proofs.respond.message_length.Goals as goal

pub returns-in_default : goal.returns-in_default
returns-in_default c = message_none _ (none_found _ _ c.row_of.ensures c.in_default.is)

pub returns : goal.returns
returns c =
    let of = row_found _ _ c.row_of.ensures c.in-Some.is in
    (message_is of, message_short of)
