-- `answers::text::Writer::decimal` meets its contract: below 10 the number is its one digit, and below 100 its two.
-- Assumes nothing.
use Rattle.std.proofs.Common.{arith}
use Rattle.answers.proofs.Writing.{number_one, number_two}
use Rattle.answers.proofs.text.Writer.decimal.Goals as goal

pub returns-then-n-lt10-clause-text : goal.returns-then-n-lt10-clause-text
returns-then-n-lt10-clause-text c = number_one c.if-n-lt10.true c.pair.ensures

pub returns-clause-text : goal.returns-clause-text
returns-clause-text c = number_two (omega arith) (omega arith) c.byte.ensures c.pair-2.ensures
