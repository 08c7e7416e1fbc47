-- `symbols::matrix::next` meets its contract: each way out is by the lowest digit that does not carry.
-- Assumes nothing.
use native.Mathlib.Omega.{arith}
use Rattle.symbols.proofs.Counting.{next_first, next_second, next_third, next_none}
use Rattle.symbols.proofs.matrix.next.Goals as goal

pub returns-then-first-q : goal.returns-then-first-q
returns-then-first-q c i is = next_first (omega (arith, c.requires.first)) _ i is c.if-first-q.true

pub returns-then-second-q : goal.returns-then-second-q
returns-then-second-q c i is = next_second (omega (arith, c.requires.first)) _ i is c.if-first-q.false c.if-second-q.true

pub returns-then-third-q : goal.returns-then-third-q
returns-then-third-q c i is =
    next_third (omega (arith, c.requires.first)) _ i is c.if-first-q.false c.if-second-q.false c.if-third-q.true

pub returns : goal.returns
returns c i is =
    next_none (omega (arith, c.requires.first)) _ i is c.if-first-q.false c.if-second-q.false c.if-third-q.false
