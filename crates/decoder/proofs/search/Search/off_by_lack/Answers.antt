-- `decoder::search::Search::off_by_lack` meets its contract: the sum of the definition, for the parity.
-- Assumes nothing.
use mathlib.Core.Path.{◌≡◌}
use mathlib.Core.Bool.{Bool, true, false}
use Prim.Native.Nat.{ℕ, ◌+◌, ◌%◌}
use native.Mathlib.Omega.{arith}
use Rattle.modular.specs.Byte.{byte_sum}
use Rattle.modular.proofs.Bytes.{byte_sum_lem}
use Rattle.symbols.specs.Weight.{check_of}
use Rattle.decoder.specs.declared.search.Search.{Search}
use Rattle.decoder.proofs.Fitting.{off_odd, off_even}
use Rattle.decoder.proofs.search.Search.off_by_lack.Goals as goal

-- the check symbol that is asked for and the lack are below q
sum : (x : Search) (b : Bool) {r : ℕ} → r ≡ byte_sum x.row.q (check_of x.s.asked b) x.s.lack
    → r ≡ (check_of x.s.asked b + x.s.lack) % x.row.q
sum x b e =
    let s = x.totalled in
    (byte_sum_lem (s.asked_below b) (omega (arith, s.lack_below)) (omega (arith, x.valid.levels)) e).0

pub returns-in-Odd : goal.returns-in-Odd
returns-in-Odd c = off_odd c.args.self c.in-Odd.is (sum c.args.self true c.add.ensures)

pub returns-in-Even : goal.returns-in-Even
returns-in-Even c = off_even c.args.self c.in-Even.is (sum c.args.self false c.add-in-Even.ensures)
