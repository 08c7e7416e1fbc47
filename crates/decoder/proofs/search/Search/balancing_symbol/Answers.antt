-- `decoder::search::Search::balancing_symbol` meets its contract: the excess taken from the symbol.
-- Assumes nothing.
use mathlib.Core.Path.{ap, ◌∙◌}
use lib.IntN.{ℤ, pos, ◌-ℤ◌}
use mir.Syntax.{w32}
use Rattle.modular_theory.specs.Level.{level_of}
use Rattle.modular.proofs.Signed.{fits_within, value, read}
use Rattle.decoding_theory.specs.Decoded.{balancing_symbol}
use Rattle.decoder.proofs.search.Search.balancing_symbol.Goals as goal

pub returns : goal.returns
unfolding balancing_symbol
returns c =
    let args = c.args in
    let back = read (value {w = w32} {z = args.self.s.excess} (fits_within 1358 tt args.self.totalled.light)) in
    c.less.ensures ∙ ap (λ (e : ℤ). level_of args.self.row.q (pos args.x -ℤ e)) back
