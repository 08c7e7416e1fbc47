-- `decoder::search::Search::locate` meets its contract. The invariant: no index passed fits.
-- Assumes nothing.
use Rattle.std.specs.Prelude.{◌≡◌, false, ℕ, ◌<◌, get_or}
use Rattle.decoding_theory.specs.Syndromes.{index}
use Rattle.decoding_theory.specs.Decoded.{fits}
use Rattle.decoder.specs.Search.{parameters_of, sums_in, parity_of}
use Rattle.decoder.proofs.search.Search.locate.Given as goal

abbrev pub invariant-loop-k : goal.invariant-loop-k
invariant-loop-k l =
    let x = l.self in
    (j : ℕ) → j < l.k → fits (parameters_of x) (sums_in x) (parity_of x) j (get_or l.word (index (parity_of x) j) 0) ≡ false
