-- `encoder::pair::write` meets its contract: the steps are those of the definition.
-- Assumes nothing.
use mathlib.Core.List.{List}
use Prim.Native.Nat.{ℕ}
use lib.ListN.{take}
use borrow.Author.Rules.{rules}
use Rattle.code_theory.specs.Profiles.{profile}
use Rattle.profiles.proofs.Table.{levels_eight}
use Rattle.encoder.specs.Symbols.{SymbolArray, ZeroFirst}
use Rattle.encoder.proofs.Pairing.{IsMessage, pair_symbols, pair_zero_first, pair_encoded}
use Rattle.encoder.proofs.pair.write.Goals as goal
use Rattle.encoder.proofs.pair.write.Goals.{After-components-x}

-- x holds symbols
module _ (c : After-components-x) where
  abbrev isMessage : List ℕ → Type 0
  isMessage = IsMessage (profile c.args.number)

  abbrev pair : isMessage c.args.first.now × isMessage c.args.second.now
  pair = (c.requires.1, c.requires.2)

  symbols : SymbolArray c.args.row.q c.args.row.balanced c.components-x.result
  symbols = pair_symbols c.requires.0 c.args.first.now c.args.second.now pair c.components-x.ensures (search rules)

  zero_first_lem : ZeroFirst c.args.row.q (take c.args.row.balanced c.components-x.result)
  zero_first_lem = pair_zero_first c.requires.0 c.args.first.now c.args.second.now pair c.components-x.ensures

pub balanced-w-requires : goal.balanced-w-requires
balanced-w-requires c =
    let here = (goal.at.balanced-w-requires c).After-components-x in
    (c.requires.0.valid, levels_eight c.requires.0, symbols here, zero_first_lem here)

pub returns : goal.returns
returns c =
    let both = pair (goal.at.returns c).After-components-x in
    pair_encoded c.requires.0 c.args.first.now c.args.second.now both c.components-x.ensures _ c.balanced-w.ensures c.put.ensures
