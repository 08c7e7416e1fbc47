-- `components::component::interleaved` meets its contract: the check symbols make up for the row sums of each message, and only the
-- component does so.
-- Assumes nothing.
use Prim.Native.Nat.{◌≤◌, ◌<◌}
use native.Mathlib.Omega.{arith}
use borrow.Author.Rules.{rules}
use Rattle.code_theory.proofs.Columns.{q_positive}
use Rattle.symbols.specs.declared.sums.Syndrome.{Syndrome}
use Rattle.components.proofs.Residues.{residues_symbols}
use Rattle.components.proofs.Pairing.{sums_symbols, components_made}
use Rattle.components.proofs.component.interleaved.Goals as goal
use Rattle.components.proofs.component.interleaved.Goals.{After-component_sums-sums}

pub component_sums-sums-requires : goal.component_sums-sums-requires
component_sums-sums-requires c =
    let some : 1 ≤ c.args.row.q = q_positive _ c.requires.0.sized in (
      omega (arith, c.requires.0.sized.levels),
      c.requires.2,
      c.requires.0.length,
      residues_symbols _ c.placed-x.result some c.residues-mod_q.ensures,
    )

-- the sums of both components are symbols
module _ (c : After-component_sums-sums) where
  abbrev Symbols : Syndrome → Type 0
  Symbols s =
      let q = c.args.row.q in
      (s.low < q) × (s.mid < q) × (s.high < q) × (s.ones < q)

  both : Symbols c.component_sums-sums.result.first × Symbols c.component_sums-sums.result.second
  both = (sums_symbols _ c.component_sums-sums.ensures.0, sums_symbols _ c.component_sums-sums.ensures.1)

pub check_symbols-a-requires : goal.check_symbols-a-requires
check_symbols-a-requires c = search (both (goal.at.check_symbols-a-requires c).After-component_sums-sums)

pub check_symbols-b-requires : goal.check_symbols-b-requires
check_symbols-b-requires c = search (both (goal.at.check_symbols-b-requires c).After-component_sums-sums)

pub returns : goal.returns
returns c =
    let residues = c.residues-mod_q.ensures in
    let sums = c.component_sums-sums.ensures in
    components_made c.args.row c.requires.0 c.args.first.now c.args.second.now c.requires.3 c.requires.4
    c.placed-x.ensures c.filled.ensures (search rules) (rw residues at sums.0) (rw residues at sums.1)
    c.check_symbols-a.ensures c.check_symbols-b.ensures
