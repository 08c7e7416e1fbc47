-- `is_padded` meets its contract: the row is the profile's, where there is one.
-- Assumes nothing.
use mathlib.Core.Path.{sym, ap, ap₂, ◌∙◌}
use mathlib.Core.Bool.{◌&&◌}
use Prim.Native.Nat.{ℕ, ◌≤◌}
use native.Mathlib.Omega.{arith}
use lib.ListN.{length, take, drop}
use lib.Seq.{length-take-le}
use Rattle.modular_theory.proofs.Search.{passes}
use Rattle.code_theory.specs.Component.{is_received}
use Rattle.code_theory.specs.Profiles.{is_profile, profile}
use Rattle.code_theory.specs.Parameters.{edition13}
use Rattle.profiles.specs.Row.{RowOf}
use Rattle.profiles.proofs.Table.{row_found, none_found, codeword_is}
use Rattle.queue_theory.specs.Lists.{all_zero}
use Rattle.queue_theory.specs.Sound.{is_padded}
use Rattle.queue_theory.proofs.Record.{word_fits}
use Rattle.cells.proofs.Bytes.{lent_rest}
use Rattle.soundness.proofs.Conditions.{on, off}
use Rattle.soundness.proofs.Rows.{received_is}
use Rattle.soundness.proofs.cell.is_padded.Goals as goal
use Rattle.soundness.proofs.cell.is_padded.Goals.{In-Some}

-- the row is the profile's
of : (c : In-Some) → RowOf edition13 c.args.profile c.in-Some.row
of c = row_found _ _ c.row_of.ensures c.in-Some.is

fits : (c : In-Some) → c.in-Some.row.codeword ≤ length c.args.bytes.now
fits c = omega (arith, codeword_is (of c), word_fits c.args.profile (of c).known, c.requires)

pub returns-in_default : goal.returns-in_default
unfolding is_padded
returns-in_default c = off (is_profile c.args.profile) _ (none_found _ _ c.row_of.ensures c.in_default.is)

pub slice_bounds-is_received-end : goal.slice_bounds-is_received-end
slice_bounds-is_received-end c =
    sym (length-take-le c.in-Some.row.codeword c.args.bytes.now (fits (goal.at.slice_bounds-is_received-end c).In-Some))

pub slice_bounds-all_zero-count : goal.slice_bounds-all_zero-count
slice_bounds-all_zero-count c = fits (goal.at.slice_bounds-all_zero-count c).In-Some

pub slice_bounds-all_zero-start : goal.slice_bounds-all_zero-start
slice_bounds-all_zero-start c = fits (goal.at.slice_bounds-all_zero-start c).In-Some

pub returns : goal.returns
unfolding is_padded
returns c =
    let w = c.args.bytes.now in
    let p = c.args.profile in
    let n = c.in-Some.row.codeword in
    let found = of (goal.at.returns c).In-Some in
    let symbols = c.is_received.ensures ∙ received_is found (take n w) in
    let rest = c.all_zero.ensures ∙ ap all_zero (lent_rest w n) in
    on (is_profile p) _ _ (passes found.known)
    (ap₂ ◌&&◌ symbols rest ∙ ap (λ (k : ℕ). is_received (profile p) (take k w) && all_zero (drop k w)) (codeword_is found))
