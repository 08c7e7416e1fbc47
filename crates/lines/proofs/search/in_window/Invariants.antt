use Rattle.std.proofs.Common.{◌≡◌, ℕ, ◌<◌, ◌≤◌, get_or}
use Rattle.lines.proofs.search.in_window.Given as goal

abbrev pub invariant-loop-i : goal.invariant-loop-i
invariant-loop-i l = record {
  in_range : l.first ≤ 128;
  none : (k : ℕ) → k < l.i → k < l.first → get_or l.window k 0 ≡ 10 → ⊥;
  ends : l.first < 128 → (l.first < l.i) × (get_or l.window l.first 0 ≡ 10);
}
