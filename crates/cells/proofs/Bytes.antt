-- Parts of slices as they are lent, and copies over them.
-- Assumes nothing.
use mathlib.Core.Path.{◌≡◌, sym, ap, ap₂, ◌∙◌}
use mathlib.Core.Logic.{⊎_elim}
use mathlib.Core.List.{List, ◌++◌, append-nil}
use Prim.Native.Nat.{ℕ, ◌+◌, ◌-◌, ◌≤◌, ◌<◌}
use native.Mathlib.Omega.{arith}
use lib.ListN.{length, take, drop, length-drop, drop_of_length-le}
use lib.Seq.{take_all}
use Rattle.std.specs.Prelude.{min}
use Rattle.std.proofs.Math.Nat.{min-eq_left, min-eq_right}
use Rattle.modular_theory.proofs.Search.{le_or_lt}
use Rattle.cells.specs.Bytes.{copied}

-- a part of n bytes from a on, as a range lends it
pub lent_part : (s : List ℕ) (a n : ℕ) → take (a + n - a) (drop a s) ≡ take n (drop a s)
lent_part s a n = let e : a + n - a ≡ n = omega arith in ap (λ (k : ℕ). take k (drop a s)) e

-- a part from a up to the end
pub lent_rest : (s : List ℕ) (a : ℕ) → take (length s - a) (drop a s) ≡ drop a s
lent_rest s a = take_all (length s - a) (drop a s) (omega (arith, length-drop a s))

-- a copy of as many bytes as both have
pub copied_both : (to from : List ℕ) (n : ℕ) → n ≡ min (length to) (length from) → take n from ++ drop n to ≡ copied to from
unfolding copied
copied_both to from n e =
    ⊎_elim
    (λ (h : length to ≤ length from).
    let m : n ≡ length to = e ∙ min-eq_left h in
    ap₂ (λ (a b : List ℕ). a ++ b) (ap (λ (k : ℕ). take k from) m) (drop_of_length-le to (omega arith) ∙ sym (drop_of_length-le to h)))
    (λ (h : length from < length to).
    let m : n ≡ length from = e ∙ min-eq_right (omega arith) in
    ap₂ (λ (a b : List ℕ). a ++ b) (take_all n from (omega arith) ∙ sym (take_all (length to) from (omega arith))) (ap (λ (k : ℕ). drop k to) m))
    (le_or_lt (length to) (length from))

-- a copy over as many bytes
pub copied_same : (to from : List ℕ) → length to ≡ length from → copied to from ≡ from
unfolding copied
copied_same to from e =
    let m : length to ≤ length from = omega arith in
    ap₂ (λ (a b : List ℕ). a ++ b) (take_all (length to) from (omega arith)) (drop_of_length-le to m) ∙ append-nil from
