-- The symbols of a component in an interleaved word.
-- Assumes nothing.
use mathlib.Core.Path.{◌≡◌, sym, ◌∙◌}
use mathlib.Core.Bool.{Bool, true, false}
use mathlib.Core.List.{List}
use Prim.Native.Nat.{ℕ, suc, ◌+◌, ◌*◌, ◌≤◌, ◌<◌}
use native.Mathlib.Nat.{min-le_left}
use native.Mathlib.Omega.{arith}
use lib.ListN.{length, get_or, take, drop, length-take, length-drop}
use lib.Seq.{get_or-take, get_or-drop, length-take-le}
use Rattle.code_theory.proofs.Weights.{double, double_is, length_alternate}
use Rattle.code_theory.proofs.Alternate.{first_at, second_at}
use Rattle.symbols.specs.Syndromes.{part}
use Rattle.symbols.proofs.Words.{alternate_most}

pub part_first : (n : ℕ) (x : List ℕ) (i : ℕ) → i < n → get_or (part true n x) i 0 ≡ get_or x (2 * i + 1) 0
part_first n x i h =
    let e : 1 + double i ≡ 2 * i + 1 = omega (arith, double_is i) in
    let l : 2 * i + 1 < 2 * n + 1 = omega arith in
    let t : List ℕ = take (2 * n + 1) x in
    sym (first_at (drop 1 t) i) ∙ get_or-drop 1 t (double i) 0 ∙ rw e (get_or-take (2 * n + 1) x (2 * i + 1) 0 l)

pub part_second : (n : ℕ) (x : List ℕ) (i : ℕ) → i < n → get_or (part false n x) i 0 ≡ get_or x (2 * i + 2) 0
part_second n x i h =
    let e : 1 + suc (double i) ≡ 2 * i + 2 = omega (arith, double_is i) in
    let l : 2 * i + 2 < 2 * n + 1 = omega arith in
    let t : List ℕ = take (2 * n + 1) x in
    sym (second_at (drop 1 t) i) ∙ get_or-drop 1 t (suc (double i)) 0 ∙ rw e (get_or-take (2 * n + 1) x (2 * i + 2) 0 l)

-- a part has at most n symbols
pub part_length : (b : Bool) (n : ℕ) (x : List ℕ) → length (part b n x) ≤ n
part_length b n x =
    let few : length (take (2 * n + 1) x) ≤ 2 * n + 1 = rw length-take (min-le_left (2 * n + 1) (length x)) in
    alternate_most b n (drop 1 (take (2 * n + 1) x)) (omega (arith, length-drop 1 (take (2 * n + 1) x)))

-- and n of them where the word has as many
pub part_size : (b : Bool) (n : ℕ) (x : List ℕ) → 2 * n + 1 ≤ length x → length (part b n x) ≡ n
part_size b n x h =
    length_alternate n b (drop 1 (take (2 * n + 1) x))
    (omega (arith, length-drop 1 (take (2 * n + 1) x), length-take-le (2 * n + 1) x h, double_is n))
