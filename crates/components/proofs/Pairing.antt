-- Why the steps put together make the components of a pair.
-- Assumes nothing.
use mathlib.Core.Path.{◌≡◌, sym, ap, ap₂, ◌∙◌}
use mathlib.Core.Bool.{Bool, true, false}
use mathlib.Core.List.{List, [], ◌∷◌, ◌++◌}
use Prim.Native.Nat.{ℕ, ◌+◌, ◌-◌, ◌*◌, ◌<◌}
use native.Mathlib.Omega.{arith}
use lib.Dec.{lit<}
use lib.ListN.{length, get_or, take, drop, replicate, length-drop, length-replicate, get_or-replicate, take-append-drop}
use lib.Seq.{get_or-drop, ext_get_or}
use Rattle.modular_theory.proofs.Residue.{◌then◌, already_reduced}
use Rattle.code_theory.specs.Parameters.{message_length}
use Rattle.code_theory.specs.Component.{check_row, syndrome, component, merge, check_at}
use Rattle.code_theory.specs.Balance.{interleave}
use Rattle.code_theory.specs.Codeword.{alternate}
use Rattle.profiles.specs.declared.row.Row.{Row}
use Rattle.profiles.specs.Row.{Valid, parameters}
use Rattle.symbols.specs.declared.sums.Syndrome.{Syndrome}
use Rattle.symbols.specs.Syndromes.{four_rows, rows, part}
use Rattle.components.specs.Checks.{checked, Solves, Placed, Filled}
use Rattle.components.specs.PartialSums.{PartialSums}
use Rattle.components.specs.Residues.{residues}
use Rattle.components.specs.Components.{zero_first, padded}
use Rattle.components.proofs.Interleaving.{parts_interleaved}
use Rattle.components.proofs.Residues.{residues_agree, residues_take, residues_drop, residues_alternate, any_solved}

-- A component of the symbols mod q.

part_residues : (b : Bool) (q n : ℕ) (x : List ℕ) → part b n (residues q x) ≡ residues q (part b n x)
part_residues b q n x =
    ap (λ (l : List ℕ). alternate b (drop 1 l)) (residues_take q (2 * n + 1) x)
    ∙ ap (alternate b) (residues_drop q 1 (take (2 * n + 1) x))
    ∙ residues_alternate q b (drop 1 (take (2 * n + 1) x))

-- its sums are those of the symbols
sums_of_lem : (q n : ℕ) (c s : List ℕ) → PartialSums q (residues q c) s → (j : ℕ) → j < 4 → get_or s j 0 ≡ syndrome (four_rows q n) c j
unfolding syndrome
sums_of_lem q n c s p j h =
    let f : ℕ → ℕ = check_row (four_rows q n) j in
    (already_reduced (p.at j h).below).0 ∙ ((p.at j h).same then residues_agree q f c).same

-- and symbols
pub sums_symbols : {q : ℕ} {c : List ℕ} (s : Syndrome) → PartialSums q c (rows s)
    → (s.low < q) × (s.mid < q) × (s.high < q) × (s.ones < q)
sums_symbols s p = ((p.at 0 (lit< tt)).below, (p.at 1 (lit< tt)).below, (p.at 2 (lit< tt)).below, (p.at 3 (lit< tt)).below)

module _ (t : Row) (valid : Valid t) where
  -- check symbols that make up for them give the component
  made : (a : List ℕ) → length a ≡ message_length (parameters t) → {c e sums : List ℕ}
      → c ≡ merge (check_at (parameters t)) t.n [] a → PartialSums t.q (residues t.q c) sums → Solves t.q sums e
      → checked t.q e c t.r ≡ component (parameters t) a
  made a ha {c} {e} {sums} is hs solves =
      ap (λ (u : List ℕ). checked t.q e u t.r) is
      ∙ any_solved (parameters t) valid.sized a ha sums e valid.checks (λ j h. rw (← is) (sums_of_lem t.q t.n c sums hs j h)) solves

  pub components_made : (a b : List ℕ) → length a ≡ message_length (parameters t) → length b ≡ message_length (parameters t)
      → {x y e f sums sums' : List ℕ} → Placed t a b x → Filled t x e f y → length y ≡ 97
      → PartialSums t.q (part true t.n (residues t.q x)) sums
      → PartialSums t.q (part false t.n (residues t.q x)) sums'
      → Solves t.q sums e → Solves t.q sums' f → y ≡ padded (parameters t) a b
  unfolding zero_first padded
  components_made a b ha hb {x} {y} p w size hs hs' se sf =
      sym (take-append-drop m y) ∙ ap₂ (λ (u v : List ℕ). u ++ v) front back
    where
      m : ℕ
      m = 2 * t.n + 1

      front : take m y ≡ 0 ∷ interleave (component (parameters t) a) (component (parameters t) b)
      front =
          parts_interleaved t.n y (omega (arith, valid.length))
          ∙ ap₂ (λ (z : ℕ) (l : List ℕ). z ∷ l) (w.head ∙ p.head)
          (ap₂ interleave (w.first_part ∙ made a ha p.first_part (rw (part_residues true t.q t.n x) at hs) se)
          (w.second_part ∙ made b hb p.second_part (rw (part_residues false t.q t.n x) at hs') sf))

      back : drop m y ≡ replicate (97 - m) 0
      back =
          let l : length (drop m y) ≡ 97 - m = length-drop m y ∙ ap (λ (k : ℕ). k - m) size in
          ext_get_or 0 (drop m y) (replicate (97 - m) 0) (l ∙ sym (length-replicate (97 - m) 0))
          (λ i h. let g : i < 97 - m = omega arith in
          get_or-drop m y i 0 ∙ w.past (m + i) (omega arith) ∙ p.past (m + i) (omega arith) ∙ sym (get_or-replicate (97 - m) i 0 0 g))
