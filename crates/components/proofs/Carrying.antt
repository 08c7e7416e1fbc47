-- The row sums of both components, side by side, a position at a time.
-- Assumes nothing.
use mathlib.Core.Path.{◌≡◌, refl, sym, ap, ap₂, subst, ◌∙◌}
use mathlib.Core.List.{List, [], ◌∷◌, ◌++◌}
use mathlib.Core.Bool.{true, false}
use Prim.Native.Nat.{ℕ, zero, suc, ◌+◌, ◌*◌, ◌≤◌, ◌<◌}
use native.Mathlib.Nat.{add-zero, le_trans}
use native.Mathlib.Numerals.{add-one}
use native.Mathlib.Omega.{arith}
use native.Mathlib.Decide.{ℕ_discrete}
use lib.Dec.{T, ltb, lt→ltb}
use lib.ListN.{length, get_or, take, set, replicate, length-set, get_or-replicate}
use lib.Seq.{get_or-set_same, get_or-set_other, take_all}
use Rattle.modular_theory.specs.Sum.{dot}
use Rattle.modular_theory.specs.Digits.{digits}
use Rattle.modular_theory.proofs.Search.{and_intro}
use Rattle.modular_theory.proofs.Digits.{digits_below}
use Rattle.code_theory.specs.Component.{symbols_below, column, check_row}
use Rattle.code_theory.proofs.Symbols.{symbol_below, symbols_below_lem, symbols_append}
use Rattle.symbols.specs.Syndromes.{four_rows, part}
use Rattle.symbols.proofs.Parts.{part_first, part_second, part_length}
use Rattle.symbols.proofs.Words.{dot_take}
use Rattle.components.specs.PartialSums.{PartialSum, PartialSums}
use Rattle.components.specs.Lanes.{lanes, column_lanes, symbol_lanes, four_lanes, LanesBelow, LanesAccumulated}
use Rattle.components.proofs.PartialSums.{continued}

-- A step in each lane.

-- it is made in the first j lanes, and the others are as they were
pub record Made (q : ℕ) (s column x r : List ℕ) (j : ℕ) : Type 0 where
  pub size : length r ≡ 16
  pub at : (k : ℕ) → k < j → PartialSum q (get_or s k 0 + get_or column k 0 * get_or x k 0) (get_or r k 0)
  pub kept : (k : ℕ) → j ≤ k → get_or r k 0 ≡ get_or s k 0

module _ {q : ℕ} {s column x r : List ℕ} {j : ℕ} (m : Made q s column x r j) where
  pub made_more : j < 16 → {y : ℕ} → PartialSum q (get_or s j 0 + get_or column j 0 * get_or x j 0) y → Made q s column x (set r j y) (j + 1)
  made_more h {y} a =
      record {
        size = length-set r j y ∙ m.size;
        at = λ k l. either k (omega arith) (ℕ_discrete k j);
        kept = λ k l. get_or-set_other r j k y 0 (λ e. omega arith) ∙ m.kept k (omega arith);
      }
    where
      either : (k : ℕ) → k ≤ j → Dec (k ≡ j) → PartialSum q (get_or s k 0 + get_or column k 0 * get_or x k 0) (get_or (set r j y) k 0)
      either k l (yes e) = rw (e, get_or-set_same r j y 0 (omega (arith, m.size))) a
      either k l (no d) = rw (get_or-set_other r j k y 0 d) (m.at k (omega (arith, d)))

-- The lanes of a column and of two symbols.

same_below : (q : ℕ) (k y : ℕ) → y < q → T (symbols_below q (replicate k y))
same_below q zero y l = tt
same_below q (suc k) y l = and_intro (ltb y q) (symbols_below q (replicate k y)) (lt→ltb y q l) (same_below q k y l)

module _ (q : ℕ) (two : 2 ≤ q) where
  some : 1 ≤ q
  some = omega arith

  lanes_below : (a b : List ℕ) → T (symbols_below q a) → T (symbols_below q b) → LanesBelow q (lanes a b)
  lanes_below a b f g j h =
      symbol_below q some (lanes a b)
      (symbols_append q a (b ++ replicate 8 0) f (symbols_append q b (replicate 8 0) g (same_below q 8 0 some))) j

  digits_and_one : (i : ℕ) → T (symbols_below q (digits q 3 i ++ (1 ∷ [])))
  digits_and_one i =
      symbols_append q (digits q 3 i) (1 ∷ []) (symbols_below_lem q (digits q 3 i) (λ j h. digits_below q 3 i j some))
      (same_below q 1 1 two)

  pub column_below : {l d : List ℕ} (i : ℕ) → l ≡ column_lanes d → d ≡ digits q 3 i → LanesBelow q l
  column_below {l} {d} i is e =
      subst (LanesBelow q) (sym (is ∙ ap column_lanes e))
      (lanes_below (digits q 3 i ++ (1 ∷ [])) (digits q 3 i ++ (1 ∷ [])) (digits_and_one i) (digits_and_one i))

  pub symbols_lanes_below : {l : List ℕ} (a b : ℕ) → l ≡ symbol_lanes a b → a < q → b < q → LanesBelow q l
  symbols_lanes_below a b is f g =
      subst (LanesBelow q) (sym is) (lanes_below (replicate 4 a) (replicate 4 b) (same_below q 4 a f) (same_below q 4 b g))

-- The loop.

-- in s is carried what the first i symbols of both components give
pub record Carrying (q n : ℕ) (x s : List ℕ) (i : ℕ) : Type 0 where
  pub first : PartialSums q (take i (part true n x)) (four_lanes s 0)
  pub second : PartialSums q (take i (part false n x)) (four_lanes s 4)
  pub size : length s ≡ 16
  pub below : LanesBelow q s

four_at : (s : List ℕ) (k j : ℕ) → j < 4 → get_or s (k + j) 0 ≡ get_or (four_lanes s k) j 0
four_at s k zero h = ap (λ (l : ℕ). get_or s l 0) (add-zero k)
four_at s k (suc zero) h = refl
four_at s k (suc (suc zero)) h = refl
four_at s k (suc (suc (suc zero))) h = refl
four_at s k (suc (suc (suc (suc j)))) h = absurd (omega arith)

lane : (l : List ℕ) (k : ℕ) {four : List ℕ} → four_lanes l k ≡ four → (j : ℕ) → j < 4 → get_or l (k + j) 0 ≡ get_or four j 0
lane l k e j h = four_at l k j h ∙ ap (λ (four : List ℕ). get_or four j 0) e

-- one symbol more of a component c: in its lanes are the rows of a column, and the symbol for each
more : {q : ℕ} (i k : ℕ) (c : List ℕ) {s laid x r : List ℕ} → k ≤ 12 → LanesAccumulated q s laid x r
    → four_lanes laid k ≡ column (four_rows q (length c)) (suc i) → four_lanes x k ≡ replicate 4 (get_or c i 0)
    → PartialSums q (take i c) (four_lanes s k) → PartialSums q (take (suc i) c) (four_lanes r k)
more {q} i k c {s} {laid} {x} {r} room steps rows symbols p =
    record {
      at = λ j h.
          let f : ℕ → ℕ = check_row (four_rows q (length c)) j in
          let sum : ℕ = dot f (take i c) in
          let product : ℕ = get_or laid (k + j) 0 * get_or x (k + j) 0 in
          let symbol : get_or x (k + j) 0 ≡ get_or c i 0 = lane x k symbols j h ∙ get_or-replicate 4 j (get_or c i 0) 0 h in
          let e : sum + product ≡ dot f (take (suc i) c) =
          ap₂ (λ (y z : ℕ). sum + y * z) (lane laid k rows j h) symbol ∙ sym (dot_take f i c) in
          rw (← e, ← four_at r k j h) (continued product (rw (four_at s k j h) (p.at j h)) (steps.at (k + j) (omega arith)));
    }

module _ {q n : ℕ} {x s : List ℕ} {i : ℕ} (c : Carrying q n x s i) where
  pub carrying_more : {d laid symbols r : List ℕ} → i < n → laid ≡ column_lanes d → d ≡ digits q 3 (suc i)
      → symbols ≡ symbol_lanes (get_or x (2 * i + 1) 0) (get_or x (2 * i + 2) 0) → LanesAccumulated q s laid symbols r
      → Carrying q n x r (i + 1)
  carrying_more {d} {laid} {symbols} {r} l are e those all =
      record {
        first = rw (add-one i) (more i 0 (part true n x) (omega arith) steps refl (rw (part_first n x i l) refl) c.first);
        second = rw (add-one i) (more i 4 (part false n x) (omega arith) steps refl (rw (part_second n x i l) refl) c.second);
        size = all.size;
        below = λ j h. (all.at j h).below;
      }
    where
      a : ℕ
      a = get_or x (2 * i + 1) 0

      b : ℕ
      b = get_or x (2 * i + 2) 0

      steps : LanesAccumulated q s (column_lanes (digits q 3 (suc i))) (symbol_lanes a b) r
      steps =
          subst (λ (k : List ℕ). LanesAccumulated q s k (symbol_lanes a b) r) (are ∙ ap column_lanes e)
          (subst (λ (k : List ℕ). LanesAccumulated q s laid k r) those all)

  -- and at the end, of all symbols
  module _ (all : n ≤ i) where
    pub first_sums : {l : List ℕ} → l ≡ four_lanes s 0 → PartialSums q (part true n x) l
    first_sums e = rw e (rw (take_all i (part true n x) (le_trans (part_length true n x) all)) at c.first)

    pub second_sums : {l : List ℕ} → l ≡ four_lanes s 4 → PartialSums q (part false n x) l
    second_sums e = rw e (rw (take_all i (part false n x) (le_trans (part_length false n x) all)) at c.second)
