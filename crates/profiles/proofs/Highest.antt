-- The symbols of a word are below q where the highest of them is.
-- Assumes nothing.
use Rattle.std.proofs.Common.{◌≡◌, ℕ, max, ◌+◌, ◌<◌, ◌≤◌, true, T, ltb, List, [], ◌∷◌, length, get_or, refl, ⊎_elim, not-suc-le-zero, arith, ltb→lt, lt→ltb}
use Rattle.modular_theory.proofs.Search.{le_or_lt, same_test, and_left}
use Rattle.code_theory.specs.Component.{symbols_below}
use Rattle.code_theory.proofs.Symbols.{symbol_below, symbols_below_lem}

-- the highest of the first i symbols, or 0: no symbol is above it, and it is below what is above them all
pub record Highest (word : List ℕ) (highest i : ℕ) : Type 0 where
  pub above : (j : ℕ) → j < i → get_or word j 0 ≤ highest
  pub lowest : (b : ℕ) → 1 ≤ b → ((j : ℕ) → j < i → get_or word j 0 < b) → highest < b

pub highest_none : (word : List ℕ) → Highest word 0 0
highest_none word = record { above = λ j h. absurd (not-suc-le-zero h); lowest = λ b h f. h }

positive : (q : ℕ) (word : List ℕ) → T (symbols_below q word) → 1 ≤ length word → 1 ≤ q
positive q [] t l = absurd (not-suc-le-zero l)
positive q (x ∷ w) t l = omega (arith, ltb→lt x q (and_left (ltb x q) (symbols_below q w) t))

module _ {word : List ℕ} {highest i : ℕ} (h : Highest word highest i) where
  -- one symbol more
  pub highest_more : Highest word (max (get_or word i 0) highest) (i + 1)
  highest_more =
      record {
        above = λ j k. ⊎_elim (λ (e : i ≤ j). at j (omega arith)) (below j) (le_or_lt i j);
        lowest =
            λ b k f.
            let passed : highest < b = h.lowest b k (λ j m. f j (omega arith)) in
            let here : get_or word i 0 < b = f i (omega arith) in
            omega arith;
      }
    where
      at : (j : ℕ) → j ≡ i → get_or word j 0 ≤ max (get_or word i 0) highest
      at j e = rw e (omega arith)

      below : (j : ℕ) → j < i → get_or word j 0 ≤ max (get_or word i 0) highest
      below j m = let g : get_or word j 0 ≤ highest = h.above j m in omega arith

  pub highest_decides : (q : ℕ) → length word ≡ i → 1 ≤ i → ltb highest q ≡ symbols_below q word
  highest_decides q e some = same_test (ltb highest q) (symbols_below q word) to back
    where
      to : T (ltb highest q) → T (symbols_below q word)
      to t =
          let l : highest < q = ltb→lt highest q t in
          symbols_below_lem q word (λ j k. let g : get_or word j 0 ≤ highest = h.above j (omega arith) in omega arith)

      back : T (symbols_below q word) → T (ltb highest q)
      back t =
          let one : 1 ≤ q = positive q word t (omega arith) in
          lt→ltb highest q (h.lowest q one (λ j k. symbol_below q one word t j))

pub none_below : (q : ℕ) (word : List ℕ) → length word ≡ 0 → true ≡ symbols_below q word
none_below q [] e = refl
none_below q (x ∷ w) e = absurd (omega arith)
