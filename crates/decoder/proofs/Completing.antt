-- A word completed by what fills it: the symbols are levels, the syndromes are then near, and the pair follows.
-- Assumes nothing.
use mathlib.Core.Path.{◌≡◌, refl, sym, ap, ap₂, subst, ◌∙◌}
use mathlib.Core.Bool.{Bool, true, false}
use mathlib.Core.List.{List, [], ◌∷◌}
use Prim.Native.Nat.{ℕ, zero, suc, ◌+◌, ◌<◌}
use native.Mathlib.Omega.{arith}
use lib.Dec.{T, ltb}
use lib.ListN.{length, get_or, set}
use borrow.Author.Tests.{ltb-true}
use Rattle.std.specs.Prelude.{Option, Some, None}
use Rattle.modular_theory.proofs.Search.{holds, least_hit}
use Rattle.code_theory.specs.Parameters.{Parameters}
use Rattle.code_theory.specs.Reading.{change, filled, unreadable}
use Rattle.decoding_theory.specs.Syndromes.{near_syndromes}
use Rattle.decoding_theory.specs.Decoded.{Sums, sums, read_by}
use Rattle.decoding_theory.specs.Filled.{Erased, erased_at, sums_with, wanted, fillable}
use Rattle.decoding_theory.specs.Filled.{Filling, fills, nothing, filled_with, fill_one, first_level, fill_two, fill_at}
use Rattle.decoding_theory.proofs.Fillable.{wanted_level, wanted_sums}
use Rattle.profiles.specs.declared.row.Row.{Row}
use Rattle.profiles.specs.Row.{parameters}
use Rattle.symbols.specs.declared.sums.Syndrome.{Syndrome}
use Rattle.symbols.specs.declared.sums.Syndromes.{Syndromes}
use Rattle.symbols.specs.Syndromes.{rows}
use Rattle.fillings.specs.declared.fill.Filling as found
use Rattle.fillings.specs.Filling.{filling_of}
use Rattle.syndromes.specs.Rows.{FourRows, rows_of}
use Rattle.decoder.specs.Rows.{NearFourRows}
use Rattle.decoder.specs.Erased.{SameRows, SameFilling, FilledBy, completed}

-- Symbols that fill a word are levels, and the syndromes are then near.

-- k of them
pub record Usable (p : Parameters) (k : ℕ) (ys S S' : List ℕ) : Type 0 where
  pub long : length ys ≡ k
  pub levels : (j : ℕ) → j < k → get_or ys j 0 < p.q
  pub near : T (near_syndromes p S S')

fills_inj : {ys zs S S' F F' : List ℕ} → fills ys S S' ≡ fills zs F F' → (ys ≡ zs) × (S ≡ F) × (S' ≡ F')
fills_inj e = (cc, cc, cc)

-- a test of two lists that are equal to others
transport_test : (test : List ℕ → List ℕ → Bool) {a a' b b' : List ℕ} → a ≡ a' → b ≡ b' → T (test a b) → T (test a' b')
transport_test test e f h = rw (← e, ← f) h

none_fills : {ys S S' : List ℕ} → nothing ≡ fills ys S S' → ⊥
none_fills e = let z : ◌≡◌ {A = ℕ} 0 1 = cc in omega arith

module _ (p : Parameters) where
  -- what is wanted in the place of d makes the sums those of a codeword
  with_wanted : (d : Erased) (t : Sums) (k : ℕ) {ys zs S S' : List ℕ} → T (fillable p d t) → length zs ≡ k
      → ((j : ℕ) → j < k → get_or zs j 0 < p.q) → filled_with zs (sums_with p d (wanted p.q d t) t) ≡ fills ys S S' → Usable p k ys S S'
  with_wanted d t k {ys} {zs} {S} {S'} h n l e =
      let u : Sums = sums_with p d (wanted p.q d t) t in
      let (a, b, c) = fills_inj e in
      record {
        long = ap length (sym a) ∙ n;
        levels = subst (λ (x : List ℕ). (j : ℕ) → j < k → get_or x j 0 < p.q) a l;
        near = transport_test (near_syndromes p) b c (wanted_sums p d t h).near;
      }

  pub one_usable : (d : Erased) (t : Sums) {ys S S' : List ℕ} → fill_one p d t ≡ fills ys S S' → Usable p 1 ys S S'
  unfolding fill_one
  one_usable d t {ys} {S} {S'} e = go (fillable p d t) refl
    where
      y : ℕ
      y = wanted p.q d t

      go : (c : Bool) → fillable p d t ≡ c → Usable p 1 ys S S'
      go true f =
          let h : T (fillable p d t) = holds _ f in
          let is : fill_one p d t ≡ filled_with (y ∷ []) (sums_with p d y t) = rw (f, fill_one) in
          with_wanted d t 1 h refl (λ j l. let z : j ≡ 0 = omega arith in rw z (wanted_level p d t h)) (sym is ∙ e)
      go false f = let is : fill_one p d t ≡ nothing = rw (f, fill_one) in absurd (none_fills (sym is ∙ e))

  pub two_usable : (d d' : Erased) (t : Sums) {ys S S' : List ℕ} → fill_two p d d' t ≡ fills ys S S' → Usable p 2 ys S S'
  unfolding fill_two first_level
  two_usable d d' t {ys} {S} {S'} e = go (ltb (first_level p d d' t) p.q) refl
    where
      y : ℕ
      y = first_level p d d' t

      u : Sums
      u = sums_with p d y t

      z : ℕ
      z = wanted p.q d' u

      levels : y < p.q → z < p.q → (j : ℕ) → j < 2 → get_or (y ∷ z ∷ []) j 0 < p.q
      levels a b zero l = a
      levels a b (suc zero) l = b
      levels a b (suc (suc j)) l = absurd (omega arith)

      go : (c : Bool) → ltb (first_level p d d' t) p.q ≡ c → Usable p 2 ys S S'
      go true f =
          let l : y < p.q = ltb-true _ _ f in
          let h : T (fillable p d' u) = least_hit (λ y. fillable p d' (sums_with p d y t)) p.q l in
          let is : fill_two p d d' t ≡ filled_with (y ∷ z ∷ []) (sums_with p d' z u) = rw (f, fill_two) in
          with_wanted d' u 2 h refl (levels l (wanted_level p d' u h)) (sym is ∙ e)
      go false f = let is : fill_two p d d' t ≡ nothing = rw (f, fill_two) in absurd (none_fills (sym is ∙ e))

-- What fills a word by four rows fills it by the r rows.

module _ (t : Row) where
  pub same_none : (a b : Filling) → SameFilling t a b → a ≡ nothing → b ≡ nothing
  same_none a nothing s e = refl
  same_none a (fills zs F F') s e = absurd (subst (λ (x : Filling). SameFilling t x (fills zs F F')) e s)

  -- a filling by ys, with the four rows S and S'
  pub same_fills : (a b : Filling) {ys S S' : List ℕ} → SameFilling t a b → a ≡ fills ys S S'
      → (F : List ℕ) × (F' : List ℕ) × (b ≡ fills ys F F') × SameRows t S F × SameRows t S' F'
  same_fills a nothing {ys} {S} {S'} s e = absurd (subst (λ (x : Filling). SameFilling t x nothing) e s)
  same_fills a (fills zs F F') {ys} {S} {S'} s e =
      let (g, h, h') = subst (λ (x : Filling). SameFilling t x (fills zs F F')) e s in
      (F, F', ap (λ (x : List ℕ). fills x F F') (sym g), h, h')

-- The answers of the steps that look for a filling.

-- the rows of a syndrome, as the code has them and as the definitions have them
own_rows : {t : Row} {s : Syndrome} {S : List ℕ} → SameRows t (rows s) S → FourRows t (rows s) × (S ≡ rows_of t (rows s))
own_rows {t} w = (subst (FourRows t) (sym w.is) w.levels, w.are ∙ ap (rows_of t) (sym w.is))

-- what is known where the code has found the symbols ys, and the syndromes s then
pub record Completed (t : Row) (u is ys : List ℕ) (s : Syndromes) : Type 0 where
  pub long : length ys ≡ length is
  pub levels : (j : ℕ) → j < length ys → get_or ys j 0 < t.q
  pub near : NearFourRows t (rows s.first) (rows s.second)
  pub read : fill_at (parameters t) is (sums (parameters t) u) ≡ fills ys (rows_of t (rows s.first)) (rows_of t (rows s.second))

module _ (t : Row) (u : List ℕ) where
  abbrev p : Parameters
  p = parameters t

  completed_by : {is ys : List ℕ} (s : Syndromes)
      → ((zs S S' : List ℕ) → fill_at p is (sums p u) ≡ fills zs S S' → Usable p (length is) zs S S')
      → SameFilling t (fills ys (rows s.first) (rows s.second)) (fill_at p is (sums p u)) → Completed t u is ys s
  completed_by {is} {ys} s usable f =
      let (F, F', e, w, w') = same_fills t _ (fill_at p is (sums p u)) f refl in
      let (a, b) = own_rows w in
      let (a', b') = own_rows w' in
      let known = usable ys F F' e in
      record {
        long = known.long;
        levels = λ j l. known.levels j (subst (λ (n : ℕ). j < n) known.long l);
        near =
            record {
              first_rows = a;
              second_rows = a';
              near = transport_test (near_syndromes p) b b' known.near;
            };
        read = e ∙ ap₂ (λ (y z : List ℕ). fills ys y z) b b';
      }

  -- where the code has found a filling
  found_filling : {x : List ℕ} {is : List ℕ} {N : ℕ} {r : Option (found.Filling N)} {g : found.Filling N}
      → ((zs S S' : List ℕ) → fill_at p is (sums p u) ≡ fills zs S S' → Usable p (length is) zs S S') → FilledBy t u is x r → r ≡ Some g
      → Completed t u is g.symbols g.syndromes
  found_filling {is = is} {N = N} {g = g} usable f e =
      completed_by g.syndromes usable (subst (λ (z : Option (found.Filling N)). SameFilling t (filling_of z) (fill_at p is (sums p u))) e f.filling)

  -- and where it has found none
  pub none_found : {x is : List ℕ} {N : ℕ} {r : Option (found.Filling N)} → FilledBy t u is x r → r ≡ None → completed p u is ≡ unreadable
  none_found {is = is} {N = N} f e =
      let none = subst (λ (z : Option (found.Filling N)). SameFilling t (filling_of z) (fill_at p is (sums p u))) e f.filling in
      rw (same_none t nothing (fill_at p is (sums p u)) none refl)

  pub one_completed : (i : ℕ) {x : List ℕ} {r : Option (found.Filling 1)} {g : found.Filling 1} → FilledBy t u (i ∷ []) x r → r ≡ Some g
      → Completed t u (i ∷ []) g.symbols g.syndromes
  one_completed i = found_filling (λ zs S S'. one_usable p (erased_at p i) (sums p u))

  pub two_completed : (i j : ℕ) {x : List ℕ} {r : Option (found.Filling 2)} {g : found.Filling 2} → FilledBy t u (i ∷ j ∷ []) x r → r ≡ Some g
      → Completed t u (i ∷ j ∷ []) g.symbols g.syndromes
  two_completed i j = found_filling (λ zs S S'. two_usable p (erased_at p i) (erased_at p j) (sums p u))

-- lists of one and of two
one_symbol : (ys : List ℕ) → length ys ≡ 1 → ys ≡ get_or ys 0 0 ∷ []
one_symbol [] e = absurd (omega arith)
one_symbol (y ∷ []) e = refl
one_symbol (y ∷ z ∷ ys) e = absurd (omega arith)

two_symbols : (ys : List ℕ) → length ys ≡ 2 → ys ≡ get_or ys 0 0 ∷ get_or ys 1 0 ∷ []
two_symbols [] e = absurd (omega arith)
two_symbols (y ∷ []) e = absurd (omega arith)
two_symbols (y ∷ z ∷ []) e = refl
two_symbols (y ∷ z ∷ x ∷ ys) e = absurd (omega arith)

-- the reading of a word so completed
pub one_read : {t : Row} {u ys : List ℕ} {i : ℕ} {s : Syndromes} → Completed t u (i ∷ []) ys s
    → completed (parameters t) u (i ∷ [])
    ≡ read_by (parameters t) (filled (change (i + 1) (get_or ys 0 0) ∷ [])) (set u i (get_or ys 0 0)) (rows_of t (rows s.first))
    (rows_of t (rows s.second))
one_read {t} {u} {ys} {i} {s} c =
    rw (c.read ∙ ap (λ (zs : List ℕ). fills zs (rows_of t (rows s.first)) (rows_of t (rows s.second))) (one_symbol ys c.long))

pub two_read : {t : Row} {u ys : List ℕ} {i j : ℕ} {s : Syndromes} → Completed t u (i ∷ j ∷ []) ys s
    → completed (parameters t) u (i ∷ j ∷ [])
    ≡ read_by (parameters t) (filled (change (i + 1) (get_or ys 0 0) ∷ change (j + 1) (get_or ys 1 0) ∷ []))
    (set (set u i (get_or ys 0 0)) j (get_or ys 1 0)) (rows_of t (rows s.first)) (rows_of t (rows s.second))
two_read {t} {u} {ys} {i} {j} {s} c =
    rw (c.read ∙ ap (λ (zs : List ℕ). fills zs (rows_of t (rows s.first)) (rows_of t (rows s.second))) (two_symbols ys c.long))
