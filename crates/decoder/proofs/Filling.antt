-- Erased symbols are filled by four rows as by the r rows of the definitions: what one more of a symbol adds has the rows that r does not
-- have at 0, and so it is with any multiple of it.
-- Assumes nothing.
use mathlib.Core.Path.{◌≡◌, refl, sym, ap, ap₂, subst, ◌∙◌, fun_ext}
use mathlib.Core.Bool.{Bool, true, false, ◌&&◌}
use mathlib.Core.List.{List, [], ◌∷◌}
use Prim.Native.Nat.{ℕ, zero, suc, ◌+◌, ◌*◌, ◌%◌, ◌≤◌, ◌<◌}
use native.Mathlib.Nat.{mod-lt, mul-zero, zero-mod}
use native.Mathlib.Omega.{arith}
use lib.Dec.{eqb, ltb}
use lib.IntN.{ℤ, pos, ◌+ℤ◌, ◌-ℤ◌}
use Rattle.modular_theory.specs.Level.{level_of, is_zero}
use lib.ListN.{get_or}
use Rattle.modular_theory.specs.Search.{least}
use Rattle.code_theory.specs.Parameters.{Parameters}
use Rattle.code_theory.proofs.Columns.{q_positive}
use Rattle.decoding_theory.specs.Syndromes.{near_syndromes}
use Rattle.decoding_theory.specs.Decoded.{Sums, sums, update, agrees}
use Rattle.decoding_theory.specs.Filled.{Erased, erased_at, plus_multiple, sums_with, consistent, codeword_sums, wanted, fillable}
use Rattle.decoding_theory.specs.Filled.{Filling, fill_one, first_level, fill_two, fill_at}
use Rattle.profiles.specs.declared.row.Row.{Row}
use Rattle.profiles.specs.Row.{parameters, Valid}
use Rattle.symbols.specs.declared.sums.Syndrome.{Syndrome}
use Rattle.symbols.specs.Syndromes.{four_rows, rows}
use Rattle.syndromes.specs.Rows.{FourRows, rows_of}
use Rattle.decoder.specs.Erased.{SameRows, SameErased, in_body_lem, as_check_lem, SameSums, SameFilling}
use Rattle.syndromes.proofs.FourRows.{rows_digit, rows_last, near_same}
use Rattle.syndromes.proofs.Moving.{rows_are}

-- y times e added to s, row by row
abbrev plus : ℕ → ℕ → Syndrome → Syndrome → Syndrome
plus q y e s =
    record {
      low = (s.low + y * e.low) % q;
      mid = (s.mid + y * e.mid) % q;
      high = (s.high + y * e.high) % q;
      ones = (s.ones + y * e.ones) % q;
    }

update_same : (b : Bool) {y z : ℕ} {f g : Bool → ℕ} → y ≡ z → ((c : Bool) → f c ≡ g c) → (c : Bool) → update b y f c ≡ update b z g c
update_same true e h true = e
update_same true e h false = h false
update_same false e h true = h true
update_same false e h false = e

module _ (t : Row) (v : Valid t) where
  abbrev p : Parameters
  p = parameters t

  -- the same with four rows
  abbrev p₄ : Parameters
  p₄ = four_rows t.q t.n

  q₁ : 1 ≤ t.q
  q₁ = q_positive p v.sized

  module _ (y : ℕ) (e s : Syndrome) (w : FourRows t (rows e)) (w' : FourRows t (rows s)) where
    row_is : (j : ℕ) → j < 4 → get_or (rows (plus t.q y e s)) j 0 ≡ (get_or (rows s) j 0 + y * get_or (rows e) j 0) % t.q
    row_is zero h = refl
    row_is (suc zero) h = refl
    row_is (suc (suc zero)) h = refl
    row_is (suc (suc (suc zero))) h = refl
    row_is (suc (suc (suc (suc j)))) h = absurd (omega arith)

    plus_levels : FourRows t (rows (plus t.q y e s))
    plus_levels =
        record {
          below = λ j h. rw (row_is j h) (mod-lt _ q₁);
          unused = λ j h l.
              row_is j (omega arith) ∙ rw (w.unused j h l, w'.unused j h l, mul-zero) (zero-mod t.q);
        }

    plus_are : rows_of t (rows (plus t.q y e s)) ≡ plus_multiple p y (rows_of t (rows e)) (rows_of t (rows s))
    unfolding plus_multiple
    plus_are =
        rows_are t v (rows (plus t.q y e s)) (λ j. (get_or (rows_of t (rows s)) j 0 + y * get_or (rows_of t (rows e)) j 0) % t.q)
        (λ j h. row_is j (omega (arith, v.checks)) ∙ rw (rows_digit t v (rows s) j h, rows_digit t v (rows e) j h))
        (rw (rows_last t v (rows s), rows_last t v (rows e)))

  plus_rows : (y : ℕ) (e s : Syndrome) → plus_multiple p₄ y (rows e) (rows s) ≡ rows (plus t.q y e s)
  unfolding plus_multiple
  plus_rows y e s = refl

  plus_same : (y : ℕ) {E F S S' : List ℕ} → SameRows t E F → SameRows t S S' → SameRows t (plus_multiple p₄ y E S) (plus_multiple p y F S')
  plus_same y e s =
      record {
        four = plus t.q y e.four s.four;
        levels = plus_levels y e.four s.four e.levels s.levels;
        is = ap₂ (plus_multiple p₄ y) e.is s.is ∙ plus_rows y e.four s.four;
        are = ap₂ (plus_multiple p y) e.are s.are ∙ sym (plus_are y e.four s.four e.levels s.levels);
      }

  with_same : {d d' : Erased} (y : ℕ) {a b : Sums} → SameErased t d d' → SameSums t a b → SameSums t (sums_with p₄ d y a) (sums_with p d' y b)
  with_same y (in_body_lem c e e') s =
      record {
        excess = ap (λ (z : ℤ). z +ℤ pos y) s.excess;
        asked = update_same c (ap (λ (x : ℕ). (x + y) % t.q) (s.asked c)) s.asked;
        arrived = s.arrived;
        first = plus_same y e s.first;
        second = plus_same y e' s.second;
      }
  with_same y (as_check_lem c) s =
      record { excess = s.excess; asked = s.asked; arrived = update_same c refl s.arrived; first = s.first; second = s.second }

  near_both : {S S' F F' : List ℕ} → SameRows t S F → SameRows t S' F' → near_syndromes p₄ S S' ≡ near_syndromes p F F'
  near_both a b =
      ap₂ (near_syndromes p₄) a.is b.is ∙ near_same t v a.four b.four a.levels b.levels
      ∙ sym (ap₂ (near_syndromes p) a.are b.are)

  sums_same : {a b : Sums} → SameSums t a b → codeword_sums p₄ a ≡ codeword_sums p b
  unfolding codeword_sums consistent
  sums_same {a} {b} s =
      let check : (c : Bool) → agrees a c ≡ agrees b c = λ c. ap₂ eqb (s.asked c) (s.arrived c) in
      ap₂ ◌&&◌ (ap₂ ◌&&◌ (ap₂ ◌&&◌ (ap is_zero s.excess) (check true)) (check false)) (near_both s.first s.second)

  wanted_same : {d d' : Erased} {a b : Sums} → SameErased t d d' → SameSums t a b → wanted t.q d a ≡ wanted t.q d' b
  wanted_same (in_body_lem c e e') s = ap (λ (z : ℤ). level_of t.q (pos 0 -ℤ z)) s.excess
  wanted_same (as_check_lem c) s = s.asked c

  module _ {d d' : Erased} {a b : Sums} (e : SameErased t d d') (s : SameSums t a b) where
    -- the sums once what is wanted stands there
    filled_same : SameSums t (sums_with p₄ d (wanted t.q d a) a) (sums_with p d' (wanted t.q d' b) b)
    filled_same = rw (wanted_same e s) (with_same (wanted t.q d' b) e s)

    fillable_same : fillable p₄ d a ≡ fillable p d' b
    unfolding fillable
    fillable_same = ap₂ ◌&&◌ (ap (λ (x : ℕ). ltb x t.q) (wanted_same e s)) (sums_same filled_same)

    pub one_same : SameFilling t (fill_one p₄ d a) (fill_one p d' b)
    unfolding fill_one
    one_same = go (fillable p d' b) refl
      where
        go : (c : Bool) → fillable p d' b ≡ c → SameFilling t (fill_one p₄ d a) (fill_one p d' b)
        go true f =
            rw (fillable_same ∙ f, fill_one, f)
            (ap (λ (x : ℕ). x ∷ []) (wanted_same e s), filled_same.first, filled_same.second)
        go false f = rw (fillable_same ∙ f, fill_one, f) tt

  pub two_same : {d d' e e' : Erased} {a b : Sums} → SameErased t d d' → SameErased t e e' → SameSums t a b
      → SameFilling t (fill_two p₄ d e a) (fill_two p d' e' b)
  unfolding fill_two first_level
  two_same {d} {d'} {e} {e'} {a} {b} f f' s = go (ltb (first_level p d' e' b) t.q) refl
    where
      level_same : first_level p₄ d e a ≡ first_level p d' e' b
      level_same =
          ap (λ (test : ℕ → Bool). least test t.q) (fun_ext (λ y. fillable_same f' (with_same y f s)))

      y : ℕ
      y = first_level p d' e' b

      after : SameSums t (sums_with p₄ d (first_level p₄ d e a) a) (sums_with p d' y b)
      after = rw level_same (with_same y f s)

      go : (c : Bool) → ltb (first_level p d' e' b) t.q ≡ c → SameFilling t (fill_two p₄ d e a) (fill_two p d' e' b)
      go true h =
          rw (ap (λ (x : ℕ). ltb x t.q) level_same ∙ h, fill_two, h)
          (ap₂ (λ (x z : ℕ). x ∷ z ∷ []) level_same (wanted_same f' after), (filled_same f' after).first, (filled_same f' after).second)
      go false h = rw (ap (λ (x : ℕ). ltb x t.q) level_same ∙ h, fill_two, h) tt

  -- What the steps of crate fillings answer of a word u, whose sums are b.
  module _ (u : List ℕ) {a b : Sums} (s : SameSums t a b) (is : b ≡ sums p u) where
    pub found_one : {f : Filling} {d : Erased} (i : ℕ) → SameErased t d (erased_at p i) → f ≡ fill_one p₄ d a
        → SameFilling t f (fill_at p (i ∷ []) (sums p u))
    found_one {f} {d} i e h =
        subst (λ (x : Filling). SameFilling t x (fill_at p (i ∷ []) (sums p u))) (sym h)
        (subst (λ (x : Sums). SameFilling t (fill_one p₄ d a) (fill_at p (i ∷ []) x)) is (one_same e s))

    pub found_two : {f : Filling} {d e : Erased} (i j : ℕ) → SameErased t d (erased_at p i) → SameErased t e (erased_at p j)
        → f ≡ fill_two p₄ d e a → SameFilling t f (fill_at p (i ∷ j ∷ []) (sums p u))
    found_two {f} {d} {e} i j k k' h =
        subst (λ (x : Filling). SameFilling t x (fill_at p (i ∷ j ∷ []) (sums p u))) (sym h)
        (subst (λ (x : Sums). SameFilling t (fill_two p₄ d e a) (fill_at p (i ∷ j ∷ []) x)) is (two_same k k' s))
