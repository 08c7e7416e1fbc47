-- The error of a corrected word is that of two levels, and not 0, since what arrived is no codeword.
-- Assumes nothing.
use mathlib.Core.Path.{◌≡◌, refl, sym, ap, subst, ◌∙◌}
use mathlib.Core.Logic.{◌≢◌}
use mathlib.Core.List.{List}
use Prim.Native.Nat.{ℕ, ◌+◌, ◌-◌, ◌<◌}
use native.Mathlib.Omega.{arith}
use lib.Dec.{T, ltb, ltb→lt}
use lib.ListN.{length, get_or, set}
use lib.IntN.{pos, ◌-ℤ◌}
use lib.Seq.{set-get_or}
use borrow.Author.Tests.{ltb-true}
use Rattle.modular_theory.specs.Search.{any_below}
use Rattle.modular_theory.proofs.Search.{least_hit}
use Rattle.modular_theory.proofs.Integer.{difference_zero, difference_within}
use Rattle.code_theory.specs.Parameters.{Parameters, codeword_length}
use Rattle.code_theory.specs.Codeword.{codeword}
use Rattle.code_theory.specs.Reading.{Correction, correction_at, clean, corrected, read, unreadable}
use Rattle.code_theory.specs.Reading.{mends, changed_at, sent_at, near_reading, reading}
use Rattle.code_theory.specs.Claims.{ErrorCarried, ErrorTold, ErrorsTold}
use Rattle.code_theory.proofs.Merge.{cases, word_below}

pub error_carried : ErrorCarried
error_carried = record { by_clean = refl; by_filled = λ cs. refl; by_corrected = λ c. refl }

-- what is said of two corrections
same_correction : {c d : Correction} {a b a' b' : List ℕ} → read (corrected c) a b ≡ read (corrected d) a' b' → c ≡ d
same_correction e = cc

not_clean : {c : Correction} {a b a' b' : List ℕ} → read clean a b ≡ read (corrected c) a' b' → ⊥
not_clean e = let z : ◌≡◌ {A = ℕ} 0 1 = cc in omega arith

not_unreadable : {c : Correction} {a b : List ℕ} → unreadable ≡ read (corrected c) a b → ⊥
not_unreadable e = let z : ◌≡◌ {A = ℕ} 0 1 = cc in omega arith

-- a word that is read as corrected by c: the symbol that it says, at the index that it says, makes a codeword
pub record CorrectedBy (p : Parameters) (v : List ℕ) (c : Correction) : Type 0 where
  pub index : ℕ
  pub symbol : ℕ
  pub below : symbol < p.q
  pub differs : get_or v index 0 ≢ symbol
  pub makes : T (codeword p (set v index symbol))
  pub is : correction_at index (get_or v index 0) symbol ≡ c

module _ (p : Parameters) (v : List ℕ) where
  -- the symbol sent at the first index at which a level mends v
  module _ (not-sent : T (codeword p v) → ⊥) (l : changed_at p v < length v) where
    abbrev i : ℕ
    i = changed_at p v

    abbrev x : ℕ
    x = get_or v i 0

    abbrev y : ℕ
    y = sent_at p v i

    some_level : T (any_below (mends p v i) p.q)
    unfolding changed_at
    some_level = least_hit (λ i. any_below (mends p v i) p.q) (length v) l

    y_below : y < p.q
    unfolding sent_at
    y_below = ltb→lt _ _ some_level

    mended : T (codeword p (set v i y))
    unfolding sent_at mends
    mended = least_hit (mends p v i) p.q y_below

    differ : x ≢ y
    differ e = not-sent (subst (λ (u : List ℕ). T (codeword p u)) (ap (set v i) (sym e) ∙ set-get_or v i 0) mended)

  module _ (c : Correction) (a b : List ℕ) where
    near_corrected : (T (codeword p v) → ⊥) → near_reading p v ≡ read (corrected c) a b → CorrectedBy p v c
    unfolding near_reading
    near_corrected f e =
        cases (ltb (changed_at p v) (length v))
        (λ t.
        let l : changed_at p v < length v = ltb-true _ _ t in
        record {
          index = changed_at p v;
          symbol = sent_at p v (changed_at p v);
          below = y_below f l;
          differs = differ f l;
          makes = mended f l;
          is = same_correction (rw (t, near_reading) at e);
        })
        (λ t. absurd (not_unreadable (rw (t, near_reading) at e)))

    pub reading_corrected : reading p v ≡ read (corrected c) a b → CorrectedBy p v c
    unfolding reading
    reading_corrected e =
        cases (codeword p v) (λ t. absurd (not_clean (rw (t, reading) at e)))
        (λ t. near_corrected (λ h. subst T t h) (rw (t, reading) at e))

pub errors_told : ErrorsTold
errors_told p v w c a b e = subst (ErrorTold p.q v) m.is told
  where
    m : CorrectedBy p v c
    m = reading_corrected p v c a b e

    x : ℕ
    x = get_or v m.index 0

    x_below : x < p.q
    x_below = word_below p.q (codeword_length p) v (omega (arith, m.below)) w m.index

    told : ErrorTold p.q v (correction_at m.index x m.symbol)
    told =
        let back : m.index ≡ m.index + 1 - 1 = omega arith in
        record {
          is = ap (λ (j : ℕ). pos (get_or v j 0) -ℤ pos m.symbol) back;
          within = difference_within (p.q - 1) x m.symbol (omega (arith, x_below)) (omega (arith, m.below));
          some = λ e. m.differs (difference_zero x m.symbol e);
        }
