-- A word with 0 at its erased positions: it is one of levels, and completing it is what decoding a word with erasures is.
-- Assumes nothing.
use mathlib.Core.Path.{◌≡◌, sym, ap, ap₂, subst, ◌∙◌}
use mathlib.Core.List.{List, [], ◌∷◌}
use Prim.Native.Nat.{ℕ, ◌≤◌, ◌<◌}
use native.Mathlib.Omega.{arith}
use lib.ListN.{length, take}
use Rattle.code_theory.proofs.Columns.{q_positive}
use Rattle.decoding_theory.specs.Filled.{cleared, decoded_erased}
use Rattle.decoding_theory.proofs.Cleared.{cleared_length, cleared_below, one_at, two_at}
use Rattle.profiles.specs.declared.row.Row.{Row}
use Rattle.profiles.specs.Row.{parameters}
use Rattle.fillings.specs.Cleared.{cleared_array}
use Rattle.fillings.proofs.Clearing.{array_take}
use Rattle.decoder.specs.Totals.{WholeWord}
use Rattle.decoder.specs.Erased.{ErasedWord, completed}

module _ {t : Row} {u is : List ℕ} (w : ErasedWord t u is) where
  long : length u ≡ t.codeword
  long = w.long ∙ sym w.valid.codeword

  short : length u ≤ 99
  short = omega (arith, w.long, w.valid.length)

  -- the array that holds it
  module _ {array : List ℕ} (e : array ≡ cleared_array u) where
    cleared_is : take t.codeword array ≡ cleared u
    cleared_is = ap₂ (λ (n : ℕ) (a : List ℕ). take n a) (sym long) e ∙ array_take u short

    pub cleared_size : t.codeword ≡ length (take t.codeword array)
    cleared_size = sym (ap length cleared_is ∙ cleared_length u ∙ long)

    pub cleared_received : WholeWord t (take t.codeword array)
    cleared_received =
        rw cleared_is
        (record {
          valid = w.valid;
          long = cleared_length u ∙ w.long;
          below = cleared_below t.q (q_positive (parameters t) w.valid.sized) u w.symbols;
        })

    pub erased_is : decoded_erased (parameters t) u ≡ completed (parameters t) (take t.codeword array) is
    unfolding decoded_erased
    erased_is = ap₂ (λ (l v : List ℕ). completed (parameters t) v l) w.indices (sym cleared_is)

pub one_within : {t : Row} {u : List ℕ} {i : ℕ} → ErasedWord t u (i ∷ []) → i < t.codeword
one_within {t} {u} {i} w = subst (λ (n : ℕ). i < n) (long w) (one_at u i w.indices).within

pub two_within : {t : Row} {u : List ℕ} {i j : ℕ} → ErasedWord t u (i ∷ j ∷ []) → (i < t.codeword) × (j < t.codeword)
two_within {t} {u} {i} {j} w =
    let at = two_at u i j w.indices in
    let last : j < t.codeword = subst (λ (n : ℕ). j < n) (long w) at.within in
    (omega (arith, at.less), last)
