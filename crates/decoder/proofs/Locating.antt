-- The position that the syndromes name, for the decoder's row and its rows of syndromes; and where its symbol stands in the word.
-- Assumes nothing.
use mathlib.Core.Path.{◌≡◌, sym, ap, ap₂, subst, ◌∙◌}
use mathlib.Core.Bool.{Bool}
use mathlib.Core.List.{List}
use Prim.Native.Nat.{ℕ, ◌-◌, ◌/◌, ◌≤◌, ◌<◌}
use native.Mathlib.Omega.{arith}
use lib.IntN.{ℤ}
use Rattle.code_theory.specs.Parameters.{Edition, Parameters, in_edition, balanced_length, codeword_length}
use Rattle.code_theory.specs.Component.{Below}
use Rattle.code_theory.specs.Profiles.{profile}
use Rattle.code_theory.proofs.Columns.{q_positive}
use Rattle.code_theory.proofs.Merge.{word_of, word_below}
use Rattle.decoding_theory.proofs.Changed.{index_within}
use Rattle.locating_theory.specs.ErrorPosition as model
use Rattle.locating_theory.specs.ErrorPosition.{at, error_position}
use Rattle.locating_theory.proofs.Position.{position_index}
use Rattle.profiles.specs.declared.row.Row.{Row}
use Rattle.profiles.specs.Edition.{edition_is}
use Rattle.profiles.specs.Row.{parameters, RowOf}
use Rattle.symbols.specs.Syndromes.{rows}
use Rattle.syndromes.specs.Rows.{rows_among, rows_of}
use Rattle.decoder.specs.declared.search.Search.{Search}
use Rattle.decoder.specs.Totals.{WholeWord}
use Rattle.decoder.specs.Search.{parameters_of, sums_in, parity_of}

-- a profile's row is that of its own edition
pub row_own : {o : Edition} {i : ℕ} {t : Row} → RowOf o i t → RowOf (edition_is t.edition) i t
row_own {o} {i} {t} of = subst (λ (o : Edition). RowOf o i t) (sym (ap (λ (p : Parameters). p.edition) of.same)) of

module _ (x : Search) {i : ℕ} (of : RowOf (edition_is x.row.edition) i x.row) where
  pub located_by : {odd : Bool} {e : ℤ} {l : model.Location} → odd ≡ parity_of x → e ≡ x.s.excess
      → l ≡ error_position (in_edition (edition_is x.row.edition) (profile i)) odd e (rows_among (profile i).r (rows x.s.syndromes.first))
      (rows_among (profile i).r (rows x.s.syndromes.second))
      → l ≡ error_position (parameters_of x) (parity_of x) x.s.excess (sums_in x).first (sums_in x).second
  unfolding rows_of rows_among
  located_by o e g =
      let by : Parameters → Bool → ℤ → model.Location =
      λ p b z. error_position p b z (rows_among p.r (rows x.s.syndromes.first)) (rows_among p.r (rows x.s.syndromes.second)) in
      g ∙ ap₂ (by (in_edition (edition_is x.row.edition) (profile i))) o e
      ∙ ap (λ (p : Parameters). by p (parity_of x) x.s.excess) (sym of.same)

-- the symbols of a word are levels
pub word_levels : {t : Row} {word : List ℕ} → WholeWord t word → Below t.q word
word_levels {t} {word} w =
    let p : Parameters = parameters t in
    word_below p.q (codeword_length p) word (q_positive p w.valid.sized)
    (word_of p.q (codeword_length p) word w.long w.below)

-- the symbol at a position is one of the body
pub position_within : (p : Parameters) (b : Bool) (e : ℤ) (S S' : List ℕ) (i : ℕ) → error_position p b e S S' ≡ at i
    → (1 ≤ i) × (i - 1 < balanced_length p)
position_within p b e S S' i is =
    let (some, here, within) = position_index p b e S S' i is in
    (some, omega (arith, here, index_within p b ((i - 1) / 2) within))
