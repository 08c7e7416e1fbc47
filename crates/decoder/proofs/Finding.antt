-- What is known of the position that the search found, and of the body corrected there.
-- Assumes nothing.
use mathlib.Core.Path.{◌≡◌}
use mathlib.Core.Bool.{Bool, true, false}
use mathlib.Core.List.{List}
use Prim.Native.Nat.{ℕ, ◌+◌, ◌≤◌, ◌<◌}
use native.Mathlib.Omega.{arith}
use lib.Dec.{T}
use lib.ListN.{get_or, set}
use Rattle.std.specs.Prelude.{Some}
use Rattle.code_theory.specs.Parameters.{Parameters}
use Rattle.code_theory.specs.Reading.{correction_at, corrected}
use Rattle.decoding_theory.specs.Syndromes.{near_syndromes, index}
use Rattle.decoding_theory.specs.Decoded.{position_count, balancing_symbol, in_range, read_by, read_fit, decoded_body}
use Rattle.decoding_theory.proofs.Changed.{index_within}
use Rattle.symbols.specs.declared.sums.Syndromes.{Syndromes}
use Rattle.symbols.specs.Syndromes.{rows}
use Rattle.decoder.specs.declared.search.Search.{Search}
use Rattle.syndromes.specs.Rows.{rows_of}
use Rattle.decoder.specs.Totals.{WholeWord}
use Rattle.decoder.specs.Search.{parameters_of, sums_in, parity_of, After}
use Rattle.decoder.specs.Locate.{FirstFit, FitsFirst}
use Rattle.decoder.proofs.Sent.{sent_below}
use Rattle.decoder.proofs.Answering.{body_found, found_range, found_near}

-- an index that is found is the first that fits
pub fits_first : {x : Search} {word : List ℕ} {k : ℕ} → WholeWord x.row word → FirstFit x word (Some k) → FitsFirst x word k
fits_first whole found = record { is = whole; first = found.0; within = found.1 }

-- at most one more than a component has
count_upto : (p : Parameters) (b : Bool) → position_count p b ≤ p.n + 1
count_upto p true = omega arith
count_upto p false = omega arith

module _ {x : Search} {word : List ℕ} {k : ℕ} (found : FitsFirst x word k) where
  abbrev p : Parameters
  p = parameters_of x

  pub fit_small : k ≤ 48
  fit_small = omega (arith, found.within, count_upto p (parity_of x), x.valid.length)

  -- the index in the word
  module _ {i : ℕ} (i-is : i ≡ index (parity_of x) k) where
    pub fit_index : i < x.row.balanced
    fit_index = omega (arith, i-is, index_within p (parity_of x) k found.within, x.valid.balanced)

    fit_range : T (in_range p (sums_in x) (get_or word i 0))
    fit_range = rw i-is (found_range p (sums_in x) word (parity_of x) found.first found.within)

    pub fit_level : {y : ℕ} → y ≡ balancing_symbol p (sums_in x) (get_or word i 0) → y < x.row.q
    fit_level y-is = rw y-is (sent_below p (sums_in x) (get_or word i 0) fit_range)

    pub fit_read : {y : ℕ} {z : Syndromes} → After x k z → y ≡ balancing_symbol p (sums_in x) (get_or word i 0)
        → decoded_body p (sums_in x) (parity_of x) word
        ≡ read_by p (corrected (correction_at i (get_or word i 0) y)) (set word i y) (rows_of x.row (rows z.first))
        (rows_of x.row (rows z.second))
    unfolding read_fit
    fit_read moved y-is =
        rw (moved.first_is, moved.second_is, y-is, i-is)
        (body_found p (sums_in x) word (parity_of x) found.first found.within)

  pub fit_near : {z : Syndromes} → After x k z → T (near_syndromes p (rows_of x.row (rows z.first)) (rows_of x.row (rows z.second)))
  fit_near moved = rw (moved.first_is, moved.second_is) (found_near p (sums_in x) word (parity_of x) found.first found.within)
