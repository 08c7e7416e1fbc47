-- The first index that fits, by the position of the error: an index that fits makes the syndromes near, so it is the error's.
-- Assumes nothing.
use mathlib.Core.Path.{◌≡◌, sym, ap, subst, ◌∙◌}
use mathlib.Core.Logic.{◌≢◌}
use mathlib.Core.Bool.{Bool, true, false}
use mathlib.Core.List.{List}
use Prim.Native.Nat.{ℕ, ◌-◌, ◌/◌, ◌≤◌, ◌<◌}
use native.Mathlib.Omega.{arith}
use lib.Dec.{T}
use lib.ListN.{get_or}
use lib.IntN.{pos}
use Rattle.modular_theory.specs.Residue.{Prime}
use Rattle.modular_theory.proofs.Search.{holds, le_of_not_lt, least_le, least_hit, least_is}
use Rattle.code_theory.specs.Parameters.{Parameters, Sized}
use Rattle.code_theory.specs.Component.{Below}
use Rattle.decoding_theory.specs.Syndromes.{index}
use Rattle.decoding_theory.specs.Decoded.{Sums, balancing_symbol, in_range, off_by_lack, near_after, fits, position_count, first_fit}
use Rattle.decoding_theory.proofs.Tests.{and_three, three_parts, false_test}
use Rattle.decoding_theory.proofs.Fits.{Fit, fit}
use Rattle.locating_theory.specs.ErrorPosition.{is_error, near_with, near_without, error_index, at, nowhere, error_position}
use Rattle.locating_theory.proofs.Gain.{error_within, error_unit, error_of_levels, gain_is}
use Rattle.locating_theory.proofs.Index.{index_near, index_found, index_first, index_is}
use Rattle.locating_theory.proofs.Position.{not_nowhere, position_found, AtIndex, at_index, position_before, position_half}

-- near after the correction is near without the excess
pub near_after_lem : (p : Parameters) (t : Sums) (b : Bool) (k : ℕ) → near_after p t b k ≡ near_without p b t.excess t.first t.second k
unfolding near_after near_without near_with
near_after_lem p t b k = rw (gain_is p t)

module _ (p : Parameters) (t : Sums) (b : Bool) (v : List ℕ) where
  abbrev fits_at : ℕ → Bool
  fits_at k = fits p t b k (get_or v (index b k) 0)

  parts : (k : ℕ) → T (fits_at k)
      → T (in_range p t (get_or v (index b k) 0)) × T (off_by_lack p t b) × T (near_without p b t.excess t.first t.second k)
  unfolding fits
  parts k f =
      let (r, o, n) = three_parts (in_range p t (get_or v (index b k) 0)) (off_by_lack p t b) (near_after p t b k) f in
      (r, o, subst T (near_after_lem p t b k) n)

  none_fits : ((k : ℕ) → k < position_count p b → T (fits_at k) → ⊥) → first_fit p t b v ≡ position_count p b
  unfolding first_fit
  none_fits f =
      let low : position_count p b ≤ first_fit p t b v =
      le_of_not_lt (λ l. f (first_fit p t b v) l (least_hit fits_at (position_count p b) l)) in
      let high : first_fit p t b v ≤ position_count p b = least_le fits_at (position_count p b) in
      omega arith

  -- a fit changes one level to another, so the excess is an error
  pub fit_error : t.excess ≢ pos 0 → Below p.q v → (k : ℕ) → T (fits p t b k (get_or v (index b k) 0)) → T (is_error p.q t.excess)
  fit_error n below k f =
      let x : ℕ = get_or v (index b k) 0 in
      let y : ℕ = balancing_symbol p t x in
      let h : Fit p t b k x y = fit p t b k x f in
      error_of_levels p.q x y t.excess (below (index b k)) h.below h.balances n

  -- no index fits where there is no position
  pub fit_nowhere : t.excess ≢ pos 0 → Below p.q v → error_position p b t.excess t.first t.second ≡ nowhere
      → first_fit p t b v ≡ position_count p b
  fit_nowhere n below h =
      none_fits
      (λ k l f.
      let found : error_index p b t.excess t.first t.second < position_count p b =
      index_found p b t.excess t.first t.second k l (parts k f).2 in
      not_nowhere (sym h ∙ position_found p b t.excess t.first t.second (fit_error n below k f) found))

  -- nor where the check symbol is off by something else than the weight
  pub fit_none_off : off_by_lack p t b ≡ false → first_fit p t b v ≡ position_count p b
  fit_none_off h = none_fits (λ k l f. false_test h (parts k f).1)

  module _ (i : ℕ) (h : error_position p b t.excess t.first t.second ≡ at i) where
    says : AtIndex p b t.excess t.first t.second i
    says = at_index p b t.excess t.first t.second i h

    -- the error's index
    abbrev own : ℕ
    own = error_index p b t.excess t.first t.second

    before : i - 1 ≡ index b own
    before = position_before p b t.excess t.first t.second i h

    half : (i - 1) / 2 ≡ own
    half = position_half p b t.excess t.first t.second i h

    -- nor where the symbol at the position has no room for the change
    pub fit_out_of_range : Sized p → Prime p.q → in_range p t (get_or v (i - 1) 0) ≡ false → first_fit p t b v ≡ position_count p b
    fit_out_of_range s prime r =
        none_fits
        (λ k l f.
        let is : own ≡ k =
        index_is p b t.excess t.first t.second s (error_within p.q t.excess says.error)
        (error_unit prime t.excess says.error) k l (parts k f).2 in
        false_test (ap (λ (x : ℕ). in_range p t (get_or v x 0)) (ap (index b) (sym is) ∙ sym before) ∙ r) (parts k f).0)

    -- and where it has, the error's index is the first that fits
    pub fit_at : off_by_lack p t b ≡ true → in_range p t (get_or v (i - 1) 0) ≡ true
        → (first_fit p t b v ≡ (i - 1) / 2) × ((i - 1) / 2 < position_count p b)
    unfolding fits first_fit
    fit_at o r =
        let within : own < position_count p b = says.within in
        let near : T (near_without p b t.excess t.first t.second own) =
        index_near p b t.excess t.first t.second within in
        let hit : T (fits_at own) =
        and_three (in_range p t (get_or v (index b own) 0)) (off_by_lack p t b) (near_after p t b own)
        (holds _ (ap (λ (x : ℕ). in_range p t (get_or v x 0)) (sym before) ∙ r)) (holds _ o) (subst T (sym (near_after_lem p t b own)) near) in
        let first : first_fit p t b v ≡ own =
        least_is fits_at (position_count p b) own within hit
        (λ j m f. index_first p b t.excess t.first t.second j m (parts j f).2) in
        (first ∙ sym half, omega (arith, half))
