-- The numbers of the editions.
-- Assumes nothing.
use Rattle.std.proofs.Common.{◌≡◌, ℕ, Bool, true, false, ◌⊎◌, sym, ap, ◌∙◌, inl, inr, ⊎_elim, arith, ne_eqb, Option, Some, None}
use Rattle.code_theory.specs.Parameters.{Edition, edition13, is_edition, edition_of}
use Rattle.code_theory.proofs.Merge.{cases}
use Rattle.profiles.specs.declared.edition.Edition as declared
use Rattle.profiles.specs.declared.edition.Edition.TheVariants.{Of2013, Of2018}
use Rattle.profiles.specs.Edition.{edition_is, looked_up_edition, edition_at}

pub is_13 : (k : ℕ) → k ≡ 13 → looked_up_edition (Some Of2013) ≡ edition_at k
unfolding edition_at
is_13 k e = rw e

pub is_18 : (k : ℕ) → k ≡ 18 → looked_up_edition (Some Of2018) ≡ edition_at k
unfolding edition_at
is_18 k e = rw e

pub is_neither : (k : ℕ) → (k ≡ 13 → ⊥) → (k ≡ 18 → ⊥) → looked_up_edition None ≡ edition_at k
unfolding edition_at
is_neither k m n = rw (ne_eqb k 13 m, edition_at, ne_eqb k 18 n)

-- What the answer of a lookup says.

-- 02's number, or 0, and the edition
abbrev refusing : ℕ ⊎ Edition → ℕ
refusing = ⊎_elim (λ k. k) (λ e. 0)

abbrev held : ℕ ⊎ Edition → Edition
held = ⊎_elim (λ k. edition13) (λ e. e)

abbrev by : ℕ → Bool → ℕ ⊎ Edition
by k b = elim b [ true ↦ inr (edition_of k) | false ↦ inl 12 ]

module _ (k : ℕ) {r : Option declared.Edition} (e : looked_up_edition r ≡ edition_at k) where
  pub edition_known : {o : declared.Edition} → r ≡ Some o → is_edition k ≡ true
  unfolding edition_at
  edition_known {o} f =
      cases (is_edition k) (λ (t : is_edition k ≡ true). t)
      (λ (t : is_edition k ≡ false).
      let z : ◌≡◌ {A = ℕ} 0 12 = ap refusing (sym (ap looked_up_edition f) ∙ e ∙ ap (by k) t) in
      absurd (omega arith))

  pub edition_is_lem : {o : declared.Edition} → r ≡ Some o → edition_is o ≡ edition_of k
  unfolding edition_at
  edition_is_lem {o} f = ap held (sym (ap looked_up_edition f) ∙ e ∙ ap (by k) (edition_known f))

  pub edition_none : r ≡ None → is_edition k ≡ false
  unfolding edition_at
  edition_none f =
      cases (is_edition k)
      (λ (t : is_edition k ≡ true).
      let z : ◌≡◌ {A = ℕ} 12 0 = ap refusing (sym (ap looked_up_edition f) ∙ e ∙ ap (by k) t) in
      absurd (omega arith))
      (λ (t : is_edition k ≡ false). t)
