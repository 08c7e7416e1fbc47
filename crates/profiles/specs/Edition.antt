-- Editions as the code has them, and what a number is looked up as.
-- Assumes nothing.
use Rattle.std.specs.Prelude.{ℕ, true, false, ◌⊎◌, Option, Some, None}
use Rattle.std.proofs.Common.{inl, inr}
use Rattle.code_theory.specs.Parameters.{Edition, edition13, edition18, is_edition, edition_of}
use Rattle.profiles.specs.declared.edition.Edition as declared
use Rattle.profiles.specs.declared.edition.Edition.TheVariants.{Of2013, Of2018}

abbrev pub edition_is : declared.Edition → Edition
edition_is Of2013 = edition13
edition_is Of2018 = edition18

-- what a number was looked up as: an edition, or 02's number 12
abbrev pub looked_up_edition : Option declared.Edition → ℕ ⊎ Edition
looked_up_edition (Some e) = inr (edition_is e)
looked_up_edition None = inl 12

-- the edition of number k, or 02's number 12 where the number is no edition's
unfoldable pub edition_at : ℕ → ℕ ⊎ Edition
edition_at k = elim (is_edition k) [ true ↦ inr (edition_of k) | false ↦ inl 12 ]
