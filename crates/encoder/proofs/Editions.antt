-- What edition 18 makes of a shift and of a shifted word, by the row's edition; and a row in its own edition.
-- Assumes nothing.
use mathlib.Core.Path.{◌≡◌, sym, ap, subst, ◌∙◌}
use mathlib.Core.List.{List}
use Prim.Native.Nat.{ℕ, ◌+◌, ◌-◌, ◌≤◌, ◌<◌}
use native.Mathlib.Numerals.{add-one}
use native.Mathlib.Omega.{arith}
use Rattle.code_theory.specs.Parameters.{Edition, Parameters, in_edition}
use Rattle.code_theory.specs.LineRule.{LineRule, encoded_by}
use Rattle.code_theory.specs.Profiles.{profile}
use Rattle.code_theory.specs.Walk.{shift_of}
use Rattle.modular.specs.Byte.{byte_difference}
use Rattle.modular.proofs.Bytes.{byte_difference_lem}
use Rattle.profiles.specs.declared.edition.Edition.TheVariants.{Of2018}
use Rattle.profiles.specs.declared.row.Row.{Row}
use Rattle.profiles.specs.Edition.{edition_is}
use Rattle.profiles.specs.Row.{parameters, RowOf}

pub shift_18 : (t : Row) (s : ℕ) {r : ℕ} → t.edition ≡ Of2018 → s < t.q → t.q ≤ 15 → r ≡ byte_difference t.q (t.q - 1) (s + 1)
    → r ≡ shift_of (parameters t) s
shift_18 t s e l h f =
    let low : t.q - 1 < t.q = omega arith in
    let high : s + 1 ≤ t.q = omega arith in
    (byte_difference_lem low high (omega arith) f).0 ∙ rw (add-one, e)

-- A row in an edition is one in its own.

own_edition : {o : Edition} {i : ℕ} {t : Row} → RowOf o i t → o ≡ edition_is t.edition
own_edition of = sym (ap (λ (p : Parameters). p.edition) of.same)

pub of_own : {o : Edition} {i : ℕ} {t : Row} → RowOf o i t → RowOf (edition_is t.edition) i t
of_own {i = i} {t} of = subst (λ (e : Edition). RowOf e i t) (own_edition of) of

pub encoded_in : {o : Edition} {i : ℕ} {t : Row} → RowOf o i t → (r : LineRule) (a b : List ℕ)
    → encoded_by r (in_edition (edition_is t.edition) (profile i)) a b ≡ encoded_by r (in_edition o (profile i)) a b
encoded_in {i = i} of r a b = ap (λ (e : Edition). encoded_by r (in_edition e (profile i)) a b) (sym (own_edition of))
