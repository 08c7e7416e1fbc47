-- What a `?` hands on.
-- Assumes nothing.
use mathlib.Core.Path.{◌≡◌, refl, ap, ◌∙◌}
use Rattle.std.specs.Prelude.{Option, Some, None, Result, Err, IsErrAnd}
use Rattle.std.specs.Option.{ok_or}
use Rattle.std.proofs.lemmas.Result.{err_from_is_err_and}
use Rattle.refusals.specs.declared.Refusal.{Refusal}
use Rattle.refusals.specs.Number.{number_of, answer_number}

-- the refusal that it was
pub handed_on : (r : Result (Unit {0}) Refusal) (e : Refusal) → IsErrAnd r (λ y. y ≡ e) → answer_number r ≡ number_of e
handed_on r e h = let p = err_from_is_err_and r h in ap answer_number p.1 ∙ ap number_of p.2

-- the refusal that stands for none
pub none_of : {A : Type 0} (o : Option A) (x e : Refusal) → ok_or o x ≡ Err e → (o ≡ None) × (e ≡ x)
none_of None x e h = (refl, cc)
none_of (Some v) x e h = cc
