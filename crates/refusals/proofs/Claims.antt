-- The claims of specs/Claims.antt, proved.
-- Assumes nothing.
use Rattle.std.proofs.Common.{◌≡◌, ℕ, ◌≢◌, [], ◌∷◌, get_or, refl, sym, ap, ◌∙◌, arith}
use Rattle.refusals.specs.declared.Refusal.{Refusal}
use Rattle.refusals.specs.declared.Refusal.TheVariants.{Profile, Length, Symbol, Unreadable, SheetLength, Unsound, BoxNumber, Full, Form, NoRecord, Erasures, Edition, NotClean, LineRule}
use Rattle.refusals.specs.Number.{number_of}
use Rattle.refusals.specs.Claims.{Claims}

-- the refusal that has a number
refusal_of : ℕ → Refusal
refusal_of n =
    get_or
    (Profile ∷ Profile ∷ Length ∷ Symbol ∷ Unreadable ∷ SheetLength ∷ Unsound ∷ BoxNumber ∷ Full ∷ Form ∷ NoRecord ∷ Erasures ∷ Edition
    ∷ NotClean
    ∷ LineRule
    ∷ []) n
    Profile

refusal_of_lem : (r : Refusal) → refusal_of (number_of r) ≡ r
unfolding refusal_of
refusal_of_lem Profile = refl
refusal_of_lem Length = refl
refusal_of_lem Symbol = refl
refusal_of_lem Unreadable = refl
refusal_of_lem SheetLength = refl
refusal_of_lem Unsound = refl
refusal_of_lem BoxNumber = refl
refusal_of_lem Full = refl
refusal_of_lem Form = refl
refusal_of_lem NoRecord = refl
refusal_of_lem Erasures = refl
refusal_of_lem Edition = refl
refusal_of_lem NotClean = refl
refusal_of_lem LineRule = refl

pub numbers_differ : (r s : Refusal) → number_of r ≡ number_of s → r ≡ s
numbers_differ r s e = sym (refusal_of_lem r) ∙ ap refusal_of e ∙ refusal_of_lem s

pub none_is_success : (r : Refusal) → number_of r ≢ 0
none_is_success Profile e = absurd (omega arith)
none_is_success Length e = absurd (omega arith)
none_is_success Symbol e = absurd (omega arith)
none_is_success Unreadable e = absurd (omega arith)
none_is_success SheetLength e = absurd (omega arith)
none_is_success Unsound e = absurd (omega arith)
none_is_success BoxNumber e = absurd (omega arith)
none_is_success Full e = absurd (omega arith)
none_is_success Form e = absurd (omega arith)
none_is_success NoRecord e = absurd (omega arith)
none_is_success Erasures e = absurd (omega arith)
none_is_success Edition e = absurd (omega arith)
none_is_success NotClean e = absurd (omega arith)
none_is_success LineRule e = absurd (omega arith)

pub claims : Claims
claims = record { numbers_differ = numbers_differ; none_is_success = none_is_success }
