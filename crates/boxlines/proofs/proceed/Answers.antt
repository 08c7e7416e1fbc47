-- `boxlines::proceed` meets its contract: a read that failed, the end of the input, or bytes.
-- Assumes nothing.
use Rattle.std.proofs.Common.{◌≡◌, ℕ, zero, suc, min, Some, None, Ok, Err, List, length, take, refl}
use Rattle.std.proofs.lemmas.List.{take_min}
use Rattle.std.proofs.lemmas.Result.{err_from_is_err_and}
use Rattle.lines_theory.specs.Feed.{Model}
use Rattle.boxlines.specs.declared.Failure.{Failure}
use Rattle.boxlines.specs.declared.Failure.TheVariants.{Read}
use Rattle.boxlines.specs.declared.Answered.{Answered}
use Rattle.boxlines.specs.declared.Next.TheVariants.{More, Ended}
use Rattle.boxlines.specs.Turns.{AnswersPiece, AnswersEnd, AnswersRead}
use Rattle.boxlines.proofs.proceed.Goals as goal

failed : (m : Model) (s : List ℕ) → AnswersRead m None s (Err Read)
unfolding AnswersRead
failed m s = refl

ended : (m : Model) (s : List ℕ) (n lines : ℕ) → n ≡ 0 → AnswersEnd m (Ok lines) → AnswersRead m (Some n) s (Ok (Ended lines))
unfolding AnswersRead
ended m s n lines e a = rw e a

end_failed : (m : Model) (s : List ℕ) (n : ℕ) (f : Failure) → n ≡ 0 → AnswersEnd m (Err f) → AnswersRead m (Some n) s (Err f)
unfolding AnswersRead
end_failed m s n f e a = rw e a

more : (m : Model) (s : List ℕ) (n k : ℕ) (r : Answered) → (n ≡ 0 → ⊥) → k ≡ min n (length s) → AnswersPiece m (take k s) (Ok r)
    → AnswersRead m (Some n) s (Ok (More r))
unfolding AnswersRead
more m s zero k r f e a = absurd (f refl)
more m s (suc n) k r f e a = rw (e, take_min (suc n) s) at a

more_failed : (m : Model) (s : List ℕ) (n k : ℕ) (e : Failure) → (n ≡ 0 → ⊥) → k ≡ min n (length s) → AnswersPiece m (take k s) (Err e)
    → AnswersRead m (Some n) s (Err e)
unfolding AnswersRead
more_failed m s zero k r f e a = absurd (f refl)
more_failed m s (suc n) k r f e a = rw (e, take_min (suc n) s) at a

pub returns-in_default : goal.returns-in_default
returns-in_default c = rw c.in_default.is (failed _ _)

pub returns-in_err-finish : goal.returns-in_err-finish
returns-in_err-finish c =
    let p = err_from_is_err_and c.from_residual.result c.from_residual.ensures.1 in
    rw (p.1, p.2, c.in-Some.is) (end_failed _ _ _ _ c.if-n-eq0.true c.in_err-finish.ensures)

pub returns-then-n-eq0 : goal.returns-then-n-eq0
returns-then-n-eq0 c = rw c.in-Some.is (ended _ _ _ _ c.if-n-eq0.true c.in_ok-finish.ensures)

pub returns-in_err-answer : goal.returns-in_err-answer
returns-in_err-answer c =
    let p = err_from_is_err_and c.from_residual-in_err-answer.result c.from_residual-in_err-answer.ensures.1 in
    rw (p.1, p.2, c.in-Some.is) (more_failed _ _ _ _ _ c.if-n-eq0.false c.min.ensures c.in_err-answer.ensures)

pub returns : goal.returns
returns c = rw c.in-Some.is (more _ _ _ _ _ c.if-n-eq0.false c.min.ensures c.in_ok-answer.ensures)
