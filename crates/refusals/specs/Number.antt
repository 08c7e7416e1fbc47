-- The numbers of refusals (01: Operations and their numbers; 02), and of what is done or refused.
-- Assumes nothing.
use Rattle.std.specs.Prelude.{ℕ, Result, Ok, Err}
use Rattle.refusals.specs.declared.Refusal.{Refusal}
use Rattle.refusals.specs.declared.Refusal.TheVariants.{Profile, Length, Symbol, Unreadable, SheetLength, Unsound, BoxNumber, Full, Form, NoRecord, Erasures, Edition, NotClean, LineRule}

abbrev pub number_of : Refusal → ℕ
number_of Profile = 1
number_of Length = 2
number_of Symbol = 3
number_of Unreadable = 4
number_of SheetLength = 5
number_of Unsound = 6
number_of BoxNumber = 7
number_of Full = 8
number_of Form = 9
number_of NoRecord = 10
number_of Erasures = 11
number_of Edition = 12
number_of NotClean = 13
number_of LineRule = 14

-- the number of what is done or refused; 0 where it is done
abbrev pub answer_number : {A : Type 0} → Result A Refusal → ℕ
answer_number (Ok a) = 0
answer_number (Err r) = number_of r
