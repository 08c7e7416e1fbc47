-- What of an answer goes by the method is its count.
-- Assumes nothing.
use mathlib.Core.Path.{◌≡◌, refl, ◌∙◌}
use mathlib.Core.Bool.{Bool, true, false}
use mathlib.Core.List.{List}
use Prim.Native.Nat.{ℕ}
use Rattle.code_theory.specs.Reading.{read, unreadable}
use Rattle.code_theory.specs.Operations.{Answer, refused, answered, report, report_tried, decode_output}
use Rattle.decoder.specs.declared.word.Decoding.{Decoding}
use Rattle.decoder.specs.Decode.{Answers}
use Rattle.decoder.specs.Method.{answer_by}
use Rattle.decoder.specs.SyndromeDecode.{uncounted, SyndromeAnswers}

pub answer_trying : (a : Answer) → a ≡ answer_by (λ t. t) a
answer_trying (refused k) = refl
answer_trying (answered d t) = refl

-- By the syndromes the count is left out.

-- an answer that counts none
abbrev none : Answer → Answer
none = answer_by (λ t. 0)

report_by : (a : Answer) → report (none a) ≡ uncounted (report a)
report_by (refused k) = refl
report_by (answered unreadable t) = refl
report_by (answered (read f x y) t) = refl

tried_none : (a : Answer) → report_tried (report (none a)) ≡ 0
tried_none (refused k) = refl
tried_none (answered unreadable t) = refl
tried_none (answered (read f x y) t) = refl

output_by : (b : Bool) (a : Answer) (out : List ℕ) → decode_output b (none a) out ≡ decode_output b a out
output_by b (refused k) out = refl
output_by b (answered unreadable t) out = refl
output_by true (answered (read f x y) t) out = refl
output_by false (answered (read f x y) t) out = refl

pub answers_uncounted : {a : Answer} {d : Decoding} {first first' second second' : List ℕ} → Answers (none a) d first first' second second'
    → SyndromeAnswers a d.answer first first' second second'
answers_uncounted {a} {d} {first} {first'} {second} h =
    record {
      answer = rw (← (h.tried ∙ tried_none a)) (h.answer ∙ report_by a);
      first_out = rw h.first_out (output_by true a first);
      second_out = rw h.second_out (output_by false a second);
    }
