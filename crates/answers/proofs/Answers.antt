-- From what decoding reports and leaves in its outputs to the line's answer.
-- Assumes nothing.
use Rattle.std.proofs.Common.{◌≡◌, ℕ, Err, ◌-◌, ◌≤◌, true, false, List, length, take, sym, refl, ap, ◌∙◌, zero-le}
use Rattle.code_theory.specs.Parameters.{message_length}
use Rattle.code_theory.specs.Profiles.{is_profile, profile}
use Rattle.code_theory.proofs.Profiles.{profile_none}
use Rattle.code_theory.specs.Reading.{read, unreadable}
use Rattle.code_theory.specs.Operations.{Answer, refused, answered, decode_answer, Report, report, decode_output}
use Rattle.refusals.specs.declared.Refusal.{Refusal}
use Rattle.refusals.specs.declared.Refusal.TheVariants.{Profile, Length, Symbol, Unreadable, SheetLength, Unsound, BoxNumber, Full, Form, NoRecord, Erasures, Edition, NotClean, LineRule}
use Rattle.refusals.specs.Number.{number_of}
use Rattle.decoder.specs.SyndromeDecode.{uncounted, syndrome_report}
use Rattle.lines_theory.specs.Line.{line_edition, refusal_line, answer_line, read_answer, line_answer}
use Rattle.lines_theory.proofs.Order.{line_good}
use Rattle.lines_theory.proofs.Bounds.{SmallAnswer, decode_small}
use Rattle.answers.proofs.Forms.{GoodLine}
use Rattle.answers.specs.Writing.{shown_line, Small}

-- no count is printed
line_shown : (i : ℕ) (d : Answer) (out out' : List ℕ)
    → shown_line i (uncounted (report d)) (decode_output true d out) (decode_output false d out') ≡ answer_line i d
line_shown i (refused n) out out' = refl
line_shown i (answered unreadable t) out out' = refl
line_shown i (answered (read f a b) t) out out' = refl

-- a refusal shows its number, and so does that of an unreadable word
pub shown_refused : (i : ℕ) (r : Refusal) (a b : List ℕ) → refusal_line (number_of r) ≡ shown_line i (syndrome_report (Err r)) a b
shown_refused i Profile a b = refl
shown_refused i Length a b = refl
shown_refused i Symbol a b = refl
shown_refused i Unreadable a b = refl
shown_refused i SheetLength a b = refl
shown_refused i Unsound a b = refl
shown_refused i BoxNumber a b = refl
shown_refused i Full a b = refl
shown_refused i Form a b = refl
shown_refused i NoRecord a b = refl
shown_refused i Erasures a b = refl
shown_refused i Edition a b = refl
shown_refused i NotClean a b = refl
shown_refused i LineRule a b = refl

small_report : (d : Answer) (out out' : List ℕ) → SmallAnswer d
    → Small (uncounted (report d)) (decode_output true d out) (decode_output false d out')
small_report (refused n) out out' s = s
small_report (answered unreadable t) out out' s = tt
small_report (answered (read f a b) t) out out' s = (s.1, s.2, s.3)

-- the outputs a and b are left as a' and b', and r is reported
module _ (i : ℕ) (u a b a' b' : List ℕ) (r : Report) (tells : r ≡ uncounted (report (decode_answer line_edition i u (length a) (length b))))
    (first : a' ≡ decode_output true (decode_answer line_edition i u (length a) (length b)) a)
    (second : b' ≡ decode_output false (decode_answer line_edition i u (length a) (length b)) b) where
  abbrev d : Answer
  d = decode_answer line_edition i u (length a) (length b)

  pub small_shown : Small r a' b'
  small_shown = rw (tells, first, second) (small_report d a b (decode_small line_edition i u (length a) (length b)))

  pub shown_answer : length a ≡ message_length (profile i) → length b ≡ message_length (profile i)
      → shown_line i r a' b' ≡ answer_line i (read_answer i u)
  unfolding read_answer
  shown_answer e f = rw (tells, first, second) (line_shown i d a b ∙ rw (e, f))

-- a number that is no profile's has messages of no symbols
pub message_none : (i : ℕ) → is_profile i ≡ false → (0 ≡ message_length (profile i)) × (0 ≤ 45)
message_none i e = (ap message_length (sym (profile_none i e)), zero-le)

pub line_read : {l word : List ℕ} {i : ℕ} → GoodLine l i word → answer_line i (read_answer i (take (length l - 2) word)) ≡ line_answer l
line_read {l} g = rw (g.profile, g.text) (sym (line_good l g.tested))
