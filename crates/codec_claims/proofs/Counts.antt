-- The count of decode's answer: the contract says of a call that no number refuses that it carries the count of the definition.
-- Assumes nothing.
use mathlib.Core.Path.{◌≡◌, refl, ap, ◌∙◌}
use mathlib.Core.List.{List, []}
use Prim.Native.Nat.{ℕ, zero, suc, ◌+◌, ◌≤◌, zero-le}
use native.Mathlib.Nat.{le_refl, le_trans}
use lib.Dec.{le→leb}
use lib.ListN.{length}
use Rattle.code_theory.specs.Parameters.{Parameters}
use Rattle.code_theory.specs.Erasures.{erasures}
use Rattle.code_theory.specs.Reading.{Reading, read, unreadable, received_reading}
use Rattle.code_theory.specs.TriedPositions.{tried_positions}
use Rattle.code_theory.specs.Profiles.{profile_in}
use Rattle.code_theory.specs.Refusal.{first_refusal}
use Rattle.code_theory.specs.Operations.{answered, read_unless, decode_tests, decode_answer}
use Rattle.code_theory.specs.Operations.{report, report_tried}
use Rattle.code_theory.proofs.Refusal.{past}
use Rattle.code_theory.proofs.TriedPositions.{counts_told}
use Rattle.codec_claims.specs.Decoding.{LetThrough, DecodeCounts}
use Rattle.codec_claims.proofs.Decoding.{let_three}
use Rattle.codec_claims.proofs.Corrections.{correction_told}

read_tried : (d : Reading) (t : ℕ) → report_tried (report (answered d t)) ≡ t
read_tried (read f a b) t = refl
read_tried unreadable t = refl

-- no more than were counted
unless_tried : (n : ℕ) (d : Reading) (t : ℕ) → report_tried (report (read_unless n d t)) ≤ t
unless_tried zero d t = rw (read_tried d t) (le_refl t)
unless_tried (suc n) d t = zero-le

module _ (o i : ℕ) (v : List ℕ) (k l : ℕ) where
  read_counts : LetThrough o i v k l → erasures v ≤ 2 → report_tried (report (decode_answer o i v k l)) ≡ tried_positions (profile_in o i) v
  unfolding decode_answer
  read_counts passed few =
      let (edition, (known, (long, (symbols, _)))) = let_three o i v k l passed in
      let none : first_refusal (decode_tests o i v k l) ≡ 0 =
      past (decode_tests o i v k l) [] (edition, (known, (long, (symbols, (le→leb (erasures v) 2 few, tt))))) in
      rw none (read_tried (received_reading (profile_in o i) v) (tried_positions (profile_in o i) v))

  most_counts : report_tried (report (decode_answer o i v k l)) ≤ (profile_in o i).n + 1
  unfolding decode_answer
  most_counts =
      let p : Parameters = profile_in o i in
      le_trans (unless_tried (first_refusal (decode_tests o i v k l)) _ (tried_positions p v)) (counts_told p v).most

pub decode_counts : DecodeCounts
decode_counts o i v r first first' second second' h =
    record {
      let_through = λ passed few. ap report_tried h.answer ∙ read_counts o i v (length first) (length second) passed few;
      to_corrected = λ c t e. (correction_told o i v r first first' second second' h c t e).1;
      most = rw h.answer (most_counts o i v (length first) (length second));
    }
