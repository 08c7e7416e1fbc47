-- The answer to a call: what is refused, and what is known of a word that no number refuses.
-- Assumes nothing.
use mathlib.Core.Path.{◌≡◌, sym, ap, ap₂, subst, ◌∙◌}
use mathlib.Core.Logic.{◌≢◌}
use mathlib.Core.Bool.{Bool, true, false}
use mathlib.Core.List.{List, [], ◌∷◌}
use Prim.Native.Nat.{ℕ, ◌≤◌}
use native.Mathlib.Nat.{le_refl}
use native.Mathlib.Omega.{arith}
use lib.Dec.{T}
use lib.IntN.{pos}
use lib.ListN.{length}
use Rattle.std.specs.Prelude.{Option, None, ok_or, Result, Ok, Err, ◌==◌, ◌&&◌, nat_le}
use Rattle.code_theory.specs.Refusal.{asks, first_refusal}
use Rattle.code_theory.specs.Parameters.{is_edition, edition_of, Parameters, message_length, codeword_length}
use Rattle.code_theory.specs.Component.{symbols_below, is_word, levels_or_erasures}
use Rattle.code_theory.specs.Erasures.{erasures, erased_indices, most_erasures}
use Rattle.code_theory.specs.Profiles.{is_profile, profile, profile_in}
use Rattle.code_theory.specs.Reading.{received_reading}
use Rattle.code_theory.specs.TriedPositions.{tried_positions}
use Rattle.code_theory.specs.Operations.{Answer, answered, decode_answer}
use Rattle.code_theory.proofs.Merge.{word_of}
use Rattle.code_theory.proofs.Profiles.{profiles_fit, few_levels}
use Rattle.code_theory.proofs.Apart.{apart}
use Rattle.code_theory.proofs.Reading.{near_is_one}
use Rattle.code_theory.proofs.Whole.{whole_reading, length_indices}
use Rattle.code_theory.proofs.Erased.{erased_by_filling}
use Rattle.code_theory.proofs.TriedPositions.{counts_told}
use Rattle.decoding_theory.specs.Decoded.{Sums, sums, decoded_balanced, decoded_unbalanced, decoded_by, decoded}
use Rattle.decoding_theory.specs.TriedPositions.{tried_unbalanced, tried_by, tried_of}
use Rattle.decoding_theory.specs.Filled.{decoded_erased}
use Rattle.decoding_theory.proofs.Decoded.{decoded_reading}
use Rattle.decoding_theory.proofs.TriedPositions.{tried_positions_lem}
use Rattle.decoding_theory.proofs.Erased.{erased_reading}
use Rattle.refusals.specs.declared.Refusal.{Refusal}
use Rattle.refusals.specs.declared.Refusal.TheVariants.{Edition, Profile, Unreadable}
use Rattle.refusals.specs.Number.{number_of}
use Rattle.profiles.specs.declared.row.Row.{Row}
use Rattle.profiles.specs.Row.{parameters, RowOf}
use Rattle.profiles.specs.declared.erased.Erasures.{Erasures}
use Rattle.profiles.specs.declared.erased.Erasures.TheVariants.{Whole, One, Two}
use Rattle.profiles.specs.Refusal.{decode_number, Screening, screening, screened}
use Rattle.profiles.proofs.Refusing.{Admitted, decode_edition_refused, decode_profile_refused}
use Rattle.profiles.proofs.Screening.{screened_refused, screened_whole, screened_one, screened_two}
use Rattle.decoder.specs.declared.totals.Totals.{Totals}
use Rattle.decoder.specs.Method.{answer_by}
use Rattle.decoder.specs.Totals.{WholeWord, sums_of}
use Rattle.decoder.specs.Outputs.{Outputs}
use Rattle.decoder.specs.Erased.{ErasedWord}
use Rattle.decoder.specs.Steps.{Admits}
use Rattle.modular_theory.specs.Level.{is_zero}
use Rattle.modular_theory.proofs.Search.{passes}
use Rattle.modular_theory.proofs.Integer.{is_zero_lem, is_not_zero}

-- the refusal in place of what there is not
abbrev refusal_of : {A : Type 0} → Result A Refusal → Refusal
refusal_of (Ok x) = Unreadable
refusal_of (Err r) = r

pub refused_by : {A : Type 0} {o : Option A} {r s : Refusal} → o ≡ None → Err r ≡ ok_or o s → r ≡ s
refused_by {A} {s = s} n e = ap refusal_of (e ∙ ap (λ (o : Option A). ok_or o s) n)

-- What refuses a call is told by its number, and none is 4.

-- what is tested in a profile
never_four : (a b c : Bool) → first_refusal (asks a 2 ∷ asks b 3 ∷ asks c 11 ∷ []) ≢ 4
never_four false b c e = absurd (omega arith)
never_four true false c e = absurd (omega arith)
never_four true true false e = absurd (omega arith)
never_four true true true e = absurd (omega arith)

readable_number : (t : Row) (u : List ℕ) (k l : ℕ) → decode_number t u k l ≢ 4
unfolding decode_number
readable_number t u k l =
    never_four (length u == t.codeword && k == t.message && l == t.message) (levels_or_erasures t.q u)
    (nat_le (erasures u) (most_erasures (parameters t)))

module _ (e i : ℕ) (u : List ℕ) (k l : ℕ) where
  pub admits_no_edition : is_edition e ≡ false → Admits e i u k l (Err Edition)
  admits_no_edition f = (λ g. absurd (omega arith), decode_edition_refused e i u k l f)

  pub admits_unprofiled : is_edition e ≡ true → is_profile i ≡ false → Admits e i u k l (Err Profile)
  admits_unprofiled f g = (λ h. absurd (omega arith), decode_profile_refused e i u k l f g)

  module _ {t : Row} (edition : is_edition e ≡ true) (of : RowOf (edition_of e) i t) {r : Result Erasures Refusal}
      (is : screened r ≡ screening (decode_number t u k l) (erased_indices 0 u)) where
    pub admits_refused : {n : Refusal} → r ≡ Err n → Admits e i u k l (Err n)
    admits_refused {n} f = (λ g. readable_number t u k l (sym number ∙ g), screened_refused e i u k l edition of r is f)
      where
        number : number_of n ≡ decode_number t u k l
        number = sym (ap (λ (x : Result Erasures Refusal). (screened x).number) f) ∙ ap (λ (s : Screening). s.number) is

    pub admits_word : {es : Erasures} → r ≡ Ok es → Admits e i u k l (Ok (t, es))
    admits_word f = (edition, of, sym (ap screened f) ∙ is)

-- What is known of a call that is admitted.

module _ (e i : ℕ) (u first second : List ℕ) {t : Row} (es : Erasures) (call : Admits e i u (length first) (length second) (Ok (t, es)))
    (f : ℕ → ℕ) where
  abbrev p : Parameters
  p = profile_in e i

  abbrev of : RowOf (edition_of e) i t
  of = call.1

  -- what is answered
  abbrev answer : Answer
  answer = answer_by f (decode_answer e i u (length first) (length second))

  abbrev Known : Type 0
  Known = Admitted e i u (length first) (length second)

  pub outputs_known : Known → Outputs t first second
  outputs_known known =
      record {
        first_long = known.first_long ∙ sym (ap message_length of.same);
        second_long = known.second_long ∙ sym (ap message_length of.same);
      }

  word_long : Known → length u ≡ codeword_length (parameters t)
  word_long known = known.word_long ∙ sym (ap codeword_length of.same)

  -- its symbols are levels
  module _ (whole : es ≡ Whole) where
    screened_so : Known × (erasures u ≡ 0) × T (symbols_below (profile i).q u)
    screened_so =
        screened_whole e i u (length first) (length second) call.0 of (Ok es) call.2 (ap (λ (x : Erasures). Ok x) whole)

    pub whole_known : Known
    whole_known = screened_so.0

    pub word_known : WholeWord t u
    word_known =
        record {
          valid = of.valid;
          long = word_long whole_known;
          below = subst (λ (p : Parameters). T (symbols_below p.q u)) (sym of.same) screened_so.2;
        }

    word_is : T (is_word (profile i).q (codeword_length p) u)
    word_is = word_of (profile i).q (codeword_length p) u whole_known.word_long screened_so.2

    is_decoded : received_reading p u ≡ decoded (parameters t) u
    is_decoded =
        let (s, prime) = profiles_fit.0 e i of.known in
        whole_reading p u screened_so.1 ∙ sym (decoded_reading p s (near_is_one p s prime) u word_is)
        ∙ ap (λ (p : Parameters). decoded p u) (sym of.same)

    is_tried : tried_positions p u ≡ tried_of (parameters t) u
    is_tried =
        let (s, prime) = profiles_fit.0 e i of.known in
        sym (tried_positions_lem p s (near_is_one p s prime) u word_is screened_so.1)
        ∙ ap (λ (p : Parameters). tried_of p u) (sym of.same)

    pub decoded_answer : answer ≡ answered (decoded (parameters t) u) (f (tried_of (parameters t) u))
    decoded_answer = ap (answer_by f) (whole_known.read ∙ ap₂ answered is_decoded is_tried)

  -- one or two are erased
  module _ {l : List ℕ} (known : Known) (erased : erased_indices 0 u ≡ l) (some : 1 ≤ length l) where
    pub erased_known : ErasedWord t u l
    erased_known =
        record {
          valid = of.valid;
          long = word_long known;
          symbols = subst (λ (p : Parameters). T (levels_or_erasures p.q u)) (sym of.same) known.received;
          indices = erased;
        }

    count : 1 ≤ erasures u
    count = omega (arith, some, length_indices 0 u, ap length erased)

    is_filled : received_reading p u ≡ decoded_erased (parameters t) u
    is_filled =
        let (s, prime) = profiles_fit.0 e i of.known in
        erased_by_filling p u count
        ∙ sym (erased_reading p s (few_levels i of.known) 2 (apart p s prime) u known.word_long known.received
        count known.few (le_refl 2))
        ∙ ap (λ (p : Parameters). decoded_erased p u) (sym of.same)

    pub filled_answer : f 0 ≡ 0 → answer ≡ answered (decoded_erased (parameters t) u) 0
    filled_answer none =
        ap (answer_by f) (known.read ∙ ap₂ answered is_filled ((counts_told p u).if_erased count))
        ∙ ap (answered (decoded_erased (parameters t) u)) none

  pub one_known : {a : ℕ} → es ≡ One a → Known × (erased_indices 0 u ≡ a ∷ [])
  one_known h = screened_one e i u (length first) (length second) call.0 of (Ok es) call.2 (ap (λ (x : Erasures). Ok x) h)

  pub two_known : {a b : ℕ} → es ≡ Two a b → Known × (erased_indices 0 u ≡ a ∷ b ∷ [])
  two_known h = screened_two e i u (length first) (length second) call.0 of (Ok es) call.2 (ap (λ (x : Erasures). Ok x) h)

-- the answer by the sums of a word
module _ (t : Row) (u : List ℕ) (s : Totals) (g : sums_of t s ≡ sums (parameters t) u) where
  by_sums : decoded (parameters t) u ≡ decoded_by (parameters t) (sums_of t s) u
  unfolding decoded
  by_sums = ap (λ (x : Sums). decoded_by (parameters t) x u) (sym g)

  tried_sums : tried_of (parameters t) u ≡ tried_by (parameters t) (sums_of t s) u
  unfolding tried_of
  tried_sums = ap (λ (x : Sums). tried_by (parameters t) x u) (sym g)

  pub balanced_answer : s.excess ≡ pos 0
      → answered (decoded (parameters t) u) (tried_of (parameters t) u) ≡ answered (decoded_balanced (parameters t) (sums_of t s) u) 0
  unfolding decoded_by tried_by
  balanced_answer h =
      let f : is_zero s.excess ≡ true = passes (is_zero_lem h) in
      ap₂ answered (by_sums ∙ rw (f, decoded_by)) (tried_sums ∙ rw (f, tried_by))

  pub unbalanced_answer : s.excess ≢ pos 0
      → answered (decoded (parameters t) u) (tried_of (parameters t) u)
      ≡ answered (decoded_unbalanced (parameters t) (sums_of t s) u) (tried_unbalanced (parameters t) (sums_of t s) u)
  unfolding decoded_by tried_by
  unbalanced_answer h =
      let f : is_zero s.excess ≡ false = is_not_zero s.excess h in
      ap₂ answered (by_sums ∙ rw (f, decoded_by)) (tried_sums ∙ rw (f, tried_by))
