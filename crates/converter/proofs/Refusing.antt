-- By which number a call of convert is refused, and that the output stays as it was.
-- Assumes nothing.
use mathlib.Core.Path.{◌≡◌, refl, sym, ap, subst, ◌∙◌}
use mathlib.Core.Logic.{◌≢◌, ◌↔◌}
use mathlib.Core.Bool.{Bool, true, false}
use mathlib.Core.List.{List, [], ◌∷◌}
use Prim.Native.Nat.{ℕ, ◌≤◌}
use native.Mathlib.Omega.{arith}
use lib.Dec.{T, eqb, leb, le→leb, leb→le, eqb→eq}
use lib.ListN.{length}
use Rattle.std.specs.Prelude.{Result}
use borrow.Author.Tests.{lt-leb}
use Rattle.modular_theory.specs.Residue.{Prime}
use Rattle.modular_theory.proofs.Search.{and_left, and_right, and_intro, eq_test, fails}
use Rattle.code_theory.specs.Parameters.{is_edition, Parameters, Sized, codeword_length}
use Rattle.code_theory.specs.Component.{is_received, erasure}
use Rattle.code_theory.specs.Codeword.{codeword}
use Rattle.code_theory.specs.Erasures.{erasures}
use Rattle.code_theory.specs.Reading.{Reading, read, unreadable, received_reading}
use Rattle.code_theory.specs.Profiles.{is_profile, profile_in}
use Rattle.code_theory.specs.Refusal.{Test, asks, first_refusal}
use Rattle.code_theory.specs.Operations.{done, outcome_number}
use Rattle.code_theory.proofs.Merge.{cases}
use Rattle.code_theory.proofs.Profiles.{profiles_fit, few_levels}
use Rattle.code_theory.proofs.Refusal.{AllPass, passed_every, past, stops, kept, wrote}
use Rattle.refusals.specs.declared.Refusal.{Refusal}
use Rattle.encoder.specs.Answer.{encoded_outcome}
use Rattle.encoder.proofs.Refusing.{number_back, refused_outcome}
use Rattle.codec_claims.specs.Encoding.{RefusedBy}
use Rattle.converter.specs.Conversion.{is_read, is_clean, convert_tests, convert_refusal, converted, convert_output}
use Rattle.converter.specs.Answer.{ConvertAllows}
use Rattle.converter.specs.Claims.{MayBeSent, ReachesReading, PassedOn, OnlyCodewords, convert_lengths_fit, ConvertRefuses}
use Rattle.converter.proofs.Clean.{clean_test, unread_exactly, sent_itself}

-- The output, by the number.

pub output_kept : (e i : ℕ) (u out : List ℕ) {k : ℕ} → k ≡ convert_refusal e i u (length out) → k ≢ 0 → out ≡ convert_output e i u out
unfolding convert_output
output_kept e i u out f d = kept (convert_refusal e i u (length out)) (converted e i u) out (λ z. d (f ∙ z))

pub output_done : (e i : ℕ) (u out : List ℕ) → 0 ≡ convert_refusal e i u (length out) → converted e i u ≡ convert_output e i u out
unfolding convert_output
output_done e i u out f = wrote (convert_refusal e i u (length out)) (converted e i u) out (sym f)

-- The tests of a call, and what they say where they pass.
module _ (e i : ℕ) (u : List ℕ) (l : ℕ) where
  abbrev p : Parameters
  p = profile_in e i

  abbrev editioned : Test
  editioned = asks (is_edition e) 12

  abbrev profiled : Test
  profiled = asks (is_profile i) 1

  abbrev long : Test
  long = asks (convert_lengths_fit i u l) 2

  abbrev symbols : Test
  symbols = asks (is_received p u) 3

  abbrev few : Test
  few = asks (leb (erasures u) 2) 11

  abbrev readable : Test
  readable = asks (is_read (received_reading p u)) 4

  abbrev clean : Test
  clean = asks (is_clean (received_reading p u)) 13

  -- the reading's
  abbrev last : List Test
  last = readable ∷ clean ∷ []

  -- the first test that fails

  pub is_12 : is_edition e ≡ false → convert_refusal e i u l ≡ 12
  unfolding convert_refusal
  is_12 a = stops [] editioned (profiled ∷ long ∷ symbols ∷ few ∷ last) tt a

  pub is_1 : T (is_edition e) → is_profile i ≡ false → convert_refusal e i u l ≡ 1
  unfolding convert_refusal
  is_1 a b = stops (editioned ∷ []) profiled (long ∷ symbols ∷ few ∷ last) (a, tt) b

  pub is_2 : T (is_edition e) → T (is_profile i) → convert_lengths_fit i u l ≡ false → convert_refusal e i u l ≡ 2
  unfolding convert_refusal
  is_2 a b c = stops (editioned ∷ profiled ∷ []) long (symbols ∷ few ∷ last) (a, (b, tt)) c

  is_3 : T (is_edition e) → T (is_profile i) → T (convert_lengths_fit i u l) → is_received p u ≡ false → convert_refusal e i u l ≡ 3
  unfolding convert_refusal
  is_3 a b c d = stops (editioned ∷ profiled ∷ long ∷ []) symbols (few ∷ last) (a, (b, (c, tt))) d

  is_11 : T (is_edition e) → T (is_profile i) → T (convert_lengths_fit i u l) → T (is_received p u) → 3 ≤ erasures u
      → convert_refusal e i u l ≡ 11
  unfolding convert_refusal
  is_11 a b c d many = stops (editioned ∷ profiled ∷ long ∷ symbols ∷ []) few last (a, (b, (c, (d, tt)))) (lt-leb (erasures u) 2 many)

  -- those before the reading
  abbrev before : List Test
  before = editioned ∷ profiled ∷ long ∷ symbols ∷ few ∷ []

  passed_before : AllPass before → ReachesReading e i u l
  passed_before (edition, (known, (fit, (received, (most, _))))) =
      record {
        edition = edition;
        in_table = known;
        word_long = eqb→eq (length u) (codeword_length p) (and_left (eqb (length u) (codeword_length p)) (eqb l (codeword_length p)) fit);
        out_long = eqb→eq l (codeword_length p) (and_right (eqb (length u) (codeword_length p)) (eqb l (codeword_length p)) fit);
        symbols = received;
        few = leb→le (erasures u) 2 most;
      }

  pass_before : ReachesReading e i u l → AllPass before
  pass_before t =
      let fit : T (convert_lengths_fit i u l) =
      and_intro (eqb (length u) (codeword_length p)) (eqb l (codeword_length p)) (eq_test t.word_long) (eq_test t.out_long) in
      (t.edition, (t.in_table, (fit, (t.symbols, (le→leb (erasures u) 2 t.few, tt)))))

  -- a call that no number refuses
  pub passed_all : convert_refusal e i u l ≡ 0 → PassedOn e i u l
  unfolding convert_refusal
  passed_all n =
      let (edition, (known, (fit, (received, (most, (reads, (whole, _))))))) = passed_every (convert_tests e i u l) tt n in
      record {
        reaches_reading = passed_before (edition, (known, (fit, (received, (most, tt)))));
        is_codeword =
            subst T (clean_test p (profiles_fit.0 e i known).0 (few_levels i known) u) whole;
      }

  module _ (t : ReachesReading e i u l) where
    sized : Sized p
    sized = (profiles_fit.0 e i t.in_table).0

    prime : Prime p.q
    prime = (profiles_fit.0 e i t.in_table).1

    small : p.q ≤ erasure
    small = few_levels i t.in_table

    -- past the tests before, the number is the reading's
    by_reading : convert_refusal e i u l ≡ first_refusal last
    unfolding convert_refusal
    by_reading = past before last (pass_before t)

    clean_is : is_clean (received_reading p u) ≡ codeword p u
    clean_is = clean_test p sized small u

    nothing_sent : (is_read (received_reading p u) ≡ false) ↔ ((v : List ℕ) → MayBeSent p u v → ⊥)
    nothing_sent = unread_exactly p sized prime small u t.word_long t.symbols t.few

    -- what is clean is read
    clean_read : (d : Reading) → T (is_clean d) → T (is_read d)
    clean_read (read f a b) h = tt
    clean_read unreadable h = h

    pub none_refuses : T (codeword p u) → convert_refusal e i u l ≡ 0
    none_refuses h =
        let whole : T (is_clean (received_reading p u)) = subst T (sym clean_is) h in
        by_reading ∙ past last [] (clean_read (received_reading p u) whole, (whole, tt))

    is_4 : ((v : List ℕ) → MayBeSent p u v → ⊥) → convert_refusal e i u l ≡ 4
    is_4 h = by_reading ∙ stops [] readable (clean ∷ []) tt (nothing_sent.1 h)

    only_four : convert_refusal e i u l ≡ 4 → (v : List ℕ) → MayBeSent p u v → ⊥
    only_four n = nothing_sent.0 (by_four (received_reading p u) (sym by_reading ∙ n))
      where
        by_four : (d : Reading) → first_refusal (asks (is_read d) 4 ∷ asks (is_clean d) 13 ∷ []) ≡ 4 → is_read d ≡ false
        by_four unreadable n = refl
        by_four (read f a b) n = absurd (thirteen (is_clean (read f a b)) n)
          where
            thirteen : (b : Bool) → first_refusal (asks b 13 ∷ []) ≡ 4 → ⊥
            thirteen true n = omega arith
            thirteen false n = omega arith

    is_13 : (v : List ℕ) → MayBeSent p u v → u ≢ v → convert_refusal e i u l ≡ 13
    is_13 v m d =
        let reads : T (is_read (received_reading p u)) = cases (is_read (received_reading p u)) (λ h. subst T (sym h) tt)
        (λ h. absurd (nothing_sent.0 h v m)) in
        let other : codeword p u ≡ false = fails (λ h. d (sent_itself p sized prime small u t.word_long t.symbols t.few h v m)) in
        by_reading ∙ stops (readable ∷ []) clean [] (reads, tt) (clean_is ∙ other)

-- of whatever convert's contract allows
module _ {e i : ℕ} {u : List ℕ} {r : Result Unit Refusal} {out out' : List ℕ} (h : ConvertAllows e i u r out out') where
  -- the number k refuses the call
  pub refused_by_lem : {k : ℕ} → convert_refusal e i u (length out) ≡ k → k ≢ 0 → RefusedBy k r out out'
  refused_by_lem {k} n some = (h.answer ∙ sym (refused_outcome (sym n) some), h.output ∙ sym (output_kept e i u out (sym n) some))

  -- and back
  refusal_is : {k : ℕ} → RefusedBy k r out out' → convert_refusal e i u (length out) ≡ k
  refusal_is (n, _) = sym (number_back _) ∙ ap outcome_number (sym h.answer ∙ n)

  done_is : encoded_outcome r ≡ done → convert_refusal e i u (length out) ≡ 0
  done_is n = sym (number_back _) ∙ ap outcome_number (sym h.answer ∙ n)

pub only_codewords : OnlyCodewords
only_codewords e i u r out out' h n = passed_all e i u (length out) (done_is h n)

pub convert_refuses : ConvertRefuses
convert_refuses e i u r out out' h =
    let l : ℕ = length out in
    record {
      by_12 = λ a. refused_by_lem h (is_12 e i u l a) (λ z. omega arith);
      by_1 = λ a b. refused_by_lem h (is_1 e i u l a b) (λ z. omega arith);
      by_2 = λ a b c. refused_by_lem h (is_2 e i u l a b c) (λ z. omega arith);
      by_3 = λ a b c d. refused_by_lem h (is_3 e i u l a b c d) (λ z. omega arith);
      by_11 = λ a b c d many. refused_by_lem h (is_11 e i u l a b c d many) (λ z. omega arith);
      by_4 = λ t. (λ k. only_four e i u l t (refusal_is h k), λ none. refused_by_lem h (is_4 e i u l t none) (λ z. omega arith));
      by_13 = λ t v m d. refused_by_lem h (is_13 e i u l t v m d) (λ z. omega arith);
    }
