-- 02's rule of decode: the contract says of a word with one or two erasures that it is read as the rule says, and the rule fills a word in
-- one way at most, since two codewords differ in three positions or more.
-- Assumes nothing.
use mathlib.Core.Path.{◌≡◌, sym, ap, subst, ◌∙◌}
use mathlib.Core.List.{List}
use Prim.Native.Nat.{ℕ}
use native.Mathlib.Omega.{arith}
use lib.Dec.{T, eqb}
use lib.ListN.{length, set, length-set}
use Rattle.modular_theory.proofs.Search.{and_right}
use Rattle.code_theory.specs.Parameters.{is_edition, Parameters, Sized, codeword_length}
use Rattle.code_theory.specs.Component.{symbols_below, is_word, erasure, is_received}
use Rattle.code_theory.specs.Codeword.{codeword}
use Rattle.code_theory.specs.Erasures.{erasures}
use Rattle.code_theory.specs.Reading.{Reading, filled_reading}
use Rattle.code_theory.specs.TriedPositions.{tried_positions}
use Rattle.code_theory.specs.Profiles.{is_profile, profile_in}
use Rattle.code_theory.specs.Operations.{answered, report, report_number}
use Rattle.code_theory.specs.Claims as Reads
use Rattle.code_theory.proofs.Merge.{word_length}
use Rattle.code_theory.proofs.Profiles.{profiles_fit}
use Rattle.code_theory.proofs.Apart.{apart}
use Rattle.code_theory.proofs.Whole.{levels_received, erased_received}
use Rattle.code_theory.proofs.Reading.{codeword_word}
use Rattle.code_theory.proofs.Erased.{erasures_filled, erased_by_filling}
use Rattle.code_theory.proofs.TriedPositions.{counts_told}
use Rattle.decoder.specs.declared.word.Decoding.{Decoding}
use Rattle.decoder.specs.Decode.{Answers}
use Rattle.codec_claims.specs.Decoding.{Allowed}
use Rattle.codec_claims.specs.Filling.{WithErasures, FillsErasures}
use Rattle.codec_claims.proofs.Decoding.{none_read, admitted, small, answered_by}

module _ (o i : ℕ) (edition : T (is_edition o)) (t : T (is_profile i)) where
  abbrev p : Parameters
  p = profile_in o i

  sized : Sized p
  sized = (profiles_fit.0 o i t).0

  law : Reads.Fills p 2
  law = erasures_filled p sized (small o i edition t) 2 (apart p sized (profiles_fit.0 o i t).1)

  -- the contract speaks of the rule's reading
  filled_by : (v : List ℕ) → WithErasures o i v → {r : Decoding} {first second : List ℕ} → (a : Allowed o i v r first second)
      → Answers (answered (filled_reading p v) (tried_positions p v)) r a.before_first first a.before_second second
  filled_by v m {r} {first} {second} a =
      subst (λ (d : Reading). Answers (answered d (tried_positions p v)) r a.before_first first a.before_second second)
      (erased_by_filling p v m.some) (admitted o i edition t v m.long m.symbols m.few a)

  -- for which no position is tried
  none_tried_lem : (v : List ℕ) → WithErasures o i v → tried_positions p v ≡ 0
  none_tried_lem v m = (counts_told p v).if_erased m.some

  -- codewords with erased symbols
  module _ (u : List ℕ) (c : T (codeword p u)) where
    word : T (is_word p.q (codeword_length p) u)
    word = codeword_word p sized u c

    long : length u ≡ codeword_length p
    long = word_length p.q (codeword_length p) u word

    symbols : T (is_received p u)
    symbols =
        levels_received p.q u (and_right (eqb (length u) (codeword_length p)) (symbols_below p.q u) word)

    one_erased : (k : ℕ) → erasures (set u k erasure) ≡ 1 → WithErasures o i (set u k erasure)
    one_erased k e =
        record {
          long = length-set u k erasure ∙ long;
          symbols = erased_received p.q u k symbols;
          some = omega arith;
          few = omega arith;
        }

    two_erased : (j k : ℕ) → erasures (set (set u j erasure) k erasure) ≡ 2 → WithErasures o i (set (set u j erasure) k erasure)
    two_erased j k e =
        record {
          long = length-set (set u j erasure) k erasure ∙ length-set u j erasure ∙ long;
          symbols = erased_received p.q (set u j erasure) k (erased_received p.q u j symbols);
          some = omega arith;
          few = omega arith;
        }

  pub decode_fills_at : FillsErasures o i
  decode_fills_at =
      record {
        one =
            λ u c k l r first second a.
            let (count, is) = law.one (omega arith) u c k l in
            let v = set u k erasure in
            let m = one_erased u c k count in
            answered_by o i edition t u is (none_tried_lem v m) (filled_by v m a);
        two =
            λ u c j k less l r first second a.
            let (count, is) = law.two (omega arith) u c j k less l in
            let v = set (set u j erasure) k erasure in
            let m = two_erased u c j k count in
            answered_by o i edition t u is (none_tried_lem v m) (filled_by v m a);
        read =
            λ v m u c agrees r first second a.
            answered_by o i edition t u (law.reads v u m.few c agrees) (none_tried_lem v m) (filled_by v m a);
        only = λ v few u u' c c' a a'. law.only v u u' few c c' a a';
        refused =
            λ v m r first second a.
            let h = filled_by v m a in
            let f = law.refused v in
            let number : Reading → ℕ = λ d. report_number (report (answered d (tried_positions p v))) in (
              λ e. f.0 (none_read (filled_reading p v) (tried_positions p v) (ap report_number (sym h.answer) ∙ e)),
              λ g. ap report_number h.answer ∙ ap number (f.1 g),
            );
      }
