-- Demand 2 of encode: the contract gives the encoded word of a call that no number refuses, which is a codeword that carries its pair.
-- Assumes nothing.
use mathlib.Core.Path.{◌≡◌, refl, sym, ap, ◌∙◌}
use mathlib.Core.List.{List, [], ◌∷◌}
use Prim.Native.Nat.{ℕ, suc}
use native.Mathlib.Omega.{arith}
use lib.Dec.{T}
use Rattle.std.specs.Prelude.{Result}
use lib.ListN.{length}
use Rattle.code_theory.specs.Parameters.{is_edition, Parameters, Sized}
use Rattle.code_theory.specs.Codeword.{interleaved}
use Rattle.code_theory.specs.LineRule.{LineRule, rule1, rule2, is_line_rule, line_rule_of, encoded_by}
use Rattle.code_theory.specs.Profiles.{is_profile, profile_in}
use Rattle.code_theory.specs.Refusal.{Test, asks}
use Rattle.code_theory.specs.Operations.{outcome, encode_tests, encode_refusal}
use Rattle.code_theory.specs.Claims.{Encodes}
use Rattle.code_theory.proofs.Pair.{balance_of_pair}
use Rattle.code_theory.proofs.LineRule.{least_peak_of_pair_lem, balanced_by_one}
use Rattle.code_theory.proofs.Encoded.{encoded_carries}
use Rattle.code_theory.proofs.Profiles.{profiles_fit}
use Rattle.code_theory.proofs.Refusal.{past, stops}
use Rattle.profiles.proofs.Refusing.{Accepted, accepted_by}
use Rattle.refusals.specs.declared.Refusal.{Refusal}
use Rattle.encoder.specs.Answer.{EncodeAllows}
use Rattle.codec_claims.specs.Encoding.{encode_lengths_fit, levels_fit, Takes, WordOf, EncodeWrites, RefusedBy, EncodeRefuses}
use Rattle.encoder.proofs.Refusing.{output_kept, output_done}

module _ {o i l : ℕ} {a b : List ℕ} {r : Result Unit Refusal} {out out' : List ℕ} (h : EncodeAllows o i l a b r out out') where
  -- the number k + 1 refuses the call
  refused_by_lem : (k : ℕ) → suc k ≡ encode_refusal o i l a b (length out) → RefusedBy (suc k) r out out'
  refused_by_lem k e = (h.answer ∙ ap outcome (sym e), h.output ∙ sym (output_kept o i l a b out e (λ z. omega arith)))

-- by either rule a choice is found
takes : (r : LineRule) (p : Parameters) → Sized p → (a b : List ℕ) → Takes r p (interleaved p a b)
takes rule1 p s a b = ((balance_of_pair p s a b).1, balanced_by_one p (interleaved p a b))
takes rule2 p s a b = least_peak_of_pair_lem p s a b

-- the word of a call that no number refuses
pub word_of_pair : (o i l : ℕ) (a b : List ℕ) (n : ℕ) → T (is_profile i) → Accepted i a b n
    → WordOf o i l a b (encoded_by (line_rule_of l) (profile_in o i) a b)
unfolding encoded_by
word_of_pair o i l a b n known c =
    let s : Sized (profile_in o i) = (profiles_fit.0 o i known).0 in
    let e : Encodes (profile_in o i) (encoded_by (line_rule_of l) (profile_in o i) a b) a b =
    encoded_carries (line_rule_of l) (profile_in o i) s a b c.first c.second in
    record {
      choice = takes (line_rule_of l) (profile_in o i) s a b;
      word = refl;
      is_codeword = e.is_codeword;
      first = e.first;
      second = e.second;
    }

pub encode_writes : EncodeWrites
unfolding encode_refusal
encode_writes o i l a b r out out' h d p t e s =
    let n : 0 ≡ encode_refusal o i l a b (length out) = sym (past (encode_tests o i l a b (length out)) [] (d, (p, (t, (e, (s, tt)))))) in
    let w : out' ≡ encoded_by (line_rule_of l) (profile_in o i) a b = h.output ∙ sym (output_done o i l a b out n) in
    (h.answer ∙ ap outcome (sym n), rw w (word_of_pair o i l a b (length out) p (accepted_by o i l a b (length out) e s)))

pub encode_refuses : EncodeRefuses
unfolding encode_refusal
encode_refuses o i l a b r out out' h =
    let edition : Test = asks (is_edition o) 12 in
    let profiled : Test = asks (is_profile i) 1 in
    let ruled : Test = asks (is_line_rule l) 14 in
    let long : Test = asks (encode_lengths_fit i a b (length out)) 2 in
    let levels : Test = asks (levels_fit i a b) 3 in
    record {
      by_12 = λ d. refused_by_lem h 11 (sym (stops [] edition (profiled ∷ ruled ∷ long ∷ levels ∷ []) tt d));
      by_1 = λ d p. refused_by_lem h 0 (sym (stops (edition ∷ []) profiled (ruled ∷ long ∷ levels ∷ []) (d, tt) p));
      by_14 = λ d p t. refused_by_lem h 13 (sym (stops (edition ∷ profiled ∷ []) ruled (long ∷ levels ∷ []) (d, (p, tt)) t));
      by_2 = λ d p t e. refused_by_lem h 1 (sym (stops (edition ∷ profiled ∷ ruled ∷ []) long (levels ∷ []) (d, (p, (t, tt))) e));
      by_3 = λ d p t e s. refused_by_lem h 2 (sym (stops (edition ∷ profiled ∷ ruled ∷ long ∷ []) levels [] (d, (p, (t, (e, tt)))) s));
    }
