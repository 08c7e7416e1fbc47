-- The outcome of a call and the output of encoding, by the number that refuses the call.
-- Assumes nothing.
use mathlib.Core.Path.{◌≡◌, refl, sym, ap, ◌∙◌}
use mathlib.Core.Logic.{◌≢◌}
use mathlib.Core.List.{List}
use Prim.Native.Nat.{ℕ, zero, suc}
use lib.ListN.{length}
use Rattle.std.specs.Prelude.{Option, None, Result, Ok, Err}
use Rattle.std.specs.Option.{ok_or}
use Rattle.code_theory.specs.LineRule.{line_rule_of, encoded_by}
use Rattle.code_theory.proofs.Refusal.{kept, wrote}
use Rattle.code_theory.specs.Profiles.{profile_in}
use Rattle.code_theory.specs.Operations.{refused_by, outcome, outcome_number, encode_refusal, encode_output}
use Rattle.refusals.specs.declared.Refusal.{Refusal}
use Rattle.refusals.specs.Number.{number_of}
use Rattle.refusals.proofs.Claims.{none_is_success}
use Rattle.encoder.specs.Answer.{EncodeAllows}

-- a call that a number refuses
some_outcome : (n : ℕ) → n ≢ 0 → refused_by n ≡ outcome n
some_outcome zero d = absurd (d refl)
some_outcome (suc n) d = refl

pub refused_outcome : {k n : ℕ} → k ≡ n → k ≢ 0 → refused_by k ≡ outcome n
refused_outcome {k} {n} e d = ap refused_by e ∙ some_outcome n (λ z. d (e ∙ z))

-- the number gives itself back
pub number_back : (n : ℕ) → outcome_number (outcome n) ≡ n
number_back zero = refl
number_back (suc n) = refl

-- a refusal in place of what there is not
pub none_refused : {A : Type 0} {o : Option A} {r s : Refusal} → o ≡ None → Err r ≡ ok_or o s → r ≡ s
none_refused {A} {o} {r} {s} n e =
    let same : ◌≡◌ {A = Result A Refusal} (Err r) (Err s) = rw n at e in
    ap (λ (x : Result A Refusal). elim x [ Ok a ↦ s | Err t ↦ t ]) same

module _ (e i l : ℕ) (a b out : List ℕ) where
  abbrev word : List ℕ
  word = encoded_by (line_rule_of l) (profile_in e i) a b

  pub output_kept : {k : ℕ} → k ≡ encode_refusal e i l a b (length out) → k ≢ 0 → out ≡ encode_output e i l a b out
  unfolding encode_output
  output_kept f d = kept (encode_refusal e i l a b (length out)) word out (λ z. d (f ∙ z))

  pub output_done : 0 ≡ encode_refusal e i l a b (length out) → encoded_by (line_rule_of l) (profile_in e i) a b ≡ encode_output e i l a b out
  unfolding encode_output
  output_done f = wrote (encode_refusal e i l a b (length out)) word out (sym f)

  -- the answers that the contract allows
  pub refused_allows : {r : Refusal} → number_of r ≡ encode_refusal e i l a b (length out) → EncodeAllows e i l a b (Err r) out out
  refused_allows {r} f = record { answer = refused_outcome f (none_is_success r); output = output_kept f (none_is_success r) }

  pub done_allows : {out' : List ℕ} → 0 ≡ encode_refusal e i l a b (length out) → out' ≡ word → EncodeAllows e i l a b (Ok tt) out out'
  done_allows f g = record { answer = ap outcome f; output = g ∙ output_done f }
