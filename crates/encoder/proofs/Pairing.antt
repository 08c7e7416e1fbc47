-- Why the steps put together make the encoded word.
-- Assumes nothing.
use mathlib.Core.Path.{◌≡◌, refl, sym, ap, ap₂, ◌∙◌}
use mathlib.Core.List.{List, [], ◌∷◌}
use Prim.Native.Nat.{ℕ, zero, suc, ◌+◌, ◌-◌, ◌≤◌}
use native.Mathlib.Omega.{arith}
use lib.Dec.{T}
use lib.ListN.{length, take, drop}
use lib.Seq.{get_or-take}
use Rattle.modular_theory.specs.Sum.{weight}
use Rattle.modular_theory.specs.Residue.{Congruent}
use Rattle.modular_theory.proofs.Sum.{dot_one, dot_same}
use Rattle.modular_theory.proofs.Residue.{of_eq, ◌then◌, add}
use Rattle.code_theory.specs.Parameters.{Edition, Parameters, in_edition, Sized, message_length, balanced_length}
use Rattle.code_theory.specs.Component.{Below, is_word, check_row, syndrome, in_code, is_check, candidate, component}
use Rattle.code_theory.specs.Balance.{interleave, with_zero}
use Rattle.code_theory.specs.Codeword.{with_checks, interleaved}
use Rattle.code_theory.specs.LineRule.{LineRule, balanced_by, encoded_by}
use Rattle.code_theory.specs.Profiles.{profile}
use Rattle.code_theory.proofs.Merge.{word_length}
use Rattle.code_theory.proofs.Component.{component_below, component_holding}
use Rattle.code_theory.proofs.Columns.{q_positive, last_row, last_below}
use Rattle.code_theory.proofs.Syndrome.{code_zero}
use Rattle.code_theory.proofs.Pair.{length_component}
use Rattle.code_theory.proofs.Profiles.{profiles_fit}
use Rattle.profiles.specs.declared.row.Row.{Row}
use Rattle.profiles.specs.Row.{parameters, RowOf}
use Rattle.profiles.proofs.Table.{levels_are}
use Rattle.components.specs.Components.{zero_first, components_of}
use Rattle.components.proofs.Lengths.{components_interleaved}
use Rattle.encoder.specs.Symbols.{SymbolArray, ZeroFirst}

interleave_below : (q : ℕ) → 1 ≤ q → (c d : List ℕ) → Below q c → Below q d → Below q (interleave c d)
interleave_below q h [] d hc hd i = h
interleave_below q h (a ∷ c) [] hc hd i = h
interleave_below q h (a ∷ c) (b ∷ d) hc hd zero = hc 0
interleave_below q h (a ∷ c) (b ∷ d) hc hd (suc zero) = hd 0
interleave_below q h (a ∷ c) (b ∷ d) hc hd (suc (suc i)) = interleave_below q h c d (λ j. hc (suc j)) (λ j. hd (suc j)) i

weight_interleave : (x y : List ℕ) → length x ≡ length y → weight (interleave x y) ≡ weight x + weight y
weight_interleave [] [] e = refl
weight_interleave [] (b ∷ y) e = absurd (omega arith)
weight_interleave (a ∷ x) [] e = absurd (omega arith)
weight_interleave (a ∷ x) (b ∷ y) e = omega (arith, weight_interleave x y (omega arith))

-- an edition changes no component
component_in : (o : Edition) (p : Parameters) (a : List ℕ) → component (in_edition o p) a ≡ component p a
unfolding component candidate in_code syndrome is_check
component_in o p a = refl

abbrev pub IsMessage : Parameters → List ℕ → Type 0
IsMessage p a = T (is_word p.q (message_length p) a)

module _ (p : Parameters) (s : Sized p) (a b : List ℕ) (ha : IsMessage p a) (hb : IsMessage p b) where
  first_below : Below p.q (zero_first p a b)
  unfolding zero_first
  first_below zero = q_positive p s
  first_below (suc i) =
      interleave_below p.q (q_positive p s) (component p a) (component p b) (component_below p s a ha) (component_below p s b hb) i

  -- the last check row is of ones
  weight_code : (c : List ℕ) → T (in_code p c) → Congruent p.q (weight c) 0
  weight_code c h =
      of_eq (sym (dot_one c) ∙ dot_same (λ i. 1) (check_row p (p.r - 1)) c (λ i l. sym (last_row p i)))
      then code_zero p c h (p.r - 1) (last_below p s)

  zero_first_lem : ZeroFirst p.q (zero_first p a b)
  unfolding zero_first
  zero_first_lem =
      let e : length (component p a) ≡ length (component p b) = length_component p a ∙ sym (length_component p b) in
      record {
        zero = refl;
        sum =
            of_eq (weight_interleave (component p a) (component p b) e)
            then add (weight_code (component p a) (component_holding p s a ha).code)
            (weight_code (component p b) (component_holding p s b hb).code);
      }

-- x of the messages a and b in profile i, and its row t in the edition o
module _ {o : Edition} {i : ℕ} {t : Row} (of : RowOf o i t) (a b : List ℕ) (pre : IsMessage (profile i) a × IsMessage (profile i) b)
    {x : List ℕ} (made : x ≡ components_of i a b) where
  sized : Sized (profile i)
  unfolding profile
  sized = (profiles_fit.0 13 i of.known).0

  is : take t.balanced x ≡ zero_first (profile i) a b
  is =
      ap₂ take (of.valid.balanced ∙ ap balanced_length of.same) made
      ∙ components_interleaved i a b of.known (word_length (profile i).q (message_length (profile i)) a pre.0)
      (word_length (profile i).q (message_length (profile i)) b pre.1)

  pub pair_symbols : length x ≡ 97 → SymbolArray t.q t.balanced x
  pair_symbols size =
      record {
        size = size;
        some = q_positive (parameters t) of.valid.sized;
        levels = of.valid.levels;
        room = omega (arith, of.valid.balanced, of.valid.length);
        below =
            λ j h. rw (← get_or-take t.balanced x j 0 h, is, levels_are of)
            (first_below (profile i) sized a b pre.0 pre.1 j);
      }

  pub pair_zero_first : ZeroFirst t.q (take t.balanced x)
  pair_zero_first = rw (is, levels_are of) (zero_first_lem (profile i) sized a b pre.0 pre.1)

  -- the zero stands where the edition has it
  pair_interleaved : with_zero (parameters t) (drop 1 (take t.balanced x)) ≡ interleaved (in_edition o (profile i)) a b
  unfolding interleaved zero_first
  pair_interleaved =
      let p : Parameters = in_edition o (profile i) in
      ap₂ (λ (r : Parameters) (l : List ℕ). with_zero r (drop 1 l)) of.same is
      ∙ ap₂ (λ (c d : List ℕ). with_zero p (interleave c d)) (sym (component_in o (profile i) a)) (sym (component_in o (profile i) b))

  pub pair_encoded : (r : LineRule) {w u : List ℕ}
      → w ≡ balanced_by r (parameters t) (with_zero (parameters t) (drop 1 (take t.balanced x)))
      → u ≡ with_checks t.q w → u ≡ encoded_by r (in_edition o (profile i)) a b
  unfolding encoded_by
  pair_encoded r e f = f ∙ ap₂ with_checks (levels_are of) (e ∙ ap₂ (balanced_by r) of.same pair_interleaved)
